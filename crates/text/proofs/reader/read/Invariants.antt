use Rattle.text.proofs.Readers.{Reading}
use Rattle.text.proofs.reader.read.Given as goal

abbrev pub invariant-loop-at : goal.invariant-loop-at
invariant-loop-at l = Reading l.reader l.initial.reader.tree.home l.bytes l.at
