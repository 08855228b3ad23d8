use Rattle.std.proofs.Common.{vec_len}
use Rattle.text.proofs.Trees.{Settles}
use Rattle.text.proofs.tree.Tree.add.Given as goal

abbrev pub invariant-around : goal.invariant-around
invariant-around l = Settles l.fn.self l.fn.datum l.self l.datum

abbrev pub decreases-around : goal.decreases-around
decreases-around l = vec_len l.self.opened
