use Rattle.std.proofs.Common.{◌≡◌, length}
use Rattle.modules.specs.Limits.{none_alike}
use Rattle.modules.proofs.whole.all_differ.Given as goal

abbrev pub invariant-loop-rest : goal.invariant-loop-rest
invariant-loop-rest g l = none_alike g.T.Alike.alike l.rest ≡ none_alike g.T.Alike.alike l.items

abbrev pub decreases-loop-rest : goal.decreases-loop-rest
decreases-loop-rest g l = length l.rest
