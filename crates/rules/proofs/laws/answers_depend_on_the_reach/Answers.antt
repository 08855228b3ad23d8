use Rattle.std.proofs.Common.{refl}
use Rattle.rules.proofs.Reaches.{answers_by_reach}
use Rattle.rules.proofs.laws.answers_depend_on_the_reach.Goals as goal

pub returns : goal.returns
returns c = record { yes = refl; law = answers_by_reach }
