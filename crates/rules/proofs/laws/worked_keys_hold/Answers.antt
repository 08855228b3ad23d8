use Rattle.std.proofs.Common.{refl}
use Rattle.rules.proofs.Keys.{worked_keys}
use Rattle.rules.proofs.laws.worked_keys_hold.Goals as goal

pub returns : goal.returns
returns c = record { yes = refl; law = worked_keys }
