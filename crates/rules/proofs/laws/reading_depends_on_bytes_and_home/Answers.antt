use Rattle.std.proofs.Common.{refl}
use Rattle.rules.proofs.Readings.{reads_by_bytes_and_home}
use Rattle.rules.proofs.laws.reading_depends_on_bytes_and_home.Goals as goal

pub returns : goal.returns
returns c = record { yes = refl; law = reads_by_bytes_and_home }
