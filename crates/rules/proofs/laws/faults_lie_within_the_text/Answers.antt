use Rattle.std.proofs.Common.{refl}
use Rattle.rules.proofs.Readings.{faults_lie_within, refuses_as_reading}
use Rattle.rules.proofs.laws.faults_lie_within_the_text.Goals as goal

pub returns : goal.returns
returns c = record { yes = refl; within = faults_lie_within; causes = refuses_as_reading }
