use Rattle.rt_check_bodies_laws.proofs.Faults.{faults_known}
use Rattle.rt_check_bodies_laws.proofs.laws.faults_are_known.Goals as goal

pub returns : goal.returns
returns c = faults_known
