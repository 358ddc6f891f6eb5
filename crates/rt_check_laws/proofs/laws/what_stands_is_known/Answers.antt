use Rattle.rt_check_laws.proofs.Known.{faults_are_known}
use Rattle.rt_check_laws.proofs.laws.what_stands_is_known.Goals as goal

pub returns : goal.returns
returns c = faults_are_known c.faults_are_known.ensures
