use Rattle.rt_accept.proofs.Places.{have_lines}
use Rattle.rt_accept.proofs.laws.faults_have_lines.Goals as goal

pub returns : goal.returns
returns c = have_lines
