use Rattle.rt_replay.proofs.Written.{written_is_read}
use Rattle.rt_replay.proofs.laws.written_reports_are_read.Goals as goal

pub returns : goal.returns
returns c = written_is_read
