use Rattle.rt_resolve_laws.proofs.Reading.{reads_written, reads_other, same_where_equal}
use Rattle.rt_resolve_laws.proofs.laws.reads_follow_writes.Goals as goal

pub returns-clause-written : goal.returns-clause-written
returns-clause-written c = reads_written

pub returns-clause-others : goal.returns-clause-others
returns-clause-others c = reads_other

pub returns-clause-same : goal.returns-clause-same
returns-clause-same c = same_where_equal
