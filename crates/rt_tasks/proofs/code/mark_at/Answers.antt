use Rattle.rt_tasks.proofs.Words.{mark_at_address}
use Rattle.rt_tasks.proofs.code.mark_at.Goals as goal

pub returns-in-Some : goal.returns-in-Some
returns-in-Some c = mark_at_address c.args.code.now c.args.at c.halved.result c.in-Some.word.now c.requires c.halved.ensures c.in-Some.ensures.lookup.3.0 c.in-Some.ensures.lookup.1
