use Rattle.std.proofs.Common.{◌++◌, ◌+◌, ◌-◌}
use Rattle.rt_generated.specs.Texts.{each_from, task_line}
use Rattle.rt_generated.proofs.Lines.{one_more, all_counted}
use Rattle.rt_generated.proofs.texts.put_tasks.Goals as goal

pub loop-k-preserved : goal.loop-k-preserved
loop-k-preserved c = one_more task_line c.loop-k.out.items c.put_task.new.out.items (c.args.out.now.items ++ each_from task_line 1 (c.args.count + 1 - 1)) c.loop-k.k (c.args.count + 1) c.loop-k-test.true c.in_ok-put_task.ensures c.loop-k.invariant

pub returns : goal.returns
returns c = all_counted task_line c.loop-k.out.items c.args.out.now.items c.loop-k.k c.args.count c.loop-k-test.false c.loop-k.invariant
