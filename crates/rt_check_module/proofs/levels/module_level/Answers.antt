use Rattle.std.proofs.Common.{[]}
use Rattle.rt_check_declared.specs.Naming.{plain}
use Rattle.rt_check_module.specs.Levels.{with_all}
use Rattle.rt_check_module.proofs.Walking.{one_added}
use Rattle.rt_check_module.proofs.levels.module_level.Goals as goal

pub loop-number-preserved : goal.loop-number-preserved
loop-number-preserved c =
    one_added c.as_slice.result.now c.args.bricks.now (plain c.args.names.now.table.entries) c.loop-number.number c.loop-number.level c.add_name_at.new.level
    (with_all c.as_slice.result.now c.args.bricks.now [] (plain c.args.names.now.table.entries)) c.in_ok-add_name_at.ensures c.loop-number.invariant
