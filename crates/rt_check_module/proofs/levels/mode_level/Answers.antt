use Rattle.rt_check_declared.specs.Naming.{plain}
use Rattle.rt_check_module.specs.Levels.{mode_names}
use Rattle.rt_check_module.proofs.Walking.{mode_added}
use Rattle.rt_check_module.proofs.levels.mode_level.Goals as goal

pub loop-number-preserved : goal.loop-number-preserved
loop-number-preserved c =
    mode_added (plain c.args.names.now.table.entries) c.loop-number.number c.loop-number.level c.add_mode_at.new.level (mode_names (plain c.args.names.now.table.entries)) c.in_ok-add_mode_at.ensures c.loop-number.invariant
