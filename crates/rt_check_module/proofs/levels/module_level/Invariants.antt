use Rattle.std.proofs.Common.{◌≡◌, [], drop}
use Rattle.rt_check_declared.specs.Naming.{plain}
use Rattle.rt_check_module.specs.Levels.{with_all}
use Rattle.rt_check_module.proofs.levels.module_level.Given as goal

abbrev pub invariant-loop-number : goal.invariant-loop-number
invariant-loop-number l = with_all l.module.owns.now l.module.bricks.now l.level (drop l.number (plain l.names.table.entries)) ≡ with_all l.module.owns.now l.module.bricks.now [] (plain l.names.table.entries)
