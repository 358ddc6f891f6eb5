use Rattle.std.proofs.Common.{◌≡◌, drop}
use Rattle.rt_check_declared.specs.Naming.{plain}
use Rattle.rt_check_module.specs.Levels.{with_modes, mode_names}
use Rattle.rt_check_module.proofs.levels.mode_level.Given as goal

abbrev pub invariant-loop-number : goal.invariant-loop-number
invariant-loop-number l = with_modes l.level (drop l.number (plain l.names.table.entries)) ≡ mode_names (plain l.names.table.entries)
