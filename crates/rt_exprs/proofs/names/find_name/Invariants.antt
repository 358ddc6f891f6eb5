use Rattle.std.proofs.Common.{◌≡◌, drop}
use Rattle.rt_exprs.specs.Names.{find_in}
use Rattle.rt_exprs.proofs.names.find_name.Given as goal

abbrev pub invariant-loop-level : goal.invariant-loop-level
invariant-loop-level l = find_in (drop l.level-index l.levels) l.name ≡ find_in l.levels l.name
