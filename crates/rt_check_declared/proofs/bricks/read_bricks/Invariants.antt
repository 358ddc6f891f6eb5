use Rattle.std.proofs.Common.{◌≡◌, ◌++◌, None, drop}
use Rattle.rt_exprs.specs.Names.{find_in}
use Rattle.rt_check_declared.specs.Verdicts.{with_faults}
use Rattle.rt_check_declared.specs.Bricks.{bricks, brick_faults}
use Rattle.rt_check_declared.proofs.bricks.read_bricks.Given as goal

abbrev pub invariant-loop-declaration : goal.invariant-loop-declaration
invariant-loop-declaration l = (l.found.bricks ++ bricks (find_in l.levels) (drop l.declaration-index l.declarations) ≡ bricks (find_in l.levels) l.declarations) × (with_faults l.found.fault (brick_faults (find_in l.levels) (drop l.declaration-index l.declarations)) ≡ with_faults None (brick_faults (find_in l.levels) l.declarations))
