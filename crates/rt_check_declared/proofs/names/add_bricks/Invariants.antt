use Rattle.std.proofs.Common.{◌≡◌, ◌+◌, drop}
use Rattle.rt_check_declared.specs.Names as spec
use Rattle.rt_check_declared.specs.Naming.{state, add_all}
use Rattle.rt_check_declared.proofs.names.add_bricks.Given as goal

abbrev pub invariant-loop-brick : goal.invariant-loop-brick
invariant-loop-brick l = (l.number ≡ l.first + l.brick-index) × (add_all (state l.names) (spec.bricks_of l.number (drop l.brick-index l.bricks)) ≡ add_all (state l.fn.names) (spec.bricks_of l.first l.bricks))
