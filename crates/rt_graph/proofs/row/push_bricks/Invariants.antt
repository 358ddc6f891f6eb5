use Rattle.std.proofs.Common.{◌≡◌, ◌≤◌, ◌-◌, ◌++◌}
use Rattle.rt_graph.specs.Numbers.{bricks_from}
use Rattle.rt_graph.proofs.row.push_bricks.Given as goal

abbrev pub invariant-loop-brick : goal.invariant-loop-brick
invariant-loop-brick l = (l.brick ≤ l.count) × (l.row ++ bricks_from l.«module» l.brick (l.count - l.brick) ≡ l.fn.row ++ bricks_from l.«module» 0 l.count)
