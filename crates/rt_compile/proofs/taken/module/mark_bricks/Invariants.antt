use Rattle.std.proofs.Common.{◌≡◌, map, drop}
use Rattle.rt_compile.specs.Marks.{all_marked}
use Rattle.rt_modes.specs.FullMode.{joined}
use Rattle.rt_tree.specs.Taken.{in_brick, taken}
use Rattle.rt_compile.proofs.taken.module.mark_bricks.Given as goal

abbrev pub invariant-loop-brick : goal.invariant-loop-brick
invariant-loop-brick l = all_marked (joined (map (in_brick l.module) (drop l.brick-index l.module.bricks))) l.marks ≡ all_marked (taken l.module) l.initial.marks
