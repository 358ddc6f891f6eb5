use Rattle.std.proofs.Common.{take}
use Rattle.rt_image.specs.Ranges.{HaveDifferentNames}
use Rattle.rt_image.proofs.ranges.have_different_names.Given as goal

abbrev pub invariant-loop-number : goal.invariant-loop-number
invariant-loop-number l = HaveDifferentNames (take l.number l.tasks)
