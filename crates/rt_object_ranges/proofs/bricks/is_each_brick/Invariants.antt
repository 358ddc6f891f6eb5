use Rattle.std.proofs.Common.{ℕ, ◌<◌, get_or}
use Rattle.rt_object.specs.declared.object.Brick.{Brick}
use Rattle.rt_object.specs.Ranges.{HasBrickRanges}
use Rattle.rt_object_ranges.proofs.bricks.is_each_brick.Given as goal

abbrev pub invariant-loop-brick : goal.invariant-loop-brick
invariant-loop-brick l = (k : ℕ) (d : Brick) → k < l.brick-index → HasBrickRanges l.known.records.now l.known.strings l.known.bricks (get_or l.bricks k d)
