use Rattle.std.proofs.Common.{take}
use Rattle.rt_object.specs.Known.{Knows}
use Rattle.rt_object.specs.Ranges.{AreDifferent, brick_names}
use Rattle.rt_object_ranges.proofs.names.bricks_differ.Given as goal

-- The names so far are known, and differ.
abbrev pub invariant-loop-brick : goal.invariant-loop-brick
invariant-loop-brick l = record {
  known : Knows l.names (take l.brick-index (brick_names l.bricks));
  differ : AreDifferent (take l.brick-index (brick_names l.bricks));
}
