use Rattle.std.proofs.Common.{◌≡◌, map, take}
use Rattle.rt_resolve.specs.Starting as starting
use Rattle.rt_resolve.proofs.starting.bricks_contents.Given as goal

abbrev pub invariant-loop-brick : goal.invariant-loop-brick
invariant-loop-brick l = l.made ≡ map (starting.brick_contents (starting.home l.home)) (take l.brick-index l.bricks)
