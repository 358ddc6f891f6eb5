use Rattle.std.proofs.Common.{◌≡◌, ◌++◌, drop, map}
use Rattle.rt_check_module.specs.Levels.{own_of}
use Rattle.rt_check_module.proofs.supplied.own_bricks.Given as goal

abbrev pub invariant-loop-brick : goal.invariant-loop-brick
invariant-loop-brick l = l.owns ++ map own_of (drop l.brick-index l.bricks) ≡ map own_of l.bricks
