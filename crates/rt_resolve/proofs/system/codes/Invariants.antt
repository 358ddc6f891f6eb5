use Rattle.std.proofs.Common.{◌≡◌, map, take}
use Rattle.rt_tree_nodes.specs.Code as seen
use Rattle.rt_resolve.specs.Systems as systems
use Rattle.rt_resolve.proofs.system.codes.Given as goal

abbrev pub invariant-loop-brick : goal.invariant-loop-brick
invariant-loop-brick l = map systems.code_held l.made ≡ map (systems.brick_code (seen.scope l.scope)) (take l.brick-index l.bricks)
