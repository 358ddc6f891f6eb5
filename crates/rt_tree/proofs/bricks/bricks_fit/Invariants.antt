use Rattle.std.proofs.Common.{◌≡◌, drop}
use Rattle.std.specs.List.{list_all}
use Rattle.rt_tree_nodes.specs.Code as seen
use Rattle.rt_tree.specs.Modules as modules
use Rattle.rt_tree.proofs.bricks.bricks_fit.Given as goal

abbrev pub invariant-loop-brick : goal.invariant-loop-brick
invariant-loop-brick l = list_all (modules.brick_fits (seen.scope l.scope)) (drop l.brick-index l.bricks) ≡ list_all (modules.brick_fits (seen.scope l.scope)) l.bricks
