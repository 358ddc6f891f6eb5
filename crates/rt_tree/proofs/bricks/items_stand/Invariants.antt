use Rattle.std.proofs.Common.{◌≡◌, drop}
use Rattle.std.specs.List.{list_all}
use Rattle.rt_tree.specs.Modules as modules
use Rattle.rt_tree.proofs.bricks.items_stand.Given as goal

abbrev pub invariant-loop-item : goal.invariant-loop-item
invariant-loop-item l = list_all (modules.item_stands l.fn.records l.brick.kind l.brick.name) (drop l.item-index l.items) ≡ list_all (modules.item_stands l.fn.records l.brick.kind l.brick.name) l.items
