use Rattle.std.proofs.Common.{◌≡◌, ◌++◌, drop}
use Rattle.rt_check_module.specs.Items as spec
use Rattle.rt_check_module.proofs.items.make_items.Given as goal

abbrev pub invariant-loop-item : goal.invariant-loop-item
invariant-loop-item l = l.made ++ spec.items_starts l.scope (drop l.item-index l.items) l.left ≡ l.initial.made ++ spec.items_starts l.scope l.items l.parts
