use Rattle.std.proofs.Common.{◌≡◌, ◌+◌, drop}
use Rattle.rt_check_declared.specs.Names as spec
use Rattle.rt_check_declared.specs.Naming.{state, add_all}
use Rattle.rt_check_declared.proofs.names.add_items.Given as goal

abbrev pub invariant-loop-item : goal.invariant-loop-item
invariant-loop-item l = (l.number ≡ l.first + l.item-index) × (add_all (state l.names) (spec.items_of l.brick l.number (drop l.item-index l.items)) ≡ add_all (state l.fn.names) (spec.items_of l.brick l.first l.items))
