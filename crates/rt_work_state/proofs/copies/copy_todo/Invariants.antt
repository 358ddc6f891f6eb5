use Rattle.std.proofs.Common.{◌≡◌, take}
use mathlib.Core.List.{reverse}
use Rattle.rt_work_state.specs.Nodes.{items}
use Rattle.rt_work_state.proofs.copies.copy_todo.Given as goal

abbrev pub invariant-loop-item : goal.invariant-loop-item
invariant-loop-item l = items l.copy ≡ items (reverse (take l.item-index l.from))
