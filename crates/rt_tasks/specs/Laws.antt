-- Laws of the parts.
use Rattle.std.specs.Prelude.{◌≡◌, ℕ, Some, slice_get}
use Rattle.rt_image.specs.declared.image.ImageParts.{ImageParts}
use Rattle.rt_image.specs.declared.image.ImageTask.{ImageTask}
use Rattle.rt_image.specs.Memory.{start_memory}
use Rattle.rt_image.specs.Ranges.{HasImageRanges}
use Rattle.rt_tasks.specs.Parts.{Sharing, Task, task_of, with_task, at_rest}
use Rattle.rt_tasks.specs.Start.{start_sharing, start_task}
use Rattle.rt_tasks.specs.Whole.{whole}

-- a task that is dispatched and parked, with no instruction between, is as it was, and so is what all tasks share
abbrev pub ParkUndoesDispatch : Type 0
ParkUndoesDispatch = (s : Sharing) (t : Task) → (task_of t.regs (with_task s t) ≡ t) × (at_rest (with_task s t) ≡ at_rest s)

-- at the start the parts of any task, put beside what all tasks share and the bytes of the others, are the memory of the image
abbrev pub LieSideBySide : Type 0
LieSideBySide = (i : ImageParts) → HasImageRanges i → (n : ℕ) (t : ImageTask) → slice_get i.tasks n ≡ Some t → (a : ℕ) → whole (with_task (start_sharing i) (start_task i n t)) (start_memory i) a ≡ start_memory i a
