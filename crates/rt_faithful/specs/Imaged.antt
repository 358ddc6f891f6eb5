-- What a linker has to establish of an image for it to be faithful.
use Rattle.std.specs.Prelude.{◌≡◌, ℕ, true, ◌+◌, ◌-◌, ◌*◌, ◌<◌, ◌≤◌, List, [], ◌∷◌, Some, map, slice_get}
use Rattle.pdp_code.specs.declared.instruction.Operand.TheVariants.{Absolute}
use Rattle.pdp_code.specs.declared.instruction.Reg.TheVariants.{Pc}
use Rattle.pdp_code.specs.declared.instruction.Instr.TheVariants.{Call, Trap}
use Rattle.rt_tree_nodes.specs.declared.store.Proc.{Proc}
use Rattle.rt_image.specs.declared.image.ImageParts.{ImageParts}
use Rattle.rt_image.specs.declared.image.ImageTask.{ImageTask}
use Rattle.rt_image.specs.Memory.{code_end, data_end, start_memory, mark_at}
use Rattle.rt_image.specs.Ranges.{HasImageRanges}
use Rattle.rt_run.specs.Boundaries.{priority_of}
use Rattle.rt_work_state.specs.Stores.{first_own}
use Rattle.rt_resolve.specs.Starting.{starting_store}
use Rattle.rt_meaning.specs.declared.begin.SourceTask.{SourceTask}
use Rattle.rt_meaning.specs.Roots.{root_of, priorities}
use Rattle.rt_meaning_laws.specs.Modules.{ModulesFit}
use Rattle.rt_meaning_laws.specs.Starting.{TasksMatch}
use Rattle.rt_follows.specs.Whole.{Whole, Home, Lies, OwnLies}
use Rattle.rt_follows.specs.Held.{CodeAt, shown}
use Rattle.rt_follows.specs.Linked.{Linked}
use Rattle.rt_faithful.specs.Faithful.{home_of}

-- A task of the image with this root: the words by which it enters it, its own data in its block, and room for all that the root needs.
pub record Begins (w : Whole) (h : Home) (t : ImageTask) (root : Proc) : Type 0 where
  pub reached : w.reached root ≡ true
  pub enters : CodeAt w h t.entry (shown (Call Pc (Absolute (w.entry root))) ∷ shown (Trap 11) ∷ [])
  pub own_data : OwnLies w first_own t.block
  pub room : h.low + 2 * w.needs 0 root ≤ h.high

-- The image is that of w: it keeps the ranges of images; its code and its marks are those of w, which is linked; its data are those with
-- which the modules begin; and its tasks are these, one by one. The modules fit, and so do the tasks.
pub record Imaged (w : Whole) (image : ImageParts) (ts : List SourceTask) : Type 0 where
  pub linked : Linked w
  pub modules : ModulesFit w.ps
  pub match : TasksMatch w.ps ts
  pub ranges : HasImageRanges image
  pub code_ends : w.code_end ≡ code_end image
  pub data_ends : w.data_end ≡ data_end image
  pub code : (a : ℕ) → a < code_end image → start_memory image a ≡ w.code a
  pub marks : (a : ℕ) → w.marks a ≡ mark_at image a
  pub shared : Lies w (starting_store w.ps) (start_memory image)
  pub same_priorities : map priority_of image.tasks ≡ priorities ts
  pub begins : (i : ℕ) (t : ImageTask) (x : SourceTask) → 1 ≤ i → slice_get image.tasks (i - 1) ≡ Some t → slice_get ts (i - 1) ≡ Some x → Begins w (home_of image i) t (root_of x)
