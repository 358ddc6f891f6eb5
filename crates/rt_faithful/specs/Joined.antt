-- The machine's run and the source's, side by side.
use Rattle.std.specs.Prelude.{◌≡◌, ℕ, ◌-◌, ◌<◌, ◌≤◌, true, List, Some, length, slice_get}
use Rattle.pdp_core.specs.declared.cpu.Regs.{Regs}
use Rattle.rt_image.specs.declared.image.ImageParts.{ImageParts}
use Rattle.rt_run.specs.Boundaries.{State, steps}
use Rattle.rt_meaning.specs.declared.begin.SourceTask.{SourceTask}
use Rattle.rt_meaning.specs.Run.{task_at}
use Rattle.rt_meaning.specs.Whole.{beginning}
use Rattle.rt_meaning.specs.Runs as source
use Rattle.rt_follows.specs.Whole.{Whole, meaning, Lies}
use Rattle.rt_follows.specs.Follows.{Follows}
use Rattle.rt_faithful.specs.Faithful.{home_of, quiet}

-- The source's run is there for the ticks and the marks so far, with the same output, bytes taken and rules; and each task follows its source's
-- task for every number of instructions, from the memory as it is, of which only the task's brick and block count.
pub record Joined (w : Whole) (image : ImageParts) (ts : List SourceTask) (input : List ℕ) (s : State) : Type 0 where
  pub reached : source.Reached
  pub placed : source.are_placements s.placements (steps s) ≡ true
  pub run : source.after (meaning w) (beginning w.ps ts) s.placements input (steps s) ≡ Some reached
  pub output : reached.output ≡ s.output
  pub taken : reached.state.taken ≡ s.taken
  pub rules : reached.state.rules ≡ s.rules
  pub shared : Lies w reached.state.store s.memory
  pub code : (a : ℕ) → a < w.code_end → s.memory a ≡ w.code a
  pub registers : length s.regs ≡ length ts
  pub follows : (i : ℕ) (g : Regs) → 1 ≤ i → slice_get s.regs (i - 1) ≡ Some g → (k : ℕ) → Follows w (home_of image i) k (quiet i s.made) g s.memory (task_at reached.state.tasks i)
