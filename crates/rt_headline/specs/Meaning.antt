-- What an image is faithful to, and what a run of it means.
use Rattle.std.specs.Prelude.{◌≡◌, ℕ, ◌*◌, ◌≤◌, ◌&&◌, ◌==◌, if◌then◌else◌, List, Some, slice_get}
use Rattle.pdp_code.specs.declared.instruction.Reg.TheVariants.{Sp}
use Rattle.pdp_core.specs.declared.cpu.Regs.{Regs}
use Rattle.pdp_core.specs.Execute.{reg}
use Rattle.rt_tree_nodes.specs.declared.brick.ModuleParts.{ModuleParts}
use Rattle.rt_rules.specs.Roster.{Roster}
use Rattle.rt_rules.specs.Rules.{running}
use Rattle.rt_image.specs.declared.image.ImageParts.{ImageParts}
use Rattle.rt_image.specs.Memory.{brick_at, brick_end}
use Rattle.rt_run.specs.declared.machine.End.{End}
use Rattle.rt_run.specs.declared.machine.End.TheVariants.{ReadFault, WriteFault}
use Rattle.rt_run.specs.Boundaries.{State, steps, is_none, all_ended}
use Rattle.rt_report.specs.Reports.{any_failed}
use Rattle.rt_meaning.specs.declared.begin.SourceTask.{SourceTask}
use Rattle.rt_meaning.specs.Run as source
use Rattle.rt_meaning.specs.Runs.{Reached, system_run}
use Rattle.rt_follows.specs.Whole.{Whole}
use Rattle.rt_faithful.specs.Faithful.{Faithful}
use Rattle.rt_imaging.specs.Imaging.{longest}

-- ---- faithful images

-- The image is faithful to these modules and tasks, for every list of ticks, every input and every number of instructions. How their
-- places lie in its data is decided once, for all of these; and no task makes more than 24 instructions for each item of the longest
-- procedure one after the other without a visible step.
pub record IsFaithful (trees : List ModuleParts) (tasks : List SourceTask) (image : ImageParts) : Type 0 where
  pub whole : Whole
  pub modules : whole.ps ≡ trees
  pub bound : whole.bound ≤ 24 * longest trees
  pub faithful : Faithful whole image tasks

-- ---- the source's run

-- The source's run for the placements and the steps of a state of the machine's run: it is there, and has the same output, the same bytes
-- taken and the same rules, and so the same condition of each task.
pub record Means (trees : List ModuleParts) (tasks : List SourceTask) (input : List ℕ) (s : State) : Type 0 where
  pub reached : Reached
  pub run : system_run trees tasks s.placements input (steps s) ≡ Some reached
  pub output : reached.output ≡ s.output
  pub taken : reached.state.taken ≡ s.taken
  pub rules : reached.state.rules ≡ s.rules

-- ---- the status

-- 0 where all tasks ended without error, 1 where they ended and one with an error; 3 where no task is ready, and no tick is left; else 2
abbrev pub status_by : Roster → ℕ → ℕ
status_by r left = if all_ended r.tasks then (if any_failed r.tasks then 1 else 0) else (if is_none (running r) && (left == 0) then 3 else 2)

-- by a state of the source, where so many ticks of the list are left; a console that failed has a status of its own
abbrev pub status_of : End → source.State → ℕ → ℕ
status_of ReadFault s left = 20
status_of WriteFault s left = 21
status_of _ s left = status_by s.rules left

-- ---- the stacks

-- each task's stack pointer lies in its brick, from the first address to that behind its end
abbrev pub StacksLie : ImageParts → State → Type 0
StacksLie image s = (n : ℕ) (g : Regs) → slice_get s.regs n ≡ Some g → (brick_at image n ≤ reg g Sp) × (reg g Sp ≤ brick_end image n)
