-- A faithful image: what it does is what the modules mean, for every list of ticks, every input and every number of instructions.
use Rattle.std.specs.Prelude.{◌≡◌, ℕ, ◌-◌, ◌≤◌, ◌==◌, if◌then◌else◌, List, [], ◌∷◌, Some, length, slice_get}
use Rattle.pdp_code.specs.declared.instruction.Reg.TheVariants.{Sp}
use Rattle.pdp_core.specs.declared.cpu.Regs.{Regs}
use Rattle.pdp_core.specs.Execute.{reg}
use Rattle.rt_image.specs.declared.image.ImageParts.{ImageParts}
use Rattle.rt_image.specs.Memory.{code_end, data_end, block_at, brick_at, brick_end}
use Rattle.rt_image.specs.Ranges.{HasImageRanges}
use Rattle.rt_run.specs.declared.machine.End.{End}
use Rattle.rt_run.specs.declared.machine.End.TheVariants.{Fault}
use Rattle.rt_run.specs.Boundaries.{Made, State, steps, Faulted, Reached, At, Over, boundary}
use Rattle.rt_meaning.specs.declared.begin.SourceTask.{SourceTask}
use Rattle.rt_meaning.specs.Run.{task_at}
use Rattle.rt_meaning_laws.specs.Ends.{EndAsRows}
use Rattle.rt_meaning_laws.specs.SourceRuns.{AreBytes}
use Rattle.rt_meaning.specs.Runs.{system_run}
use Rattle.rt_meaning.specs.Runs as source
use Rattle.rt_follows.specs.Whole.{Whole, Home, Lies, Lays}
use Rattle.rt_follows.specs.Follows.{quiet_after, OwnIs}

-- where the parts of task i lie in an image
abbrev pub home_of : ImageParts → ℕ → Home
home_of image i = record { block = block_at image (i - 1); low = brick_at image (i - 1); high = brick_end image (i - 1) }

-- of the instructions made, the last one first: how many of task i have come since its last visible step
abbrev pub quiet : ℕ → List Made → ℕ
quiet i [] = 0
quiet i (e ∷ es) = if e.task == i then quiet_after e.mark (quiet i es) else quiet i es

-- The source's run is there, for as many visible steps as the machine's run has made, and with each tick after as many steps as the
-- machine's run had made when it took it. It has the same output, the same bytes taken of the input and the same rules, and so the same
-- condition of each task; a task of it has ended just where the rules say so. What all tasks share lies as its store says, and the block
-- of each task, also of one that has ended, as the task's own data say.
pub record Same (w : Whole) (image : ImageParts) (ts : List SourceTask) (input : List ℕ) (s : State) : Type 0 where
  pub reached : source.Reached
  pub run : system_run w.ps ts s.placements input (steps s) ≡ Some reached
  pub output : reached.output ≡ s.output
  pub taken : reached.state.taken ≡ s.taken
  pub rules : reached.state.rules ≡ s.rules
  pub ends : EndAsRows reached.state.tasks s.rules.tasks
  pub shared : Lies w reached.state.store s.memory
  pub blocks : (i : ℕ) → 1 ≤ i → i ≤ length ts → OwnIs w (home_of image i) (task_at reached.state.tasks i) s.memory

-- What holds at a boundary: the source's run is the same; each task has its registers, and its stack pointer lies in its brick; and visible
-- steps of a task that runs come again and again, so code that spins isn't faithful.
pub record IsFaithfulAt (w : Whole) (image : ImageParts) (ts : List SourceTask) (input : List ℕ) (s : State) : Type 0 where
  pub same : Same w image ts input s
  pub registers : length s.regs ≡ length ts
  pub stacks : (i : ℕ) (g : Regs) → 1 ≤ i → slice_get s.regs (i - 1) ≡ Some g → let h = home_of image i in (h.low ≤ reg g Sp) × (reg g Sp ≤ h.high)
  pub progress : (i : ℕ) → 1 ≤ i → i ≤ length ts → quiet i s.made ≤ w.bound

-- so it is where a run goes on, or is over because all tasks have ended or none will be ready; and no instruction faults
abbrev pub Meets : Whole → ImageParts → List SourceTask → List ℕ → Reached → Type 0
Meets w image ts input (At s) = IsFaithfulAt w image ts input s
Meets w image ts input (Over (Faulted i kind at) s) = ⊥
Meets w image ts input (Over why s) = IsFaithfulAt w image ts input s

-- The image is faithful to the modules of w and to these tasks, at each boundary of each run. Where the places of the source lie isn't
-- free: in the data of the image and apart.
pub record Faithful (w : Whole) (image : ImageParts) (ts : List SourceTask) : Type 0 where
  pub ranges : HasImageRanges image
  pub code_ends : w.code_end ≡ code_end image
  pub data_ends : w.data_end ≡ data_end image
  pub lays : Lays w
  pub each : (gaps input : List ℕ) → AreBytes input → (k : ℕ) → Meets w image ts input (boundary image gaps input k)

-- the end of a run that no instruction's fault made
abbrev pub HasNoFault : End → Type 0
HasNoFault (Fault i kind at) = ⊥
HasNoFault _ = Unit {0}
