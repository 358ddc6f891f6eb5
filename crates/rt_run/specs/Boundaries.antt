-- The machine run under ticks, boundary by boundary: the registers of all tasks and one memory for all, the supervisor's rules, the
-- console and the ticks. At each boundary between two instructions five rules hold, in this order: where all tasks have ended, the
-- run ends; a tick whose gap is over is taken; where no task is ready, the next tick is taken at once, and where none is left the run
-- is stalled; where the count of instructions is the limit, the run ends; the running task carries out one instruction.
use Rattle.std.specs.Prelude.{◌≡◌, ℕ, zero, suc, ◌+◌, ◌-◌, List, [], ◌∷◌, ◌++◌, Option, Some, None, Bool, true, false, not, if◌then◌else◌, nat_le, ◌&&◌, ◌||◌, slice_get, slice_set, map, length}
use Rattle.pdp_code.specs.declared.instruction.Reg.TheVariants.{Pc}
use Rattle.pdp_core.specs.declared.cpu.Regs.{Regs}
use Rattle.pdp_core.specs.declared.cpu.Kind.{Kind}
use Rattle.pdp_core.specs.declared.cpu.Stop.{Stop}
use Rattle.pdp_core.specs.declared.cpu.Stop.TheVariants.{Fault}
use Rattle.pdp_core.specs.Execute.{Outcome, execute, reg}
use Rattle.pdp_core.specs.Protection.{protected}
use Rattle.rt_image.specs.declared.image.ImageParts.{ImageParts}
use Rattle.rt_image.specs.declared.image.ImageTask.{ImageTask}
use Rattle.rt_image.specs.Memory.{start_memory, mark_at}
use Rattle.rt_rules.specs.declared.task.TaskRow.{TaskRow}
use Rattle.rt_rules.specs.Roster.{Roster, has_ended}
use Rattle.rt_rules.specs.Rules as rules
use Rattle.rt_tasks.specs.Start.{places_of, start_regs}
use Rattle.rt_run.specs.Ticking.{Ticking}
use Rattle.rt_run.specs.Services.{Served, serve, asked_by, answered}

-- an instruction that was carried out: of which task, and its mark
pub record Made : Type 0 where
  pub task : ℕ
  pub mark : ℕ

pub record State : Type 0 where
  pub regs : List Regs  -- of tasks 1, 2 and so on
  pub memory : ℕ → ℕ  -- the byte at each address, one memory for all tasks
  pub rules : Roster
  pub taken : ℕ  -- so many bytes of the console
  pub output : List ℕ
  pub gaps : List ℕ  -- of the ticks that are left
  pub since : ℕ  -- instructions since the last tick, or since the start
  pub placements : List ℕ  -- of the ticks taken: the visible steps at the boundary of each
  pub made : List Made  -- the instructions so far, the last one first

abbrev pub instructions : State → ℕ
instructions s = length s.made

-- the marks of instructions, added up
abbrev pub steps_of : List Made → ℕ
steps_of [] = 0
steps_of (e ∷ es) = steps_of es + e.mark

-- the visible steps so far
abbrev pub steps : State → ℕ
steps s = steps_of s.made

abbrev pub all_ended : List TaskRow → Bool
all_ended [] = true
all_ended (t ∷ ts) = has_ended t.state && all_ended ts

abbrev pub is_none : Option ℕ → Bool
is_none None = true
is_none (Some i) = false

-- ---- ticks

-- a tick is due once its gap is over, and at once where no task is ready; none is once all tasks have ended
abbrev pub is_due : ℕ → Roster → ℕ → Bool
is_due gap r since = not (all_ended r.tasks) && (nat_le gap since || is_none (rules.running r))

-- takes a tick; these gaps are left. The next gap counts from here
abbrev pub ticked : State → List ℕ → State
ticked s gaps = record s { rules = rules.tick s.rules; gaps = gaps; since = 0; placements = s.placements ++ steps s ∷ [] }

-- takes the ticks that are due, of these
abbrev pub settle : List ℕ → State → State
settle [] s = s
settle (gap ∷ gaps) s = if is_due gap s.rules s.since then settle gaps (ticked s gaps) else s

-- a state with these rules and these ticks
abbrev pub with_ticks : State → Roster → Ticking → State
with_ticks s r t = record s { rules = r; gaps = t.gaps; since = t.since; placements = t.placements }

-- the ticks that are due take the rules and the ticks from the first to the second, at this number of visible steps
abbrev pub Settles : ℕ → Roster → Ticking → Roster → Ticking → Type 0
Settles count r t r2 t2 = (s : State) → steps s ≡ count → settle t.gaps (with_ticks s r t) ≡ with_ticks s r2 t2

-- ---- boundaries

-- why a run is over: all tasks have ended; none is ready and no tick is left; the next instruction faults
pub data Why : Type 0 where
  AllEnded : Why
  Stalled : Why
  Faulted : (task : ℕ) (kind : Kind) (at : ℕ) → Why

-- where a run has come to: a boundary before another instruction, or its end
pub data Reached : Type 0 where
  At : (state : State) → Reached
  Over : (why : Why) (state : State) → Reached

abbrev pub state_of : Reached → State
state_of (At s) = s
state_of (Over why s) = s

abbrev pub judge_by : State → Option ℕ → Reached
judge_by s None = Over (if all_ended s.rules.tasks then AllEnded else Stalled) s
judge_by s (Some i) = At s

-- a boundary, whose state is taken after its ticks
abbrev pub boundary_at : State → Reached
boundary_at s = let t = settle s.gaps s in judge_by t (rules.running t.rules)

-- ---- instructions

-- after an instruction of task i with this mark, and its service
abbrev pub made_by : State → ℕ → ℕ → Outcome → Served → State
made_by s i mark x v = record {
  regs = slice_set s.regs (i - 1) (answered x.regs v.answer);
  memory = x.world.bytes;
  rules = v.rules;
  taken = v.taken;
  output = s.output ++ v.bytes;
  gaps = s.gaps;
  since = s.since + 1;
  placements = s.placements;
  made = record { task = i; mark = mark } ∷ s.made;
}

-- the boundary after an instruction of task i, by how it stopped; one that faults isn't carried out
abbrev pub landed_by : List ℕ → State → ℕ → ℕ → Outcome → Stop → Reached
landed_by input s i mark x (Fault kind at) = Over (Faulted i kind at) s
landed_by input s i mark x stop = boundary_at (made_by s i mark x (serve s.rules s.taken (slice_get input s.taken) i (asked_by stop x.regs)))

abbrev pub landed : List ℕ → State → ℕ → ℕ → Outcome → Reached
landed input s i mark x = landed_by input s i mark x x.stop

-- one instruction of task i with these registers, over the one memory with this task's protection
abbrev pub instruction : ImageParts → List ℕ → State → ℕ → Option Regs → Reached
instruction image input s i None = Over Stalled s
instruction image input s i (Some g) = landed input s i (mark_at image (reg g Pc)) (execute (protected (places_of image (i - 1)) s.memory) g)

-- one instruction of the running task
abbrev pub go_by : ImageParts → List ℕ → State → Option ℕ → Reached
go_by image input s None = Over Stalled s
go_by image input s (Some i) = instruction image input s i (slice_get s.regs (i - 1))

-- a run that is over stays over
abbrev pub onward : ImageParts → List ℕ → Reached → Reached
onward image input (At s) = go_by image input s (rules.running s.rules)
onward image input (Over why s) = Over why s

-- ---- the run

abbrev pub priority_of : ImageTask → ℕ
priority_of t = t.priority

-- the registers of the tasks from number n on, counted from 0
abbrev pub all_regs : ImageParts → ℕ → List ImageTask → List Regs
all_regs image n [] = []
all_regs image n (t ∷ ts) = start_regs (places_of image n) t.entry ∷ all_regs image (n + 1) ts

abbrev pub start : ImageParts → List ℕ → State
start image gaps = record {
  regs = all_regs image 0 image.tasks;
  memory = start_memory image;
  rules = rules.start (map priority_of image.tasks);
  taken = 0;
  output = [];
  gaps = gaps;
  since = 0;
  placements = [];
  made = [];
}

-- the boundary after k instructions, or the end that came before it. A run with limit k is over there, if not before
abbrev pub boundary : ImageParts → List ℕ → List ℕ → ℕ → Reached
boundary image gaps input zero = boundary_at (start image gaps)
boundary image gaps input (suc k) = onward image input (boundary image gaps input k)
