-- How the parts of a run show a state of the machine.
use Rattle.std.specs.Prelude.{◌≡◌, ℕ, zero, suc, ◌+◌, ◌-◌, ◌*◌, ◌^◌, ◌<◌, ◌≤◌, List, [], ◌∷◌, Option, Some, None, slice_get, slice_set, slice_index, length, map, if◌then◌else◌}
use Rattle.pdp_core.specs.declared.cpu.Regs.{Regs}
use Rattle.pdp_core.specs.Protection.{within}
use Rattle.rt_image.specs.declared.image.ImageParts.{ImageParts}
use Rattle.rt_rules.specs.Roster.{Roster}
use Rattle.rt_rules.specs.Rules as rules
use Rattle.rt_tasks.specs.Parts.{Sharing, Task, LieInOrder, EndAt, at_rest}
use Rattle.rt_tasks.specs.Start.{places_of, start_sharing, IsStart}
use Rattle.rt_tasks.specs.Whole.{whole}
use Rattle.rt_run.specs.declared.machine.Machine.{Machine}
use Rattle.rt_run.specs.Ticking.{Ticking}
use Rattle.rt_run.specs.Boundaries.{State, instructions, steps, priority_of}

-- the byte of a task's block and brick at an address, or another
abbrev pub task_byte : Task → ℕ → ℕ → ℕ
task_byte t a other = if within t.places.block t.places.brick_end a then slice_index t.own (a - t.places.block) else other

-- the bytes of some tasks; 0 where none has one
unfoldable pub tasks_memory : List Task → ℕ → ℕ
tasks_memory [] a = 0
tasks_memory (t ∷ ts) a = task_byte t a (tasks_memory ts a)

-- the bytes of all but task k, counted from 0
unfoldable pub others_memory : ℕ → List Task → ℕ → ℕ
others_memory k [] a = 0
others_memory zero (t ∷ ts) a = tasks_memory ts a
others_memory (suc k) (t ∷ ts) a = task_byte t a (others_memory k ts a)

abbrev pub regs_of : Task → Regs
regs_of t = t.regs

-- what all share and the tasks are those of an image, and lie where they lay at the start
pub record Stands (image : ImageParts) (s : Sharing) (ts : List Task) : Type 0 where
  pub code : s.code ≡ image.code
  pub marks : s.marks ≡ image.marks
  pub bytes : length s.bytes ≡ length image.bytes
  pub count : length ts ≡ length image.tasks
  pub each : (k : ℕ) (t : Task) → slice_get ts k ≡ Some t → (t.places ≡ places_of image k) × LieInOrder t.own t.places

-- task k runs, counted from 0, with these registers and what all share
pub record ShowsRunning (image : ImageParts) (state : State) (k : ℕ) (ts : List Task) (g : Regs) (s : Sharing) : Type 0 where
  pub regs : state.regs ≡ slice_set (map regs_of ts) k g
  pub memory : state.memory ≡ whole s (others_memory k ts)
  pub there : k < length ts
  pub code : s.code ≡ image.code
  pub marks : s.marks ≡ image.marks
  pub places : s.places ≡ places_of image k

-- the plain data of a run, between two turns
pub record Standing : Type 0 where
  pub shared : Sharing
  pub tasks : List Task
  pub rules : Roster
  pub ticking : Ticking
  pub count : ℕ  -- of instructions
  pub marks : ℕ  -- added up

pub record Shows (image : ImageParts) (d : Standing) (s : State) : Type 0 where
  pub regs : s.regs ≡ map regs_of d.tasks
  pub memory : s.memory ≡ whole (at_rest d.shared) (tasks_memory d.tasks)
  pub rules : s.rules ≡ d.rules
  pub gaps : s.gaps ≡ (d.ticking).gaps
  pub since : s.since ≡ (d.ticking).since
  pub placements : s.placements ≡ (d.ticking).placements
  pub count : instructions s ≡ d.count
  pub steps_taken : steps s ≡ d.marks
  pub stands : Stands image d.shared d.tasks

-- ---- what a run's code keeps

-- the tasks that stand in their places
abbrev pub present : List (Option Task) → List Task
present [] = []
present (None ∷ os) = present os
present (Some t ∷ os) = t ∷ present os

abbrev pub standing : Machine → Standing
standing m = record { shared = m.shared; tasks = present m.tasks.items; rules = m.supervisor; ticking = m.timetable; count = m.instructions; marks = m.steps }

-- between two turns each task is there, and clock, stamp and counts stay in their ranges for a run of 4,000,000,000 instructions
pub record IsComplete (m : Machine) : Type 0 where
  pub all_there : m.tasks.items ≡ map (λ t. Some t) (present m.tasks.items)
  pub same_count : length m.supervisor.tasks ≡ length m.tasks.items
  pub few_tasks : length m.tasks.items ≤ 32
  pub few : m.instructions ≤ 4000000000
  pub low_stamp : m.supervisor.stamp + 33 * length m.timetable.gaps + 32 * (4000000000 - m.instructions) < 2 ^ 63
  pub low_clock : m.supervisor.clock + length m.timetable.gaps < 2 ^ 32 - 1
  pub low_since : m.timetable.since ≤ m.instructions
  pub low_steps : m.steps ≤ 255 * m.instructions
  pub rests : m.shared ≡ at_rest m.shared
  pub ends : (k : ℕ) (t : Task) → slice_get (present m.tasks.items) k ≡ Some t → EndAt m.shared.code m.shared.bytes t.places

-- the first n tasks of an image are in their places, at the start
pub record HaveStarted (image : ImageParts) (n : ℕ) (os : List (Option Task)) : Type 0 where
  pub all_there : os ≡ map (λ t. Some t) (present os)
  pub count : length os ≡ n
  pub each : (k : ℕ) (t : Task) → slice_get (present os) k ≡ Some t → IsStart image k t × LieInOrder t.own t.places

-- the parts of a machine at the start of an image, with these ticks
pub record HasOpened (image : ImageParts) (ticking : Ticking) (m : Machine) : Type 0 where
  pub shared : m.shared ≡ start_sharing image
  pub started : HaveStarted image (length image.tasks) m.tasks.items
  pub supervisor : m.supervisor ≡ rules.start (map priority_of image.tasks)
  pub timetable : m.timetable ≡ ticking
  pub count : m.instructions ≡ 0
  pub marks : m.steps ≡ 0
