-- The turn of a task: it carries out some instructions, one after another, with their services. No tick falls between them.
use Rattle.std.specs.Prelude.{if◌then◌else◌, ◌≡◌, ◌<◌, ◌≤◌, ◌+◌, ◌-◌, ◌*◌, ℕ, Bool, true, false, List, ◌++◌, length, Option, Some, None, slice_get}
use Rattle.std.specs.Io.KnownBytes.{Appends}
use Rattle.pdp_core.specs.declared.cpu.Regs.{Regs}
use Rattle.rt_image.specs.declared.image.ImageParts.{ImageParts}
use Rattle.rt_rules.specs.Roster.{Roster}
use Rattle.rt_rules.specs.Rules.{running}
use Rattle.rt_tasks.specs.Parts.{Sharing, Task, at_rest, with_task}
use Rattle.rt_run.specs.declared.carry.Carried.{Carried}
use Rattle.rt_run.specs.declared.carry.Carried.TheVariants.{Went, Served, Fault as Failed, ReadFault as NoRead, WriteFault as NoWrite}
use Rattle.rt_run.specs.declared.stretch.Stretch.{Stretch}
use Rattle.rt_run.specs.declared.machine.End.{End}
use Rattle.rt_run.specs.declared.machine.End.TheVariants.{Limit, Fault, ReadFault, WriteFault}
use Rattle.rt_run.specs.Inputs.{Feed, Gives, Ahead}
use Rattle.rt_run.specs.Boundaries.{State, Over, Faulted, go_by, instructions, steps}
use Rattle.rt_run.specs.Picture.{Standing, Shows, ShowsRunning}
use Rattle.rt_run.specs.Runs.{IsAtBoundary, IsSettled, Asks, Comes, Rests, Reaches}

-- whether an instruction was carried out
abbrev pub counts : Carried → Bool
counts Went = true
counts Served = true
counts _ = false

-- whether it was carried out, and asked nobody
abbrev pub is_gone : Carried → Bool
is_gone Went = true
is_gone _ = false

-- so many instructions, with their marks, and behind them one with this mark, which ended so
abbrev pub ended_by : Carried → ℕ → ℕ → ℕ → Stretch
ended_by x count marks mark = if counts x then record { carried = x; count = count + 1; marks = marks + mark } else record { carried = x; count = count; marks = marks }

-- how a turn of task i ends a run where its last instruction isn't carried out
abbrev pub end_of : Carried → ℕ → End
end_of Went i = Limit
end_of Served i = Limit
end_of (Failed kind at) i = Fault i kind at
end_of NoRead i = ReadFault
end_of NoWrite i = WriteFault

-- no tick is due before so many instructions
abbrev pub IsEarly : State → ℕ → Type 0
IsEarly s most = (gap : ℕ) → slice_get s.gaps 0 ≡ Some gap → s.since + most ≤ gap

-- task i is to run, and no tick is due
pub record IsReady (s : State) (i : ℕ) : Type 0 where
  pub settled : IsSettled s
  pub runs : running s.rules ≡ Some i

-- what stands where the last instruction of task i ended so: one that isn't carried out is the next one there
abbrev pub IsStopped : Carried → ImageParts → List ℕ → State → ℕ → Type 0
IsStopped Went image all s i = Unit {0}
IsStopped Served image all s i = Unit {0}
IsStopped (Failed kind at) image all s i = IsReady s i × (go_by image all s (Some i) ≡ Over (Faulted i kind at) s)
IsStopped NoRead image all s i = IsReady s i × Asks image s i 1
IsStopped NoWrite image all s i = IsReady s i × Asks image s i 2

-- ---- while the task runs

-- how many instructions of at most so many were carried out, and their marks, added up
pub record Counted (x : Stretch) (most : ℕ) : Type 0 where
  pub within : x.count ≤ most
  pub marks : x.marks ≤ 255 * x.count
  pub some : counts x.carried ≡ true → 0 < x.count
  pub full : x.carried ≡ Went → x.count ≡ most
  pub fewer : counts x.carried ≡ false → x.count < most

-- what lasts while a task runs for so many instructions
pub record Lasts (sh : Sharing) (r : Roster) (count : ℕ) (sh2 : Sharing) (r2 : Roster) : Type 0 where
  pub code : sh2.code ≡ sh.code
  pub marks : sh2.marks ≡ sh.marks
  pub places : sh2.places ≡ sh.places
  pub bytes : length sh2.bytes ≡ length sh.bytes
  pub own : length sh2.own ≡ length sh.own
  pub tasks : length r2.tasks ≡ length r.tasks
  pub clock : r2.clock ≡ r.clock
  pub stamp : r2.stamp ≤ r.stamp + 32 * count

-- task i, which is task k counted from 0, is to run from a state that these parts show, and no tick is due before so many instructions
pub record Begins (image : ImageParts) (gaps all : List ℕ) (s : State) (i k most : ℕ) (ts : List Task) (g : Regs) (sh : Sharing) (r : Roster) : Type 0 where
  pub shows : ShowsRunning image s k ts g sh
  pub place : i - 1 ≡ k
  pub rules : s.rules ≡ r
  pub settled : IsSettled s
  pub reached : IsAtBoundary image gaps all s
  pub early : IsEarly s most

-- so many instructions, with their marks, lead from one state to another, which these parts show; the ticks there aren't taken yet
pub record Goes (image : ImageParts) (gaps all : List ℕ) (s : State) (k : ℕ) (ts : List Task) (given : List ℕ) (count marks : ℕ) (g : Regs) (sh : Sharing) (r : Roster) (written written2 : Option (List ℕ)) : Type 0 where
  pub state : State
  pub shows : ShowsRunning image state k ts g sh
  pub rules : state.rules ≡ r
  pub ticks_left : state.gaps ≡ s.gaps
  pub since : state.since ≡ s.since + count
  pub placements : state.placements ≡ s.placements
  pub counted : instructions state ≡ instructions s + count
  pub marked : steps state ≡ steps s + marks
  pub reached : IsAtBoundary image gaps all state
  pub taken : state.taken ≡ s.taken + length given
  pub bytes : List ℕ
  pub output : state.output ≡ s.output ++ bytes
  pub appended : Appends written written2 bytes

-- and the last one ended so
pub record Halts (x : Carried) (image : ImageParts) (gaps all : List ℕ) (s : State) (i k : ℕ) (ts : List Task) (given : List ℕ) (count marks : ℕ) (g : Regs) (sh : Sharing) (r : Roster) (written written2 : Option (List ℕ)) : Type 0 where
  pub goes : Goes image gaps all s k ts given count marks g sh r written written2
  pub stopped : IsStopped x image all goes.state i

-- task i runs for at most so many instructions: what the console, the task and the rules were, and what they are then
pub record Stretches (i most : ℕ) (x : Stretch) (from : Feed) (written : Option (List ℕ)) (g : Regs) (sh : Sharing) (r : Roster) (to : Feed) (written2 : Option (List ℕ)) (h : Regs) (sh2 : Sharing) (r2 : Roster) : Type 0 where
  pub given : List ℕ
  pub over : Bool
  pub gives : Gives from given over to
  pub halts : (image : ImageParts) (gaps all rest : List ℕ) (s : State) (k : ℕ) (ts : List Task) → Begins image gaps all s i k most ts g sh r → Ahead all s.taken given over rest → Halts x.carried image gaps all s i k ts given x.count x.marks h sh2 r2 written written2

-- ---- the task taken from its place and put back

-- the same of a task that runs and then rests
pub record IsLent (i most : ℕ) (x : Stretch) (from : Feed) (written : Option (List ℕ)) (sh : Sharing) (t : Task) (r : Roster) (to : Feed) (written2 : Option (List ℕ)) (sh2 : Sharing) (t2 : Task) (r2 : Roster) : Type 0 where
  pub stretches : Stretches i most x from written t.regs (with_task sh t) r to written2 t2.regs (with_task sh2 t2) r2
  pub lasts : Lasts (with_task sh t) r x.count (with_task sh2 t2) r2
  pub rests : sh2 ≡ at_rest sh2

-- the run comes to a state where the last instruction of task i ended so
pub record Turned (x : Carried) (image : ImageParts) (gaps all : List ℕ) (s : State) (i : ℕ) (given : List ℕ) (d : Standing) (written written2 : Option (List ℕ)) : Type 0 where
  pub comes : Comes image gaps all s given d written written2
  pub stopped : IsStopped x image all comes.state i

-- a turn of task i, of at most so many instructions
pub record Turns (i most : ℕ) (x : Carried) (d : Standing) (from : Feed) (written : Option (List ℕ)) (d2 : Standing) (to : Feed) (written2 : Option (List ℕ)) : Type 0 where
  pub given : List ℕ
  pub over : Bool
  pub gives : Gives from given over to
  pub comes : (image : ImageParts) (gaps all rest : List ℕ) (s : State) → Shows image d s → IsSettled s → IsAtBoundary image gaps all s → IsEarly s most → Ahead all s.taken given over rest → Turned x image gaps all s i given d2 written written2

-- ---- a turn and its ticks

-- the run goes on, or is at its end
abbrev pub GoesOn : ImageParts → List ℕ → List ℕ → ℕ → State → List ℕ → Option End → Standing → Option (List ℕ) → Option (List ℕ) → Type 0
GoesOn image gaps all limit s given None d written written2 = Rests image gaps all s given d written written2
GoesOn image gaps all limit s given (Some end) d written written2 = Reaches image gaps all limit s given end d written written2

-- a turn of the running task with the ticks behind it, or the end of the run
pub record Advances (limit : ℕ) (end : Option End) (d : Standing) (from : Feed) (written : Option (List ℕ)) (d2 : Standing) (to : Feed) (written2 : Option (List ℕ)) : Type 0 where
  pub given : List ℕ
  pub over : Bool
  pub gives : Gives from given over to
  pub goes : (image : ImageParts) (gaps all rest : List ℕ) (s : State) → Shows image d s → IsSettled s → IsAtBoundary image gaps all s → Ahead all s.taken given over rest → GoesOn image gaps all limit s given end d2 written written2
