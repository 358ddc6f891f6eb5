-- The laws: a typed store stays typed.
use Rattle.std.specs.Prelude.{◌≡◌, ℕ, true, List, Some}
use Rattle.rt_modes.specs.declared.mode.Mode.{Mode, out-Mode}
use Rattle.rt_modes.specs.declared.mode.ModeTable.{ModeTable}
use Rattle.rt_modes.specs.FullMode.{FullMode}
use Rattle.rt_tree_nodes.specs.declared.brick.ModuleParts.{ModuleParts}
use Rattle.rt_tree_nodes.specs.declared.store.Datum.{Datum}
use Rattle.rt_tree_nodes.specs.declared.store.Location.{Location}
use Rattle.rt_tree_nodes.specs.Typing.{is_value}
use Rattle.rt_rules.specs.declared.service.Outcome.{Outcome}
use Rattle.rt_tree.specs.Stored.{System, module_of, StandsAt, Suits}
use Rattle.rt_work_state.specs.Stores.{Store, read, write}
use Rattle.rt_work_state.specs.Items.{Env, Item}
use Rattle.rt_work.specs.Task.{next}
use Rattle.rt_resolve.specs.Systems.{world}
use Rattle.rt_resolve.specs.World.{World}
use Rattle.rt_meaning.specs.declared.begin.SourceTask.{SourceTask}
use Rattle.rt_meaning.specs.Run.{State}
use Rattle.rt_meaning.specs.Step.{Task, request, task_step}
use Rattle.rt_meaning.specs.Whole.{beginning}
use Rattle.rt_tree.specs.FullModes.{MayStand}
use Rattle.rt_meaning_laws.specs.Levels.{IsTableOf}
use Rattle.rt_meaning_laws.specs.Slots.{LeadsTo, IsOwn, IsOf, Slot}
use Rattle.rt_meaning_laws.specs.Trees.{Site}
use Rattle.rt_meaning_laws.specs.Work.{Ready, NextFits}
use Rattle.rt_meaning_laws.specs.Grounds.{Sound, Grounds}
use Rattle.rt_meaning_laws.specs.Tasks.{WorldFits, TaskFits, TypedStore, NeverLacks}
use Rattle.rt_meaning.specs.Answers.{MayCome}
use Rattle.rt_meaning_laws.specs.Runs.{StateFits, NoneLacks, Happening, after, MayHappen}
use Rattle.rt_meaning_laws.specs.Systems.{SystemFits}
use Rattle.rt_meaning_laws.specs.Starting.{NumbersFit, TasksMatch}
use Rattle.rt_meaning_laws.specs.Modules.{ModulesFit}

-- ---- one activation

-- The invisible work of what fits lacks nothing, and the next visible step fits.
abbrev pub WorkFits : Type 0
WorkFits = (ps : System) (x : Site) (e : Env) (todo : List Item) (ss : List Slot) (vs ls : List Datum) → Sound ps → Grounds ps x e → Ready ps x todo ss vs ls → NextFits ps x e (next e todo vs ls)

-- ---- reads, writes and calls

-- What is read in a typed store where a place leads is of the place's mode.
abbrev pub ReadsFit : Type 0
ReadsFit = (ps : System) (t : ModeTable) (S : Store) (own : List Datum) (m : Mode) (l : Location) → Sound ps → IsTableOf ps t → TypedStore ps S → LeadsTo ps t m l → is_value (out-Mode m) ≡ true → IsOf ps t m (read S own l)

-- A typed store stays typed where a value that suits its place is written.
abbrev pub WritesKeep : Type 0
WritesKeep = (ps : System) (S : Store) (l : Location) (u : ModeTable) (w : Mode) (d : Datum) → StandsAt ps l u w → TypedStore ps S → Suits ps u w d → TypedStore ps (write S l d)

-- A value of a mode of one module is of each mode of another module with the same full mode: so arguments and results pass.
abbrev pub ValuesPass : Type 0
ValuesPass = (ps : System) (t u : ModeTable) (m n : Mode) (d : Datum) → Sound ps → IsTableOf ps t → IsTableOf ps u → MayStand t m → MayStand u n → FullMode t m ≡ FullMode u n → IsOf ps t m d → IsOf ps u n d

-- Modes to whose places one location leads have one full mode, whichever modules they stand in.
abbrev pub OneModeAPlace : Type 0
OneModeAPlace = (ps : System) (t u : ModeTable) (m n : Mode) (l : Location) → LeadsTo ps t m l → LeadsTo ps u n l → FullMode t m ≡ FullMode u n

-- Modes as one of which an item of a task's own data may be read and written have one full mode, too.
abbrev pub OneModeAnOwn : Type 0
OneModeAnOwn = (t u : ModeTable) (k : ℕ) (m n : Mode) → IsOwn t k m → IsOwn u k n → FullMode t m ≡ FullMode u n

-- ---- steps and runs

-- A visible step of a task that fits, over a typed store, lacks nothing, and it leaves a typed store and a task that fits.
abbrev pub StepsKeep : Type 0
StepsKeep = (ps : System) (w : World) (t : Task) (S : Store) (o : Outcome) → WorldFits ps w → TypedStore ps S → TaskFits ps w t → MayCome (request w t) o
    → NeverLacks w t × TypedStore ps (task_step w t S o).store × TaskFits ps w (task_step w t S o).task

-- From a state that fits each state of the run fits, and no task ever lacks a value.
abbrev pub RunsKeep : Type 0
RunsKeep = (ps : System) (w : World) (s : State) (hs : List Happening) → WorldFits ps w → StateFits ps w s → MayHappen hs → StateFits ps w (after w s hs) × NoneLacks w (after w s hs).tasks

-- ---- systems

-- The world of a system that fits fits.
abbrev pub SystemsFit : Type 0
SystemsFit = (ps : System) → SystemFits ps → WorldFits ps (world ps)

-- In the state in which a system of modules that fits begins the store is typed, and each task fits.
abbrev pub StartsFit : Type 0
StartsFit = (ps : System) (ts : List SourceTask) → SystemFits ps → ((m : ℕ) (p : ModuleParts) → module_of ps m ≡ Some p → NumbersFit p) → TasksMatch ps ts → StateFits ps (world ps) (beginning ps ts)

-- A system of modules that fit fits.
abbrev pub ModulesMakeSystems : Type 0
ModulesMakeSystems = (ps : System) → ModulesFit ps → SystemFits ps

-- A typed store stays typed: in every state of the source run of modules that fit, whatever ticks and steps come, the store is
-- typed and each task fits, and no task lacks a value.
abbrev pub StoresStayTyped : Type 0
StoresStayTyped = (ps : System) (ts : List SourceTask) (hs : List Happening) → ModulesFit ps → TasksMatch ps ts → MayHappen hs
    → StateFits ps (world ps) (after (world ps) (beginning ps ts) hs) × NoneLacks (world ps) (after (world ps) (beginning ps ts) hs).tasks
