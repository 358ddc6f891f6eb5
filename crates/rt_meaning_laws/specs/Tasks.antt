-- Tasks that fit: their activations, and their own data. A world fits where each procedure that may be called fits its mode.
use Rattle.std.specs.Prelude.{◌≡◌, ◌≢◌, ℕ, List, [], ◌∷◌, Option, Some, None}
use Rattle.rt_modes.specs.declared.mode.Mode.{Mode, out-Mode}
use Rattle.rt_modes.specs.declared.mode.Mode.TheOpen.{Mode-F}
use Rattle.rt_modes.specs.FullMode.{FullMode}
use Rattle.rt_tree_nodes.specs.declared.store.Datum.{Datum}
use Rattle.rt_tree_nodes.specs.declared.store.Proc.{Proc}
use Rattle.rt_tree.specs.Stored.{System, Typed, TypedOwn}
use Rattle.rt_work_state.specs.Stores.{Store, origin_in}
use Rattle.rt_work_state.specs.Items.{Lacks}
use Rattle.rt_resolve.specs.World.{World}
use Rattle.rt_meaning.specs.Step.{Act, Task, Over, Failed, Doing, entered, leapt, next_of}
use Rattle.rt_tree.specs.FullModes.{MayStand}
use Rattle.rt_meaning_laws.specs.Slots.{Slot, AreOf}
use Rattle.rt_meaning_laws.specs.Trees.{Started, Site, table}
use Rattle.rt_meaning_laws.specs.Work.{IsProcedure, full_of, TodoFits, Ready, Awaits}
use Rattle.rt_meaning_laws.specs.Grounds.{Sound, Grounds}

-- A procedure stands at a site of the world: its numbers lead to what they are taken for, and what is to be done from each of
-- its labels on fits.
pub record IsAt (ps : System) (w : World) (f : Proc) (x : Site) : Type 0 where
  pub grounds : Grounds ps x (w.env f.module)
  pub labels : (l : ℕ) (k : Started) → x.at_label l ≡ Some k → TodoFits ps x k (leapt (w.code f) l) []

-- Where a procedure that has this full mode is entered with arguments of its mode, its work fits them.
pub record MayEnter (ps : System) (w : World) (f : Proc) (full : List ℕ) : Type 0 where
  pub site : Site
  pub is : Mode
  pub parameters : List Mode
  pub opens : out-Mode is ≡ Mode-F.Proc parameters site.answer
  pub stands : MayStand (table site) is
  pub full_is : FullMode (table site) is ≡ full
  pub stays : IsAt ps w f site
  pub begins : (args : List Datum) (kept : Datum) → AreOf ps (table site) parameters args → let a = entered (w.code f) f args kept in (ss : List Slot) × Ready ps site a.todo ss a.values a.locals

pub record WorldFits (ps : System) (w : World) : Type 0 where
  pub sound : Sound ps
  pub enters : (f : Proc) (is : IsProcedure ps f) → MayEnter ps w f (full_of is)

-- ---- activations

-- what one procedure gives is what another waits for
pub data AnswersAs (y x : Site) : Option Mode → Type 0 where
  no_result : y.answer ≡ None → AnswersAs y x None
  one_result : {n m : Mode} → y.answer ≡ Some n → MayStand (table y) n → MayStand (table x) m → FullMode (table y) n ≡ FullMode (table x) m → AnswersAs y x (Some m)

module _ (ps : System) (w : World) where
  -- An activation waits for what the procedure at site y gives.
  pub record WaitsFor (y : Site) (a : Act) : Type 0 where
    pub site : Site
    pub answer : Option Mode
    pub gives : AnswersAs y site answer
    pub stays : IsAt ps w a.proc site
    pub fits : Awaits ps site answer a.todo a.values a.locals

  -- the callers of a procedure, the innermost first, each of whom waits for what the one before gives
  abbrev pub CallersFit : Site → List Act → Type 0
  CallersFit y [] = Unit {0}
  CallersFit y (a ∷ rest) = (h : WaitsFor y a) × CallersFit h.site rest

  pub record ActFits (a : Act) (callers : List Act) : Type 0 where
    pub site : Site
    pub slots : List Slot
    pub stays : IsAt ps w a.proc site
    pub fits : Ready ps site a.todo slots a.values a.locals
    pub callers_fit : CallersFit site callers

  abbrev pub TaskFits : Task → Type 0
  TaskFits (Over own) = TypedOwn ps own
  TaskFits (Failed n own) = TypedOwn ps own
  TaskFits (Doing a callers own) = ActFits a callers × TypedOwn ps own

-- ---- stores

abbrev pub TypedStore : System → Store → Type 0
TypedStore ps S = Typed ps (origin_in S)

-- ---- what may come of a service

-- a task that goes on never lacks a value
abbrev pub NeverLacks : World → Task → Type 0
NeverLacks w (Doing a callers own) = next_of w a ≢ Lacks
NeverLacks w t = Unit {0}
