-- States of a source run that fit: a typed store, and tasks that fit. Each step and each tick leaves such a state.
use Rattle.std.specs.Prelude.{ℕ, ◌<◌, List, [], ◌∷◌, Option, Some, None}
use Rattle.rt_rules.specs.Roster.{InRanges}
use Rattle.rt_tree.specs.Stored.{System}
use Rattle.rt_resolve.specs.World.{World}
use Rattle.rt_meaning.specs.Run.{State, Stepped, one_step, tick}
use Rattle.rt_meaning.specs.Step.{Task}
use Rattle.rt_meaning_laws.specs.Tasks.{TaskFits, TypedStore, NeverLacks}

abbrev pub AllFit : System → World → List Task → Type 0
AllFit ps w [] = Unit {0}
AllFit ps w (t ∷ ts) = TaskFits ps w t × AllFit ps w ts

abbrev pub NoneLacks : World → List Task → Type 0
NoneLacks w [] = Unit {0}
NoneLacks w (t ∷ ts) = NeverLacks w t × NoneLacks w ts

pub record StateFits (ps : System) (w : World) (s : State) : Type 0 where
  pub typed : TypedStore ps s.store
  pub tasks : AllFit ps w s.tasks
  pub rules : InRanges s.rules

-- the next byte of the console
abbrev pub IsInput : Option ℕ → Type 0
IsInput None = Unit {0}
IsInput (Some b) = b < 256

-- what happens in a run: a tick, or a step of the running task, where this is the next byte of the console
pub data Happening : Type 0 where
  a_tick : Happening
  a_step : (input : Option ℕ) → Happening

abbrev pub state_after : State → Option Stepped → State
state_after s None = s
state_after s (Some r) = r.state

abbrev pub happens : World → State → Happening → State
happens w s a_tick = tick s
happens w s (a_step input) = state_after s (one_step w s input)

abbrev pub after : World → State → List Happening → State
after w s [] = s
after w s (h ∷ hs) = after w (happens w s h) hs

abbrev pub MayHappen : List Happening → Type 0
MayHappen [] = Unit {0}
MayHappen (a_tick ∷ hs) = MayHappen hs
MayHappen (a_step input ∷ hs) = IsInput input × MayHappen hs
