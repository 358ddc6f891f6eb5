-- The source run: the tasks over one store, by the supervisor's rules, each tick after a stated number of steps.
use Rattle.std.specs.Prelude.{ℕ, zero, suc, Bool, true, ◌&&◌, ◌==◌, nat_le, if◌then◌else◌, List, [], ◌∷◌, ◌++◌, Option, Some, None, slice_get}
use Rattle.rt_tree_nodes.specs.declared.brick.ModuleParts.{ModuleParts}
use Rattle.rt_resolve.specs.World.{World}
use Rattle.rt_resolve.specs.Systems.{world}
use Rattle.rt_meaning.specs.declared.begin.SourceTask.{SourceTask}
use Rattle.rt_meaning.specs.Run.{State, Stepped, one_step, tick}
use Rattle.rt_meaning.specs.Whole.{beginning}

-- a state, and all that was put out up to it
pub record Reached : Type 0 where
  pub state : State
  pub output : List ℕ

abbrev pub bytes_of : Option ℕ → List ℕ
bytes_of None = []
bytes_of (Some b) = b ∷ []

abbrev pub reached_by : List ℕ → Option Stepped → Option Reached
reached_by output None = None
reached_by output (Some after) = Some (record { state = after.state; output = output ++ bytes_of after.byte })

-- one step; the next byte of the console is the one behind those that were taken
abbrev pub then_step : World → List ℕ → Option Reached → Option Reached
then_step w input None = None
then_step w input (Some r) = reached_by r.output (one_step w r.state (slice_get input r.state.taken))

abbrev pub ticks : ℕ → State → State
ticks zero s = s
ticks (suc n) s = tick (ticks n s)

abbrev pub then_ticks : ℕ → Option Reached → Option Reached
then_ticks n None = None
then_ticks n (Some r) = Some (record { state = ticks n r.state; output = r.output })

-- how many ticks fall after s steps
abbrev pub ticks_after : List ℕ → ℕ → ℕ
ticks_after [] s = 0
ticks_after (p ∷ ps) s = if p == s then suc (ticks_after ps s) else ticks_after ps s

-- The state after n steps, with the ticks that fall after 0, 1, .., n of them, and what was put out. It is there where before
-- each of the steps some task is ready.
abbrev pub after : World → State → List ℕ → List ℕ → ℕ → Option Reached
after w begin placements input zero =
    then_ticks (ticks_after placements 0) (Some (record { state = begin; output = [] }))
after w begin placements input (suc n) =
    then_ticks (ticks_after placements (suc n)) (then_step w input (after w begin placements input n))

-- numbers that never fall, none of them below `least` or above n
abbrev pub rise_from : ℕ → ℕ → List ℕ → Bool
rise_from least n [] = true
rise_from least n (p ∷ ps) = nat_le least p && (nat_le p n && rise_from p n ps)

-- the placements of ticks in a run of n steps never fall, and none of them is above n
abbrev pub are_placements : List ℕ → ℕ → Bool
are_placements ps n = rise_from 0 n ps

-- The run of n steps with a tick after each of these numbers of steps. It is there where these are placements, and before
-- each of the steps some task is ready.
abbrev pub source_run : World → State → List ℕ → List ℕ → ℕ → Option Reached
source_run w begin placements input n = if are_placements placements n then after w begin placements input n else None

-- The run of a whole system: a function of its modules, its tasks, the placements, the console's input and the number of
-- steps.
abbrev pub system_run : List ModuleParts → List SourceTask → List ℕ → List ℕ → ℕ → Option Reached
system_run ms ts placements input n = source_run (world ms) (beginning ms ts) placements input n
