-- What the code keeps of a run, as plain data.
use Rattle.std.specs.Prelude.{ℕ, Bool, true, false, List, Option, Some, None}
use Rattle.rt_meaning.specs.declared.state.SourceState.{SourceState}
use Rattle.rt_meaning.specs.Source.{state_of}
use Rattle.rt_meaning.specs.declared.run.Reached.{Reached as ReachedNode}
use Rattle.rt_meaning.specs.Runs.{Reached}

-- what a run has come to
abbrev pub reached_at : SourceState → List ℕ → Reached
reached_at s output = record { state = state_of s; output = output }

abbrev pub reached_if : Bool → SourceState → List ℕ → Option Reached
reached_if true s output = Some (reached_at s output)
reached_if false s output = None

abbrev pub reached : Option ReachedNode → Option Reached
reached None = None
reached (Some r) = Some (reached_at r.state r.output)
