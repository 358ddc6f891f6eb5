-- A source state of the code as plain data.
use Rattle.rt_meaning.specs.declared.state.SourceState.{SourceState}
use Rattle.rt_meaning.specs.Run.{State}
use Rattle.rt_resolve.specs.World.{World, world}
use Rattle.rt_meaning.specs.States.{tasks}

-- the modules of its system
abbrev pub world_of : SourceState → World
world_of s = world s.modules

-- what the run has come to
abbrev pub state_of : SourceState → State
state_of s = record { rules = s.common.rules; store = s.common.store; tasks = tasks s.tasks.items; taken = s.common.taken }
