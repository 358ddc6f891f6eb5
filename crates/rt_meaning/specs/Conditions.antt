-- The conditions of the tasks.
use Rattle.std.specs.Prelude.{List, map}
use Rattle.rt_rules.specs.declared.task.State.{State}
use Rattle.rt_rules.specs.declared.task.TaskRow.{TaskRow}
use Rattle.rt_rules.specs.Roster.{Roster}

abbrev pub condition_of : TaskRow → State
condition_of t = t.state

abbrev pub conditions_of : List TaskRow → List State
conditions_of ts = map condition_of ts

-- each task's condition, as the rules have it
abbrev pub conditions : Roster → List State
conditions r = conditions_of r.tasks
