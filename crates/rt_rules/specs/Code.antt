-- What private functions of the code do, in the terms of the rules.
use Rattle.std.specs.Prelude.{ℕ, Bool}
use Rattle.rt_rules.specs.declared.task.State.{State}
use Rattle.rt_rules.specs.declared.first.Sought.{Sought}
use Rattle.rt_rules.specs.declared.first.Sought.TheVariants as sought
use Rattle.rt_rules.specs.Roster.{Roster, row}
use Rattle.rt_rules.specs.Rules.{is_ready, awaits_event, awaits_facility, with_row, counted, stamp_after}

-- the kinds of task that are looked for
abbrev pub kind_of : Sought → State → Bool
kind_of sought.Ready s = is_ready s
kind_of (sought.Event n) s = awaits_event n s
kind_of (sought.Facility n) s = awaits_facility n s

-- the delay of task i is counted down
abbrev pub count_task : Roster → ℕ → Roster
count_task r i =
    with_row (record r { stamp = stamp_after r.stamp (row r i) }) i (counted r.stamp (row r i))
