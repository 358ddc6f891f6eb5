-- The supervisor's rules, as functions on plain data: who runs, what a tick does, and what a service does.
use Rattle.std.specs.Prelude.{ℕ, zero, suc, ◌+◌, ◌-◌, ◌%◌, Bool, true, false, ◌&&◌, ◌||◌, nat_lt, nat_le, ◌==◌, if◌then◌else◌, List, [], ◌∷◌, Option, Some, None, slice_set, length, replicate}
use Rattle.rt_rules.specs.declared.task.State.{State}
use Rattle.rt_rules.specs.declared.task.State.TheVariants.{Ready, Delayed, Event, Facility, Ended, Failed}
use Rattle.rt_rules.specs.declared.task.TaskRow.{TaskRow}
use Rattle.rt_rules.specs.declared.service.Svc.{Svc}
use Rattle.rt_rules.specs.declared.service.Svc.TheVariants.{Delay, Wait, Signal, Secure, Release, Clock, TaskNo, Gel, End}
use Rattle.rt_rules.specs.declared.service.Outcome.{Outcome}
use Rattle.rt_rules.specs.declared.service.Outcome.TheVariants.{Go, Waits, Error, Ends}
use Rattle.rt_rules.specs.Roster.{Roster, row, flag_of, owner_of}

-- ---- the first of some tasks

-- a lesser priority is more urgent; of equal ones the earlier stamp is
abbrev pub is_before : TaskRow → TaskRow → Bool
is_before t u = nat_lt t.priority u.priority || (t.priority == u.priority && nat_lt t.stamp u.stamp)

-- the first of task i, whose row is t, and the best of some others
abbrev pub better : ℕ → TaskRow → Option (ℕ × TaskRow) → Option (ℕ × TaskRow)
better i t None = Some (i, t)
better i t (Some (j, u)) = if is_before t u then Some (i, t) else Some (j, u)

abbrev pub better_if : Bool → ℕ → TaskRow → Option (ℕ × TaskRow) → Option (ℕ × TaskRow)
better_if true i t best = better i t best
better_if false i t best = best

-- the first of the tasks of a kind, where the rows are those of task i and the next ones
abbrev pub first_from : (State → Bool) → ℕ → List TaskRow → Option (ℕ × TaskRow)
first_from kind i [] = None
first_from kind i (t ∷ ts) = better_if (kind t.state) i t (first_from kind (i + 1) ts)

abbrev pub number_of : Option (ℕ × TaskRow) → Option ℕ
number_of None = None
number_of (Some (i, t)) = Some i

-- the number of the first task of a kind
abbrev pub first : (State → Bool) → Roster → Option ℕ
first kind r = number_of (first_from kind 1 r.tasks)

abbrev pub is_ready : State → Bool
is_ready Ready = true
is_ready _ = false

abbrev pub awaits_event : ℕ → State → Bool
awaits_event n (Event m) = m == n
awaits_event n _ = false

abbrev pub awaits_facility : ℕ → State → Bool
awaits_facility n (Facility m) = m == n
awaits_facility n _ = false

-- the running task
abbrev pub running : Roster → Option ℕ
running r = first is_ready r

-- ---- changes

abbrev pub with_row : Roster → ℕ → TaskRow → Roster
with_row r i t = record r { tasks = slice_set r.tasks (i - 1) t }

abbrev pub with_flag : Roster → ℕ → Bool → Roster
with_flag r n b = record r { flags = slice_set r.flags (n - 1) b }

abbrev pub with_owner : Roster → ℕ → ℕ → Roster
with_owner r n i = record r { owners = slice_set r.owners (n - 1) i }

-- task i comes to this condition, and takes the next stamp
abbrev pub arrives : Roster → ℕ → State → Roster
arrives r i s = with_row (record r { stamp = r.stamp + 1 }) i (record { state = s; priority = (row r i).priority; stamp = r.stamp })

-- task i comes to this condition, and keeps its stamp
abbrev pub becomes : Roster → ℕ → State → Roster
becomes r i s = with_row r i (record { state = s; priority = (row r i).priority; stamp = (row r i).stamp })

-- ---- a tick

-- one tick is left of the delay
abbrev pub is_due : State → Bool
is_due (Delayed n) = nat_le n 1
is_due _ = false

abbrev pub counted_from : State → ℕ → TaskRow → TaskRow
counted_from (Delayed n) stamp t =
    if nat_le n 1
    then record { state = Ready; priority = t.priority; stamp = stamp }
    else record { state = Delayed (n - 1); priority = t.priority; stamp = t.stamp }
counted_from _ stamp t = t

-- a task's row where its delay is counted down and the next stamp is this
abbrev pub counted : ℕ → TaskRow → TaskRow
counted stamp t = counted_from t.state stamp t

-- the next stamp then
abbrev pub stamp_after : ℕ → TaskRow → ℕ
stamp_after stamp t = if is_due t.state then stamp + 1 else stamp

-- the rows where all delays are counted down, in the order of the tasks' numbers
abbrev pub counted_rows : ℕ → List TaskRow → List TaskRow
counted_rows stamp [] = []
counted_rows stamp (t ∷ ts) = counted stamp t ∷ counted_rows (stamp_after stamp t) ts

-- the next stamp then
abbrev pub stamp_after_rows : ℕ → List TaskRow → ℕ
stamp_after_rows stamp [] = stamp
stamp_after_rows stamp (t ∷ ts) = stamp_after_rows (stamp_after stamp t) ts

-- each delay falls by 1, and tasks whose delay is over arrive in the order of their numbers
abbrev pub count_down : Roster → Roster
count_down r = record r { tasks = counted_rows r.stamp r.tasks; stamp = stamp_after_rows r.stamp r.tasks }

abbrev pub arrives_if : Roster → Option ℕ → Roster
arrives_if r None = r
arrives_if r (Some i) = arrives r i Ready

-- the clock rises; the running task, if there is one, arrives anew; then the delays are counted down
abbrev pub tick : Roster → Roster
tick r = count_down (arrives_if (record r { clock = r.clock + 1 }) (running r))

-- ---- services

-- what a service leaves, and what it comes to
abbrev pub Served : Type 0
Served = Roster × Outcome

-- the number of an event or facility
abbrev pub is_number : ℕ → Bool
is_number n = nat_le 1 n && nat_le n 32

-- a signed number above 0
abbrev pub is_delay : ℕ → Bool
is_delay n = nat_le 1 n && nat_lt n 32768

-- DELAY(n): the task waits n ticks; where n isn't above 0 it arrives anew at once
abbrev pub delay : Roster → ℕ → ℕ → Served
delay r i n = if is_delay n then (arrives r i (Delayed n), Waits) else (arrives r i Ready, Go 0)

-- WAIT(n): a flag that is set is cleared, else the task waits for the event
abbrev pub wait : Roster → ℕ → ℕ → Served
wait r i n = if flag_of r n then (with_flag r n false, Go 0) else (arrives r i (Event n), Waits)

abbrev pub raise_for : Roster → ℕ → Option ℕ → Roster
raise_for r n None = with_flag r n true
raise_for r n (Some i) = arrives r i Ready

-- the first waiter of event n is woken, or the flag is set
abbrev pub raise : Roster → ℕ → Roster
raise r n = raise_for r n (first (awaits_event n) r)

-- SIGNAL(n)
abbrev pub signal : Roster → ℕ → Served
signal r n = (raise r n, Go 0)

-- SECURE(n): the owner is refused by error 4; a free facility is taken, else the task waits for it
abbrev pub secure : Roster → ℕ → ℕ → Served
secure r i n =
    if owner_of r n == i
    then (r, Error 4)
    else (if owner_of r n == 0 then (with_owner r n i, Go 0) else (arrives r i (Facility n), Waits))

abbrev pub give_to : Roster → ℕ → Option ℕ → Roster
give_to r n None = with_owner r n 0
give_to r n (Some i) = arrives (with_owner r n i) i Ready

-- facility n goes to its first waiter, or becomes free
abbrev pub give : Roster → ℕ → Roster
give r n = give_to r n (first (awaits_facility n) r)

-- RELEASE(n): another than the owner is refused by error 4
abbrev pub release : Roster → ℕ → ℕ → Served
release r i n = if owner_of r n == i then (give r n, Go 0) else (r, Error 4)

abbrev pub give_if_owned : Roster → ℕ → ℕ → Roster
give_if_owned r i n = if owner_of r n == i then give r n else r

-- task i gives away what it owns of facility n and the following, k in all
unfoldable pub gives_from : ℕ → ℕ → ℕ → Roster → Roster
gives_from i n zero r = r
gives_from i n (suc k) r = gives_from i (n + 1) k (give_if_owned r i n)

-- a task that ends gives away its facilities in rising number; its condition is then s
abbrev pub ends : Roster → ℕ → State → Served
ends r i s = (becomes (gives_from i 1 32 r) i s, Ends)

-- an event or facility outside 1 to 32 is refused by error 5, before all else
abbrev pub checked : ℕ → Roster → Served → Served
checked n r served = if is_number n then served else (r, Error 5)

-- a service of the running task i; CLOCK answers the low 16 bits of the clock, TASKNO the task's number
abbrev pub serve : Roster → ℕ → Svc → Served
serve r i (Delay n) = delay r i n
serve r i (Wait n) = checked n r (wait r i n)
serve r i (Signal n) = checked n r (signal r n)
serve r i (Secure n) = checked n r (secure r i n)
serve r i (Release n) = checked n r (release r i n)
serve r i Clock = (r, Go (r.clock % 65536))
serve r i TaskNo = (r, Go i)
serve r i (Gel n) = ends r i (Failed n)
serve r i End = ends r i Ended

-- ---- the start

-- ready tasks of these priorities, with this stamp and the following ones
abbrev pub rows_from : ℕ → List ℕ → List TaskRow
rows_from stamp [] = []
rows_from stamp (p ∷ ps) = record { state = Ready; priority = p; stamp = stamp } ∷ rows_from (stamp + 1) ps

-- all tasks arrive in the order of their numbers; no flag is set and all facilities are free
abbrev pub start : List ℕ → Roster
start priorities =
    record { tasks = rows_from 0 priorities; flags = replicate 32 false; owners = replicate 32 0; clock = 0; stamp = length priorities }
