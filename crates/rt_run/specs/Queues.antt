-- The queues of all priorities.
use Rattle.std.specs.Prelude.{◌≡◌, ℕ, ◌<◌, ◌≤◌, ◌≢◌, Bool, not, nat_lt, ◌&&◌, List, [], ◌∷◌, drop, length, slice_index_or}
use Rattle.rt_rules.specs.declared.task.TaskRow.{TaskRow}
use Rattle.rt_rules.specs.Roster.{Roster, row, IsTask, IsReady, InRanges}
use Rattle.rt_rules.specs.Rules.{is_ready}
use Rattle.rt_run.specs.Marks.{mark_of}
use Rattle.rt_run.specs.Queue.{Lists}

-- the queue of priority p, one of 256
abbrev pub queue_of : List (List ℕ) → ℕ → List ℕ
queue_of qs p = slice_index_or qs p []

-- the marked priorities are those whose queue has a task
pub record AreMarked (words : List ℕ) (qs : List (List ℕ)) : Type 0 where
  pub count : length qs ≡ 256
  pub empty : (p : ℕ) → p < 256 → mark_of words p ≡ 0 → queue_of qs p ≡ []
  pub taken : (p : ℕ) → p < 256 → mark_of words p ≡ 1 → 0 < length (queue_of qs p)

-- i stands at the head of the first queue that isn't empty
pub record IsHead (qs : List (List ℕ)) (i : ℕ) : Type 0 where
  pub priority : ℕ
  pub below : priority < 256
  pub head : queue_of qs priority ≡ i ∷ drop 1 (queue_of qs priority)
  pub before : (p : ℕ) → p < priority → queue_of qs p ≡ []

abbrev pub AreEmpty : List (List ℕ) → Type 0
AreEmpty qs = (p : ℕ) → p < 256 → queue_of qs p ≡ []

-- task i is ready, has priority p, and took its stamp before this one
abbrev pub IsIn : Roster → ℕ → ℕ → ℕ → Type 0
IsIn r stamp p i = IsReady r i × ((row r i).priority ≡ p) × ((row r i).stamp < stamp)

-- the queues hold the ready tasks that took their stamps before this one
pub record HasQueues (r : Roster) (stamp : ℕ) (qs : List (List ℕ)) : Type 0 where
  pub ranges : InRanges r
  pub count : length qs ≡ 256
  pub low : (i : ℕ) → IsTask r i → (row r i).priority < 256
  pub each : (p : ℕ) → p < 256 → Lists (IsIn r stamp p) r (queue_of qs p)

-- task i has this stamp
abbrev pub Holds : Roster → ℕ → ℕ → Type 0
Holds r stamp i = IsTask r i × ((row r i).stamp ≡ stamp)

abbrev pub NoneHolds : Roster → ℕ → Type 0
NoneHolds r stamp = (i : ℕ) → IsTask r i → (row r i).stamp ≢ stamp

-- what a step of the running task i, or a tick then, leaves: no other ready task's row is changed, no priority is, and a task
-- that is ready with an old stamp is as it was
pub record Follows (r : Roster) (i : ℕ) (q : Roster) : Type 0 where
  pub same : length q.tasks ≡ length r.tasks
  pub later : r.stamp ≤ q.stamp
  pub priority : (j : ℕ) → IsTask r j → (row q j).priority ≡ (row r j).priority
  pub stays : (j : ℕ) → IsReady r j → j ≢ i → row q j ≡ row r j
  pub was : (j : ℕ) → IsReady q j → (row q j).stamp < r.stamp → row q j ≡ row r j

-- a task with this row doesn't stand in its queue any more where it took its place before this stamp
abbrev pub has_left : TaskRow → ℕ → Bool
has_left t stamp = not (is_ready t.state && nat_lt t.stamp stamp)

-- the queues hold the ready tasks from before the step, task i at the head of its queue
pub record Leaves (i stamp : ℕ) (q : Roster) (qs : List (List ℕ)) : Type 0 where
  pub ranges : InRanges q
  pub before : Roster
  pub same : before.stamp ≡ stamp
  pub queued : HasQueues before stamp qs
  pub ready : IsReady before i
  pub head : queue_of qs (row before i).priority ≡ i ∷ drop 1 (queue_of qs (row before i).priority)
  pub follows : Follows before i q
