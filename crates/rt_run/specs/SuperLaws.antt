-- Laws of the queues above the rules.
use Rattle.std.specs.Prelude.{◌≡◌, ◌≢◌, ◌⊎◌, ℕ, ◌<◌, ◌≤◌, true, List, [], ◌∷◌, ◌++◌, Some, drop, length, slice_index}
use Rattle.rt_rules.specs.declared.service.Svc.{Svc}
use Rattle.rt_rules.specs.Roster.{Roster, row, InRanges}
use Rattle.rt_rules.specs.Rules.{running, is_due, tick, serve}
use Rattle.rt_run.specs.Queue.{IsQueue}

-- a priority has no two queues
abbrev pub OneQueue : Type 0
OneQueue = (r : Roster) (p : ℕ) (a b : List ℕ) → IsQueue r p a → IsQueue r p b → a ≡ b

-- the running task stands at the head of its queue
abbrev pub RunsAtHead : Type 0
RunsAtHead = (r : Roster) (i : ℕ) (a : List ℕ) → InRanges r → running r ≡ Some i → IsQueue r (row r i).priority a → a ≡ i ∷ drop 1 a

-- and who stands at the head of the first queue that isn't empty runs
abbrev pub HeadRuns : Type 0
HeadRuns = (r : Roster) (p i : ℕ) (a : List ℕ) → InRanges r → IsQueue r p (i ∷ a) → ((n : ℕ) → n < p → IsQueue r n []) → running r ≡ Some i

-- b is a, and behind it the tasks that took a stamp between r and s
pub record IsLonger (r s : Roster) (a b : List ℕ) : Type 0 where
  pub more : List ℕ
  pub is : b ≡ a ++ more
  pub late : (k : ℕ) → k < length more → r.stamp ≤ (row s (slice_index more k)).stamp

-- a service puts tasks at the ends of the queues, and may take the running task from the head of its own; no other task moves
abbrev pub ServiceMoves : Type 0
ServiceMoves = (r : Roster) (i p : ℕ) (svc : Svc) (a b : List ℕ) → InRanges r → running r ≡ Some i → IsQueue r p a → IsQueue (serve r i svc).0 p b → IsLonger r (serve r i svc).0 a b ⊎ (((row r i).priority ≡ p) × IsLonger r (serve r i svc).0 (drop 1 a) b)

-- a tick takes the running task i from the head of its queue to the end; behind it, and at the ends of the other queues, come
-- the tasks whose delay is over, in the order of their numbers; no other task moves
pub record IsTicked (r : Roster) (i p : ℕ) (a b : List ℕ) : Type 0 where
  pub woken : List ℕ
  pub own : (row r i).priority ≡ p → b ≡ drop 1 a ++ i ∷ woken
  pub other : (row r i).priority ≢ p → b ≡ a ++ woken
  pub due : (k : ℕ) → k < length woken → is_due (row r (slice_index woken k)).state ≡ true
  pub rising : (j k : ℕ) → j < k → k < length woken → slice_index woken j < slice_index woken k

abbrev pub TickMoves : Type 0
TickMoves = (r : Roster) (i p : ℕ) (a b : List ℕ) → InRanges r → running r ≡ Some i → IsQueue r p a → IsQueue (tick r) p b → IsTicked r i p a b
