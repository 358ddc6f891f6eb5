-- Laws of the supervisor above its rules.
use Rattle.std.specs.Prelude.{◌≡◌, ◌≢◌, ◌⊎◌, ◌↔◌, ℕ, ◌+◌, ◌-◌, ◌^◌, ◌<◌, ◌≤◌, Bool, true, List, [], ◌∷◌, Option, Some, None, All, length}
use Rattle.rt_rules.specs.declared.task.State.{State}
use Rattle.rt_rules.specs.declared.task.State.TheVariants.{Ready, Delayed, Facility}
use Rattle.rt_rules.specs.declared.service.Svc.{Svc}
use Rattle.rt_rules.specs.declared.service.Svc.TheVariants.{Delay, Secure, Release, Gel, End}
use Rattle.rt_rules.specs.Roster.{Roster, row, owner_of, IsTask, IsNumber, IsReady, InRanges}
use Rattle.rt_rules.specs.First.{Before, IsFirst, HasNone}
use Rattle.rt_rules.specs.Rules.{first, running, tick, is_delay, serve, start}

-- ---- what happens from one moment on

-- a tick, or a service of the running task
pub data Happening : Type 0 where
  a_tick : Happening
  a_call : Svc → Happening

abbrev pub called : Option ℕ → Roster → Svc → Roster
called None r svc = r
called (Some i) r svc = (serve r i svc).0

-- a service while no task runs is none
abbrev pub happens : Roster → Happening → Roster
happens r a_tick = tick r
happens r (a_call svc) = called (running r) r svc

abbrev pub after : Roster → List Happening → Roster
after r [] = r
after r (h ∷ hs) = after (happens r h) hs

abbrev pub ticks_in : List Happening → ℕ
ticks_in [] = 0
ticks_in (a_tick ∷ hs) = ticks_in hs + 1
ticks_in (a_call svc ∷ hs) = ticks_in hs

abbrev pub calls_in : List Happening → ℕ
calls_in [] = 0
calls_in (a_tick ∷ hs) = calls_in hs
calls_in (a_call svc ∷ hs) = calls_in hs + 1

-- priorities with which the rules can start
abbrev pub CanStart : List ℕ → Type 0
CanStart priorities = (1 ≤ length priorities) × (length priorities ≤ 32) × All (λ p. 0 < p) priorities

-- ---- the laws

-- the ranges hold at the start, and stand after a tick and after each service
abbrev pub StartInRanges : Type 0
StartInRanges = (priorities : List ℕ) → CanStart priorities → InRanges (start priorities)

abbrev pub StayInRanges : Type 0
StayInRanges = (r : Roster) (h : Happening) → InRanges r → InRanges (happens r h)

-- the task found is the one of the kind that comes before all others of the kind; there is at most one such task
abbrev pub FindsFirst : Type 0
FindsFirst = (kind : State → Bool) (r : Roster) (i : ℕ) → InRanges r → (first kind r ≡ Some i) ↔ IsFirst kind r i

abbrev pub FindsNone : Type 0
FindsNone = (kind : State → Bool) (r : Roster) → InRanges r → (first kind r ≡ None) ↔ HasNone kind r

abbrev pub OneFirst : Type 0
OneFirst = (kind : State → Bool) (r : Roster) (i j : ℕ) → IsFirst kind r i → IsFirst kind r j → i ≡ j

-- a task that is delayed by n ticks stays delayed, by the ticks that are left, until n ticks have passed, whatever else happens
abbrev pub DelayGoesOn : Type 0
DelayGoesOn = (r : Roster) (i n : ℕ) (hs : List Happening) → InRanges r → IsTask r i → (row r i).state ≡ Delayed n → ticks_in hs < n → (row (after r hs) i).state ≡ Delayed (n - ticks_in hs)

-- it is ready after the n-th tick
abbrev pub DelayIsOver : Type 0
DelayIsOver = (r : Roster) (i n : ℕ) (hs : List Happening) → InRanges r → IsTask r i → (row r i).state ≡ Delayed n → ticks_in hs + 1 ≡ n → (row (tick (after r hs)) i).state ≡ Ready

-- DELAY(n) delays by n ticks
abbrev pub DelayBegins : Type 0
DelayBegins = (r : Roster) (i n : ℕ) → IsTask r i → is_delay n ≡ true → (row (serve r i (Delay n)).0 i).state ≡ Delayed n

-- SIGNAL and RELEASE leave the running task's row as it was
abbrev pub KeepsRow : (ℕ → Svc) → Type 0
KeepsRow service = (r : Roster) (i n : ℕ) → InRanges r → running r ≡ Some i → row (serve r i (service n)).0 i ≡ row r i

-- after a tick the other ready tasks of its priority come before the task that ran
abbrev pub TickEndsTurn : Type 0
TickEndsTurn = (r : Roster) (i j : ℕ) → InRanges r → running r ≡ Some i → IsReady r j → j ≢ i → (row r j).priority ≡ (row r i).priority → Before (row (tick r) j) (row (tick r) i)

-- how far a tick and a service raise the clock and the next stamp
abbrev pub TickRaises : Type 0
TickRaises = (r : Roster) → InRanges r → ((tick r).clock ≡ r.clock + 1) × ((tick r).stamp ≤ r.stamp + 33)

abbrev pub ServiceRaises : Type 0
ServiceRaises = (r : Roster) (i : ℕ) (svc : Svc) → InRanges r → running r ≡ Some i → ((serve r i svc).0.clock ≡ r.clock) × ((serve r i svc).0.stamp ≤ r.stamp + 32)

-- so the conditions of a tick and of a service hold all through a run of 200,000 ticks and 4,000,000,000 services
abbrev pub StaysLow : Type 0
StaysLow = (priorities : List ℕ) (hs : List Happening) → CanStart priorities → ticks_in hs ≤ 200000 → calls_in hs ≤ 4000000000 → ((after (start priorities) hs).stamp < 2 ^ 63) × ((after (start priorities) hs).clock < 2 ^ 32 - 1)

-- a facility that a task waits for has an owner, and that is another task
abbrev pub WaitersWait : Roster → Type 0
WaitersWait r = (i n : ℕ) → IsTask r i → (row r i).state ≡ Facility n → IsNumber n × (owner_of r n ≢ 0) × (owner_of r n ≢ i)

-- so in every state that ticks and services reach from a start
abbrev pub WaitersAlwaysWait : Type 0
WaitersAlwaysWait = (priorities : List ℕ) (hs : List Happening) → CanStart priorities → WaitersWait (after (start priorities) hs)

-- a tick changes no flag and no owner
abbrev pub TickKeeps : Type 0
TickKeeps = (r : Roster) → ((tick r).flags ≡ r.flags) × ((tick r).owners ≡ r.owners)

abbrev pub IsEnd : Svc → Type 0
IsEnd svc = (svc ≡ End) ⊎ ((n : ℕ) × (svc ≡ Gel n))

-- an owner changes only where it releases the facility or ends; a free facility gets an owner only where a task secures it
abbrev pub OwnerChanges : Type 0
OwnerChanges = (r : Roster) (i n : ℕ) (svc : Svc) → InRanges r → running r ≡ Some i → IsNumber n → owner_of (serve r i svc).0 n ≢ owner_of r n → ((owner_of r n ≡ i) × ((svc ≡ Release n) ⊎ IsEnd svc)) ⊎ ((owner_of r n ≡ 0) × (svc ≡ Secure n))
