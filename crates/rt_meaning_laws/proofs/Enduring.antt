-- What ticks and services make of who has ended: whoever has ended stays so, with its number, and no other ends but by a service of
-- its own.
use Rattle.std.proofs.Common.{◌≡◌, ◌⊎◌, inl, inr, ℕ, zero, suc, ◌+◌, ◌-◌, ◌==◌, nat_le, Bool, true, false, if◌then◌else◌, List, [], ◌∷◌, Option, Some, None, slice_get, slice_set, refl, sym, ap, ◌∙◌, subst, arith}
use Rattle.rt_rules.specs.declared.service.Outcome.{Outcome}
use Rattle.rt_rules.specs.declared.service.Outcome.TheVariants.{Error, Ends}
use Rattle.rt_rules.specs.declared.service.Svc.{Svc}
use Rattle.rt_rules.specs.declared.service.Svc.TheVariants.{Delay, Wait, Signal, Secure, Release, Clock, TaskNo, Gel, End}
use Rattle.rt_rules.specs.declared.task.State.{State}
use Rattle.rt_rules.specs.declared.task.State.TheVariants.{Ready, Delayed, Event, Facility}
use Rattle.rt_rules.specs.declared.task.TaskRow.{TaskRow}
use Rattle.rt_rules.specs.Roster.{Roster, flag_of, owner_of, has_ended}
use Rattle.rt_rules.specs.Rules.{better_if, is_before, first_from, number_of, first, is_ready, awaits_event, awaits_facility, running, arrives, counted_from, stamp_after, counted_rows, arrives_if, tick, is_number, is_delay, wait, raise_for, raise, signal, secure, give_to, give, release, give_if_owned, gives_from, Served, serve}

-- two conditions of one task: both of a task that hasn't ended, or the same
abbrev pub Endures : State → State → Type 0
Endures s t = ((has_ended s ≡ false) × (has_ended t ≡ false)) ⊎ (s ≡ t)

abbrev pub AllEndure : List TaskRow → List TaskRow → Type 0
AllEndure [] [] = Unit {0}
AllEndure (x ∷ xs) (y ∷ ys) = Endures x.state y.state × AllEndure xs ys
AllEndure _ _ = ⊥

pub all_same : (xs : List TaskRow) → AllEndure xs xs
all_same [] = tt
all_same (x ∷ xs) = (inr refl, all_same xs)

then_endures : (s t u : State) → Endures s t → Endures t u → Endures s u
then_endures s t u (inl h) (inl g) = inl (h.0, g.1)
then_endures s t u (inl h) (inr e) = inl (h.0, subst (λ (x : State). has_ended x ≡ false) e h.1)
then_endures s t u (inr e) g = subst (λ (x : State). Endures x u) (sym e) g

pub then_all : (xs ys zs : List TaskRow) → AllEndure xs ys → AllEndure ys zs → AllEndure xs zs
then_all [] [] [] h g = tt
then_all [] [] (z ∷ zs) h g = absurd g
then_all [] (y ∷ ys) zs h g = absurd h
then_all (x ∷ xs) [] zs h g = absurd h
then_all (x ∷ xs) (y ∷ ys) [] h g = absurd g
then_all (x ∷ xs) (y ∷ ys) (z ∷ zs) h g = (then_endures x.state y.state z.state h.0 g.0, then_all xs ys zs h.1 g.1)

-- ---- one row

-- a row that is there hasn't ended
abbrev pub Alive : List TaskRow → ℕ → Type 0
Alive xs k = (x : TaskRow) → slice_get xs k ≡ Some x → has_ended x.state ≡ false

set_endures : (xs : List TaskRow) (k : ℕ) (y : TaskRow) → Alive xs k → has_ended y.state ≡ false → AllEndure xs (slice_set xs k y)
set_endures [] k y a h = tt
set_endures (x ∷ xs) zero y a h = (inl (a x refl, h), all_same xs)
set_endures (x ∷ xs) (suc k) y a h = (inr refl, set_endures xs k y a h)

pub still_alive : (xs ys : List TaskRow) (k : ℕ) → AllEndure xs ys → Alive xs k → Alive ys k
still_alive [] [] k h a z e = a z e
still_alive [] (y ∷ ys) k h a z e = absurd h
still_alive (x ∷ xs) [] k h a z e = absurd h
still_alive (x ∷ xs) (y ∷ ys) zero h a z e = by_row h.0
  where
    same : y ≡ z
    same = cc

    by_row : Endures x.state y.state → has_ended z.state ≡ false
    by_row (inl g) = subst (λ (r : TaskRow). has_ended r.state ≡ false) same g.1
    by_row (inr g) = subst (λ (r : TaskRow). has_ended r.state ≡ false) same (subst (λ (s : State). has_ended s ≡ false) g (a x refl))
still_alive (x ∷ xs) (y ∷ ys) (suc k) h a z e = still_alive xs ys k h.1 a z e

-- ---- the first of a kind

abbrev Found : (State → Bool) → List TaskRow → ℕ → ℕ → Type 0
Found kind xs i j = (k : ℕ) × (j ≡ i + k) × (x : TaskRow) × (slice_get xs k ≡ Some x) × (kind x.state ≡ true)

next_number : (i j k : ℕ) → j ≡ i + 1 + k → j ≡ i + suc k
next_number i j k e = omega arith

found_later : (kind : State → Bool) (t : TaskRow) (ts : List TaskRow) (i j : ℕ) → Found kind ts (i + 1) j → Found kind (t ∷ ts) i j
found_later kind t ts i j f = (suc f.0, next_number i j f.0 f.1, f.2, f.3, f.4)

found_here : (kind : State → Bool) (t : TaskRow) (ts : List TaskRow) (i j : ℕ) → kind t.state ≡ true → i ≡ j → Found kind (t ∷ ts) i j
found_here kind t ts i j h e = (0, omega arith, t, refl, h)

found_from : (kind : State → Bool) (i j : ℕ) (xs : List TaskRow) → number_of (first_from kind i xs) ≡ Some j → Found kind xs i j
found_from kind i j [] e = absurd cc
found_from kind i j (t ∷ ts) e = by_kind (λ g. found_from kind (i + 1) j ts g) (kind t.state) refl (first_from kind (i + 1) ts) refl e
  where
    Go : Type 0
    Go = number_of (first_from kind (i + 1) ts) ≡ Some j → Found kind ts (i + 1) j

    later : Go → (o : Option (ℕ × TaskRow)) → first_from kind (i + 1) ts ≡ o → number_of o ≡ Some j → Found kind (t ∷ ts) i j
    later go o q g = found_later kind t ts i j (go (ap number_of q ∙ g))

    by_test : Go → (b : Bool) (p : ℕ) (u : TaskRow) → kind t.state ≡ true → first_from kind (i + 1) ts ≡ Some (p, u) → number_of (if b then Some (i, t) else Some (p, u)) ≡ Some j → Found kind (t ∷ ts) i j
    by_test go true p u k q g = found_here kind t ts i j k cc
    by_test go false p u k q g = later go (Some (p, u)) q g

    by_kind : Go → (b : Bool) → kind t.state ≡ b → (o : Option (ℕ × TaskRow)) → first_from kind (i + 1) ts ≡ o → number_of (better_if b i t o) ≡ Some j → Found kind (t ∷ ts) i j
    by_kind go true k None q g = found_here kind t ts i j k cc
    by_kind go true k (Some (p, u)) q g = by_test go (is_before t u) p u k q g
    by_kind go false k o q g = later go o q g

-- none of a kind whose tasks haven't ended has
abbrev KindLives : (State → Bool) → Type 0
KindLives kind = (s : State) → kind s ≡ true → has_ended s ≡ false

behind : (i k : ℕ) → i ≡ 1 + k → i - 1 ≡ k
behind i k h = omega arith

found_row : (kind : State → Bool) (r : Roster) (i : ℕ) → first kind r ≡ Some i → (x : TaskRow) × (slice_get r.tasks (i - 1) ≡ Some x) × (kind x.state ≡ true)
found_row kind r i e =
    let f = found_from kind 1 i r.tasks e in
    let at : i - 1 ≡ f.0 = behind i f.0 f.1 in
    (f.2, ap (λ (k : ℕ). slice_get r.tasks k) at ∙ f.3, f.4)

found_alive : (kind : State → Bool) (r : Roster) (i : ℕ) → KindLives kind → first kind r ≡ Some i → Alive r.tasks (i - 1)
found_alive kind r i lives e x g =
    let f = found_row kind r i e in
    let same : Some f.0 ≡ Some x = sym f.1 ∙ g in
    let is : f.0 ≡ x = cc in
    lives x.state (subst (λ (y : TaskRow). kind y.state ≡ true) is f.2)

ready_lives : KindLives is_ready
ready_lives Ready e = refl
ready_lives _ e = absurd cc

event_lives : (n : ℕ) → KindLives (awaits_event n)
event_lives n (Event m) e = refl
event_lives n _ e = absurd cc

facility_lives : (n : ℕ) → KindLives (awaits_facility n)
facility_lives n (Facility m) e = refl
facility_lives n _ e = absurd cc

pub runner_there : (r : Roster) (i : ℕ) → running r ≡ Some i → (x : TaskRow) × (slice_get r.tasks (i - 1) ≡ Some x)
runner_there r i e = let f = found_row is_ready r i e in (f.0, f.1)

pub runner_alive : (r : Roster) (i : ℕ) → running r ≡ Some i → Alive r.tasks (i - 1)
runner_alive r i e = found_alive is_ready r i ready_lives e

-- ---- a tick

arrives_endures : (r : Roster) (i : ℕ) (s : State) → Alive r.tasks (i - 1) → has_ended s ≡ false → AllEndure r.tasks (arrives r i s).tasks
arrives_endures r i s a h = set_endures r.tasks (i - 1) _ a h

counted_endures : (stamp : ℕ) (t : TaskRow) (s : State) → t.state ≡ s → Endures t.state (counted_from s stamp t).state
counted_endures stamp t (Delayed n) e = by_test (nat_le n 1)
  where
    ready : TaskRow
    ready = record { state = Ready; priority = t.priority; stamp = stamp }

    waiting : TaskRow
    waiting = record { state = Delayed (n - 1); priority = t.priority; stamp = t.stamp }

    by_test : (b : Bool) → let x : TaskRow = if b then ready else waiting in Endures t.state x.state
    by_test true = inl (ap has_ended e, refl)
    by_test false = inl (ap has_ended e, refl)
counted_endures stamp t _ e = inr refl

rows_endure : (stamp : ℕ) (xs : List TaskRow) → AllEndure xs (counted_rows stamp xs)
rows_endure stamp [] = tt
rows_endure stamp (t ∷ ts) = (counted_endures stamp t t.state refl, rows_endure (stamp_after stamp t) ts)

arrival_endures : (r : Roster) (o : Option ℕ) → ((i : ℕ) → o ≡ Some i → Alive r.tasks (i - 1)) → AllEndure r.tasks (arrives_if r o).tasks
arrival_endures r None a = all_same r.tasks
arrival_endures r (Some i) a = arrives_endures r i Ready (a i refl) refl

pub tick_endures : (r : Roster) → AllEndure r.tasks (tick r).tasks
tick_endures r =
    let q : Roster = record r { clock = r.clock + 1 } in
    let p : Roster = arrives_if q (running r) in
    then_all r.tasks p.tasks (tick r).tasks (arrival_endures q (running r) (λ i e. runner_alive r i e)) (rows_endure p.stamp p.tasks)

-- ---- services

give_endures : (r : Roster) (n : ℕ) → AllEndure r.tasks (give r n).tasks
give_endures r n = by_waiter (first (awaits_facility n) r) (λ j e. found_alive (awaits_facility n) r j (facility_lives n) e)
  where
    by_waiter : (o : Option ℕ) → ((j : ℕ) → o ≡ Some j → Alive r.tasks (j - 1)) → AllEndure r.tasks (give_to r n o).tasks
    by_waiter None a = all_same r.tasks
    by_waiter (Some j) a = set_endures r.tasks (j - 1) _ (a j refl) refl

raise_endures : (r : Roster) (n : ℕ) → AllEndure r.tasks (raise r n).tasks
raise_endures r n = by_waiter (first (awaits_event n) r) (λ j e. found_alive (awaits_event n) r j (event_lives n) e)
  where
    by_waiter : (o : Option ℕ) → ((j : ℕ) → o ≡ Some j → Alive r.tasks (j - 1)) → AllEndure r.tasks (raise_for r n o).tasks
    by_waiter None a = all_same r.tasks
    by_waiter (Some j) a = set_endures r.tasks (j - 1) _ (a j refl) refl

owned_endures : (q : Roster) (i n : ℕ) → AllEndure q.tasks (give_if_owned q i n).tasks
owned_endures q i n = by_owner (owner_of q n == i)
  where
    by_owner : (b : Bool) → let p : Roster = if b then give q n else q in AllEndure q.tasks p.tasks
    by_owner true = give_endures q n
    by_owner false = all_same q.tasks

pub gifts_endure : (i n k : ℕ) (r : Roster) → AllEndure r.tasks (gives_from i n k r).tasks
unfolding gives_from
gifts_endure i n zero r = all_same r.tasks
gifts_endure i n (suc k) r =
    let q : Roster = give_if_owned r i n in
    then_all r.tasks q.tasks (gives_from i (n + 1) k q).tasks (owned_endures r i n) (gifts_endure i (n + 1) k q)

-- what doesn't end a task
abbrev pub GoesOn : Outcome → Type 0
GoesOn Ends = ⊥
GoesOn _ = Unit {0}

-- a service that ends none
abbrev pub Enduring : Roster → Served → Type 0
Enduring r p = GoesOn p.1 × AllEndure r.tasks p.0.tasks

either_endures : (r : Roster) (b : Bool) (p q : Served) → Enduring r p → Enduring r q → let x : Served = if b then p else q in Enduring r x
either_endures r true p q h g = h
either_endures r false p q h g = g

refused_endures : (r : Roster) (n : ℕ) → Enduring r (r, Error n)
refused_endures r n = (tt, all_same r.tasks)

abbrev pub EndsNone : Svc → Type 0
EndsNone (Gel n) = ⊥
EndsNone End = ⊥
EndsNone _ = Unit {0}

pub service_endures : (r : Roster) (i : ℕ) (v : Svc) → Alive r.tasks (i - 1) → EndsNone v → Enduring r (serve r i v)
service_endures r i (Delay n) a h = either_endures r (is_delay n) _ _ (tt, arrives_endures r i (Delayed n) a refl) (tt, arrives_endures r i Ready a refl)
service_endures r i (Wait n) a h = either_endures r (is_number n) (wait r i n) _ (either_endures r (flag_of r n) _ _ (tt, all_same r.tasks) (tt, arrives_endures r i (Event n) a refl)) (refused_endures r 5)
service_endures r i (Signal n) a h = either_endures r (is_number n) (signal r n) _ (tt, raise_endures r n) (refused_endures r 5)
service_endures r i (Secure n) a h =
    either_endures r (is_number n) (secure r i n) _
    (either_endures r (owner_of r n == i) _ _ (refused_endures r 4) (either_endures r (owner_of r n == 0) _ _ (tt, all_same r.tasks) (tt, arrives_endures r i (Facility n) a refl)))
    (refused_endures r 5)
service_endures r i (Release n) a h = either_endures r (is_number n) (release r i n) _ (either_endures r (owner_of r n == i) _ _ (tt, give_endures r n) (refused_endures r 4)) (refused_endures r 5)
service_endures r i Clock a h = (tt, all_same r.tasks)
service_endures r i TaskNo a h = (tt, all_same r.tasks)
service_endures r i (Gel n) a h = absurd h
service_endures r i End a h = absurd h
