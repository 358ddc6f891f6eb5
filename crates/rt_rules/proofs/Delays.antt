-- Delays go on and end, whatever other tasks do.
use Rattle.std.proofs.Common.{◌≡◌, ◌≢◌, ℕ, zero, suc, ◌+◌, ◌-◌, ◌<◌, ◌≤◌, Bool, true, false, List, [], ◌∷◌, Option, Some, None, length, get_or, refl, ◌∙◌, ap, subst, arith, nat_le}
use Rattle.std.proofs.lemmas.Bool.{leb-true, leb-false}
use Rattle.rt_rules.specs.declared.task.State.{State}
use Rattle.rt_rules.specs.declared.task.State.TheVariants.{Ready, Delayed, Event, Facility}
use Rattle.rt_rules.specs.declared.task.TaskRow.{TaskRow}
use Rattle.rt_rules.specs.declared.service.Svc.{Svc}
use Rattle.rt_rules.specs.declared.service.Outcome.TheVariants.{Go, Waits}
use Rattle.rt_rules.specs.Roster.{Roster, no_row, row, IsTask, IsReady, InRanges}
use Rattle.rt_rules.specs.Rules.{running, with_owner, with_row, arrives, becomes, counted_from, counted, stamp_after, counted_rows, is_delay, count_down, arrives_if, tick, Served, give, give_if_owned, gives_from, serve}
use Rattle.rt_rules.specs.Laws.{Happening, a_tick, a_call, called, after, ticks_in, DelayBegins, DelayGoesOn, DelayIsOver}
use Rattle.rt_rules.proofs.Rows.{if_by, row-with_row_same, row-with_row_other, length-with_row}
use Rattle.rt_rules.proofs.Giving.{give_cases, give_if_owned_cases}
use Rattle.rt_rules.proofs.Walks.{gives_from_goes, arrival_goes, running_is_ready, serve_goes}
use Rattle.rt_rules.proofs.Ranges.{leaving_all, ranges-give_if_owned, ranges-serve, ranges-tick}

-- task i is delayed by n ticks
pub record IsDelayed (r : Roster) (i n : ℕ) : Type 0 where
  pub there : IsTask r i
  pub state : (row r i).state ≡ Delayed n

-- another task's row is replaced
kept_elsewhere : (r : Roster) (i n j : ℕ) (t : TaskRow) → IsDelayed r i n → IsTask r j → (row r j).state ≢ Delayed n → IsDelayed (with_row r j t) i n
kept_elsewhere r i n j t w h other =
    let same : length (with_row r j t).tasks ≡ length r.tasks = length-with_row r j t in
    let apart : i ≢ j = λ e. other (subst (λ k. (row r k).state ≡ Delayed n) e w.state) in
    record {
      there = (w.there.0, let last = w.there.1 in omega arith);
      state = ap (λ (u : TaskRow). u.state) (row-with_row_other r j i t h.0 w.there.0 apart) ∙ w.state;
    }

kept_arrives : (r : Roster) (i n j : ℕ) (s : State) → IsDelayed r i n → IsTask r j → (row r j).state ≢ Delayed n → IsDelayed (arrives r j s) i n
kept_arrives r i n j s w h other =
    let k = kept_elsewhere r i n j _ w h other in
    record { there = k.there; state = k.state }

ready_not_delayed : (r : Roster) (j n : ℕ) → IsReady r j → (row r j).state ≢ Delayed n
ready_not_delayed r j n h e = let s = h.1 in cc

event_not_delayed : (r : Roster) (j n m : ℕ) → (row r j).state ≡ Event m → (row r j).state ≢ Delayed n
event_not_delayed r j n m s e = cc

facility_not_delayed : (r : Roster) (j n m : ℕ) → (row r j).state ≡ Facility m → (row r j).state ≢ Delayed n
facility_not_delayed r j n m s e = cc

kept_owner : (r : Roster) (i n m o : ℕ) → IsDelayed r i n → IsDelayed (with_owner r m o) i n
kept_owner r i n m o w = record { there = w.there; state = w.state }

kept_handed : (r : Roster) (i n m j : ℕ) → IsDelayed r i n → IsTask r j → (row r j).state ≡ Facility m → IsDelayed (arrives (with_owner r m j) j Ready) i n
kept_handed r i n m j w there waits =
    kept_arrives (with_owner r m j) i n j Ready (kept_owner r i n m j w) there (facility_not_delayed r j n m waits)

kept_give : (r : Roster) (i n m : ℕ) → InRanges r → IsDelayed r i n → IsDelayed (give r m) i n
kept_give r i n m g w =
    give_cases (λ q. IsDelayed q i n) r m g (λ _. kept_owner r i n m 0 w) (λ j there waits. kept_handed r i n m j w there waits)

kept_give_if_owned : (r : Roster) (i n j m : ℕ) → InRanges r → IsDelayed r i n → IsDelayed (give_if_owned r j m) i n
kept_give_if_owned r i n j m g w =
    give_if_owned_cases (λ q. IsDelayed q i n) r j m g
    (λ _ _. kept_owner r i n m 0 w)
    (λ _ k there waits. kept_handed r i n m k w there waits)
    (λ _. w)

kept_ended : (r : Roster) (i n j : ℕ) (s : State) → InRanges r → IsReady r j → IsDelayed r i n → IsDelayed (becomes (gives_from j 1 32 r) j s) i n
kept_ended r i n j s g h w =
    let all = gives_from_goes (λ _ q. InRanges q × IsDelayed q i n) j
    (λ m q k p. (ranges-give_if_owned q j m p.0 k, kept_give_if_owned q i n j m p.0 p.1))
    32 1 r (omega arith) refl (g, w) in
    let ready = (leaving_all r j g h).ready in
    kept_elsewhere (gives_from j 1 32 r) i n j _ all.1 ready.0 (ready_not_delayed (gives_from j 1 32 r) j n ready)

-- a service of another task leaves a delay as it is
pub kept_serve : (r : Roster) (i n j : ℕ) (svc : Svc) → InRanges r → IsReady r j → IsDelayed r i n → IsDelayed (serve r j svc).0 i n
kept_serve r i n j svc g h w =
    let own = ready_not_delayed r j n h in
    serve_goes (λ q. IsDelayed q i n) r j svc g
    (record {
      nothing = w;
      anew = λ _ _. kept_arrives r i n j Ready w h.0 own;
      delayed = λ m _. kept_arrives r i n j (Delayed m) w h.0 own;
      flagged = λ m b _. record { there = w.there; state = w.state };
      waiting = λ m _ _. kept_arrives r i n j (Event m) w h.0 own;
      woken = λ m k _ there waits. kept_arrives r i n k Ready w there (event_not_delayed r k n m waits);
      secured = λ m _ _ _. kept_owner r i n m j w;
      queued = λ m _ _ _ _. kept_arrives r i n j (Facility m) w h.0 own;
      released = λ m _ _ _. kept_give r i n m g w;
      ended = λ s _ _. kept_ended r i n j s g h w;
    })

-- ---- a tick

pub length-counted_rows : (stamp : ℕ) (ts : List TaskRow) → length (counted_rows stamp ts) ≡ length ts
length-counted_rows stamp [] = refl
length-counted_rows stamp (t ∷ ts) = ap suc (length-counted_rows (stamp_after stamp t) ts)

pub counted_at : (P : TaskRow → Type 0) (ts : List TaskRow) (stamp k : ℕ) → k < length ts → ((s : ℕ) → P (counted s (get_or ts k no_row))) → P (get_or (counted_rows stamp ts) k no_row)
counted_at P [] stamp k h all = absurd (omega arith)
counted_at P (t ∷ ts) stamp zero h all = all stamp
counted_at P (t ∷ ts) stamp (suc k) h all = counted_at P ts (stamp_after stamp t) k (omega arith) all

state_by : (s t : State) (u : TaskRow) (stamp : ℕ) → s ≡ t → (counted_from s stamp u).state ≡ (counted_from t stamp u).state
state_by s t u stamp e = ap (λ (v : State). (counted_from v stamp u).state) e

fewer : (u : TaskRow) (n stamp : ℕ) → 1 < n → (counted_from (Delayed n) stamp u).state ≡ Delayed (n - 1)
fewer u n stamp h =
    if_by (λ (t : TaskRow). t.state ≡ Delayed (n - 1)) (nat_le n 1) (record { state = Ready; priority = u.priority; stamp = stamp }) (record { state = Delayed (n - 1); priority = u.priority; stamp = u.stamp })
    (λ e. absurd (let one = leb-true n 1 e in omega arith))
    (λ _. refl)

due : (u : TaskRow) (n stamp : ℕ) → n ≤ 1 → (counted_from (Delayed n) stamp u).state ≡ Ready
due u n stamp h =
    if_by (λ (t : TaskRow). t.state ≡ Ready) (nat_le n 1) (record { state = Ready; priority = u.priority; stamp = stamp }) (record { state = Delayed (n - 1); priority = u.priority; stamp = u.stamp })
    (λ _. refl)
    (λ e. absurd (let more = leb-false n 1 e in omega arith))

kept_arrival : (r : Roster) (i n : ℕ) → InRanges r → IsDelayed r i n → IsDelayed (arrives_if (record r { clock = r.clock + 1 }) (running r)) i n
kept_arrival r i n g w =
    arrival_goes (λ q. IsDelayed q i n) r g (record { there = w.there; state = w.state })
    (λ j h. kept_arrives (record r { clock = r.clock + 1 }) i n j Ready (record { there = w.there; state = w.state }) h.0 (ready_not_delayed r j n h))

counted_down : (q : Roster) (i n : ℕ) → IsDelayed q i n → 1 < n → IsDelayed (count_down q) i (n - 1)
counted_down q i n w more =
    let same = length-counted_rows q.stamp q.tasks in
    record {
      there = (w.there.0, let last = w.there.1 in omega arith);
      state = counted_at (λ t. t.state ≡ Delayed (n - 1)) q.tasks q.stamp (i - 1) (let a = w.there.0 in let b = w.there.1 in omega arith)
          (λ s. state_by (row q i).state (Delayed n) (row q i) s w.state ∙ fewer (row q i) n s more);
    }

woken_by_tick : (q : Roster) (i n : ℕ) → IsDelayed q i n → n ≤ 1 → (row (count_down q) i).state ≡ Ready
woken_by_tick q i n w one =
    counted_at (λ t. t.state ≡ Ready) q.tasks q.stamp (i - 1) (let a = w.there.0 in let b = w.there.1 in omega arith)
    (λ s. state_by (row q i).state (Delayed n) (row q i) s w.state ∙ due (row q i) n s one)

-- ---- the laws

absurd_test : {P : Type 0} (b : Bool) → b ≡ true → b ≡ false → P
absurd_test b e f = cc

called_keeps : (o : Option ℕ) (r : Roster) (i n : ℕ) (svc : Svc) → InRanges r → running r ≡ o → IsDelayed r i n → IsDelayed (called o r svc) i n × InRanges (called o r svc)
called_keeps None r i n svc g e w = (w, g)
called_keeps (Some j) r i n svc g e w =
    let h = running_is_ready r j g e in
    (kept_serve r i n j svc g h w, ranges-serve r j svc g h)

waits_on : (hs : List Happening) (r : Roster) (i n : ℕ) → InRanges r → IsDelayed r i n → ticks_in hs < n → IsDelayed (after r hs) i (n - ticks_in hs) × InRanges (after r hs)
waits_on [] r i n g w h = (subst (λ m. IsDelayed r i m) (let z : n ≡ n - 0 = omega arith in z) w, g)
waits_on (a_tick ∷ hs) r i n g w h =
    let fewer_left : n - 1 - ticks_in hs ≡ n - (ticks_in hs + 1) = omega arith in
    let rest = waits_on hs (tick r) i (n - 1) (ranges-tick r g) (counted_down _ i n (kept_arrival r i n g w) (omega arith)) (omega arith) in
    (subst (λ m. IsDelayed (after (tick r) hs) i m) fewer_left rest.0, rest.1)
waits_on (a_call svc ∷ hs) r i n g w h =
    let k = called_keeps (running r) r i n svc g refl w in
    waits_on hs (called (running r) r svc) i n k.1 k.0 h

pub delay_goes_on : DelayGoesOn
delay_goes_on r i n hs g there state h = (waits_on hs r i n g (record { there = there; state = state }) h).0.state

pub delay_is_over : DelayIsOver
delay_is_over r i n hs g there state e =
    let rest = waits_on hs r i n g (record { there = there; state = state }) (omega arith) in
    woken_by_tick _ i (n - ticks_in hs) (kept_arrival (after r hs) i (n - ticks_in hs) rest.1 rest.0) (omega arith)

pub delay_begins : DelayBegins
delay_begins r i n h e =
    if_by (λ (s : Served). (row s.0 i).state ≡ Delayed n) (is_delay n) (arrives r i (Delayed n), Waits) (arrives r i Ready, Go 0)
    (λ _. ap (λ (t : TaskRow). t.state) (row-with_row_same r i _ h))
    (λ f. absurd_test (is_delay n) e f)
