-- A facility that a task waits for has an owner, and that is another task.
use Rattle.std.proofs.Common.{◌≡◌, ◌≢◌, ℕ, suc, ◌+◌, ◌-◌, true, false, List, [], ◌∷◌, Option, Some, None, length, refl, sym, ◌∙◌, ap, subst, arith, eq-eqb}
use Rattle.rt_rules.specs.declared.task.State.{State}
use Rattle.rt_rules.specs.declared.task.State.TheVariants.{Ready, Delayed, Event, Facility}
use Rattle.rt_rules.specs.declared.task.TaskRow.{TaskRow}
use Rattle.rt_rules.specs.declared.service.Svc.{Svc}
use Rattle.rt_rules.specs.Roster.{Roster, row, owner_of, IsTask, IsNumber, has_ended, IsReady, InRanges}
use Rattle.rt_rules.specs.First.{HasNone}
use Rattle.rt_rules.specs.Rules.{awaits_facility, running, with_row, with_owner, arrives, becomes, count_down, arrives_if, tick, give, give_if_owned, gives_from, serve, start}
use Rattle.rt_rules.specs.Laws.{Happening, a_tick, a_call, called, after, WaitersWait, WaitersAlwaysWait}
use Rattle.rt_rules.proofs.Rows.{by_cases, row-with_row_same, row-with_row_other, length-with_row, at_owner}
use Rattle.rt_rules.proofs.Starts.{length-rows_from, get_or-rows_from}
use Rattle.rt_rules.proofs.Giving.{give_cases, give_if_owned_cases}
use Rattle.rt_rules.proofs.Walks.{gives_from_goes, count_down_goes, count_task_cases, arrival_goes, running_is_ready, serve_goes}
use Rattle.rt_rules.proofs.Ranges.{leaving_all, ranges-give_if_owned, ranges-serve, ranges-tick, start_in_ranges}

-- what holds of a waiter for facility n
abbrev IsServed : Roster → ℕ → ℕ → Type 0
IsServed r i n = IsNumber n × (owner_of r n ≢ 0) × (owner_of r n ≢ i)

-- a row is replaced
waits_row : (r : Roster) (j : ℕ) (t : TaskRow) → WaitersWait r → IsTask r j → ((n : ℕ) → t.state ≡ Facility n → IsServed r j n) → WaitersWait (with_row r j t)
waits_row r j t w h new i n there waits =
    let same : length (with_row r j t).tasks ≡ length r.tasks = length-with_row r j t in
    by_cases i j
    (λ e. subst (λ k. IsServed r k n) (sym e) (new n (ap (λ (u : TaskRow). u.state) (sym (row-with_row_same r j t h)) ∙ subst (λ k. (row (with_row r j t) k).state ≡ Facility n) e waits)))
    (λ d. w i n (there.0, let last = there.1 in omega arith) (ap (λ (u : TaskRow). u.state) (sym (row-with_row_other r j i t h.0 there.0 d)) ∙ waits))

ready_is_no_waiter : (n : ℕ) → Ready ≢ Facility n
ready_is_no_waiter n e = cc

delayed_is_no_waiter : (m n : ℕ) → Delayed m ≢ Facility n
delayed_is_no_waiter m n e = cc

event_is_no_waiter : (m n : ℕ) → Event m ≢ Facility n
event_is_no_waiter m n e = cc

ended_is_no_waiter : (s : State) (n : ℕ) → has_ended s ≡ true → s ≢ Facility n
ended_is_no_waiter s n h e = let no : has_ended s ≡ false = ap has_ended e in cc

facility_of : (m n : ℕ) → Facility m ≡ Facility n → m ≡ n
facility_of m n e = cc

waits_arrives : (r : Roster) (j : ℕ) → WaitersWait r → IsTask r j → WaitersWait (arrives r j Ready)
waits_arrives r j w h i n there waits = waits_row r j _ w h (λ m e. absurd (ready_is_no_waiter m e)) i n there waits

-- an owner is replaced
waits_owner : (r : Roster) (m o : ℕ) → WaitersWait r → InRanges r → IsNumber m → ((i : ℕ) → IsTask r i → (row r i).state ≢ Facility m) → WaitersWait (with_owner r m o)
waits_owner r m o w g k none i n there waits =
    let was = w i n there waits in
    let apart : n ≢ m = λ e. none i there (waits ∙ ap (λ x. Facility x) e) in (
      was.0,
      at_owner (λ x. x ≢ 0) r m n o g.owners k was.0.0 (λ e. absurd (apart e)) (λ _. was.1),
      at_owner (λ x. x ≢ i) r m n o g.owners k was.0.0 (λ e. absurd (apart e)) (λ _. was.2),
    )

-- a facility without a first waiter has none
none_waits : (r : Roster) (m : ℕ) → HasNone (awaits_facility m) r → (i : ℕ) → IsTask r i → (row r i).state ≢ Facility m
none_waits r m none i there waits =
    let no = none i there in
    let does : awaits_facility m (row r i).state ≡ true = ap (awaits_facility m) waits ∙ eq-eqb m m refl in
    cc

-- a facility is handed to a waiter
waits_handed : (r : Roster) (m j : ℕ) → WaitersWait r → InRanges r → IsNumber m → IsTask r j → WaitersWait (arrives (with_owner r m j) j Ready)
waits_handed r m j w g k h i n there waits =
    let same : length (arrives (with_owner r m j) j Ready).tasks ≡ length r.tasks = length-with_row r j _ in
    by_cases i j
    (λ e. absurd (ready_is_no_waiter n (ap (λ (u : TaskRow). u.state) (sym (row-with_row_same r j _ h)) ∙ subst (λ x. (row (arrives (with_owner r m j) j Ready) x).state ≡ Facility n) e waits)))
    (λ d.
    let was = w i n (there.0, let last = there.1 in omega arith) (ap (λ (u : TaskRow). u.state) (sym (row-with_row_other r j i _ h.0 there.0 d)) ∙ waits) in (
      was.0,
      at_owner (λ x. x ≢ 0) r m n j g.owners k was.0.0 (λ _ e. let one = h.0 in omega arith) (λ _. was.1),
      at_owner (λ x. x ≢ i) r m n j g.owners k was.0.0 (λ _ e. d (sym e)) (λ _. was.2),
    ))

waits_give : (r : Roster) (n : ℕ) → WaitersWait r → InRanges r → IsNumber n → WaitersWait (give r n)
waits_give r n w g k =
    give_cases WaitersWait r n g (λ none. waits_owner r n 0 w g k (none_waits r n none)) (λ j there _. waits_handed r n j w g k there)

waits_give_if_owned : (r : Roster) (i n : ℕ) → WaitersWait r → InRanges r → IsNumber n → WaitersWait (give_if_owned r i n)
waits_give_if_owned r i n w g k =
    give_if_owned_cases WaitersWait r i n g
    (λ _ none. waits_owner r n 0 w g k (none_waits r n none))
    (λ _ j there _. waits_handed r n j w g k there)
    (λ _. w)

waits_ended : (r : Roster) (i : ℕ) (s : State) → WaitersWait r → InRanges r → IsReady r i → has_ended s ≡ true → WaitersWait (becomes (gives_from i 1 32 r) i s)
waits_ended r i s w g h e =
    let all = gives_from_goes (λ _ q. InRanges q × WaitersWait q) i
    (λ m q k p. (ranges-give_if_owned q i m p.0 k, waits_give_if_owned q i m p.1 p.0 k))
    32 1 r (omega arith) refl (g, w) in
    waits_row (gives_from i 1 32 r) i _ all.1 (leaving_all r i g h).ready.0 (λ n f. absurd (ended_is_no_waiter s n e f))

waits_serve : (r : Roster) (i : ℕ) (svc : Svc) → WaitersWait r → InRanges r → IsReady r i → WaitersWait (serve r i svc).0
waits_serve r i svc w g h =
    serve_goes WaitersWait r i svc g
    (record {
      nothing = w;
      anew = λ _ _. waits_arrives r i w h.0;
      delayed = λ n _. waits_row r i _ w h.0 (λ m e. absurd (delayed_is_no_waiter n m e));
      flagged = λ _ _ _. w;
      waiting = λ n _ _. waits_row r i _ w h.0 (λ m e. absurd (event_is_no_waiter n m e));
      woken = λ n j _ there _. waits_arrives r j w there;
      secured = λ n _ k free. waits_owner r n i w g k (λ j there waits. (w j n there waits).1 free);
      queued = λ n _ k other taken.
          waits_row r i _ w h.0 (λ m e. subst (λ x. IsServed r i x) (facility_of n m e) (k, taken, other));
      released = λ n _ k _. waits_give r n w g k;
      ended = λ s _ e. waits_ended r i s w g h e;
    })

waits_counted : (r : Roster) → WaitersWait r → WaitersWait (count_down r)
waits_counted r w =
    count_down_goes (λ _ q. WaitersWait q) r
    (λ k q there _ p.
    count_task_cases WaitersWait q (suc k)
    (λ _ _ _. waits_arrives q (suc k) p there)
    (λ n _ _. waits_row q (suc k) _ p there (λ m e. absurd (delayed_is_no_waiter (n - 1) m e)))
    (λ _. p))
    w

waits_tick : (r : Roster) → WaitersWait r → InRanges r → WaitersWait (tick r)
waits_tick r w g =
    waits_counted (arrives_if (record r { clock = r.clock + 1 }) (running r))
    (arrival_goes WaitersWait r g w (λ i h. waits_arrives (record r { clock = r.clock + 1 }) i w h.0))

waits_called : (o : Option ℕ) (r : Roster) (svc : Svc) → WaitersWait r → InRanges r → running r ≡ o → WaitersWait (called o r svc) × InRanges (called o r svc)
waits_called None r svc w g e = (w, g)
waits_called (Some i) r svc w g e =
    let h = running_is_ready r i g e in
    (waits_serve r i svc w g h, ranges-serve r i svc g h)

waits_after : (hs : List Happening) (r : Roster) → WaitersWait r → InRanges r → WaitersWait (after r hs)
waits_after [] r w g = w
waits_after (a_tick ∷ hs) r w g = waits_after hs (tick r) (waits_tick r w g) (ranges-tick r g)
waits_after (a_call svc ∷ hs) r w g =
    let p = waits_called (running r) r svc w g refl in
    waits_after hs (called (running r) r svc) p.0 p.1

pub waiters_always_wait : WaitersAlwaysWait
waiters_always_wait ps hs h =
    waits_after hs (start ps)
    (λ i n there waits. absurd (ready_is_no_waiter n (ap (λ (u : TaskRow). u.state) (sym (get_or-rows_from 0 ps (i - 1) (let same = length-rows_from 0 ps in let one = there.0 in let last = there.1 in omega arith))) ∙ waits)))
    (start_in_ranges ps h)
