-- How a tick and a service go, one change after the other.
use Rattle.std.proofs.Common.{◌≡◌, ◌≢◌, ℕ, zero, suc, ◌+◌, ◌-◌, ◌≤◌, Bool, true, false, Option, Some, None, length, refl, sym, ap, subst, inl, inr, arith, eqb-true, if◌then◌else◌, ◌==◌, ◌&&◌, nat_le}
use Rattle.std.proofs.lemmas.Bool.{eqb-false, leb-true, leb-false}
use Rattle.std.proofs.lemmas.List.{set-get_or}
use Rattle.rt_rules.specs.declared.task.State.{State}
use Rattle.rt_rules.specs.declared.task.State.TheVariants.{Ready, Delayed, Event, Facility, Ended, Failed}
use Rattle.rt_rules.specs.declared.service.Svc.{Svc}
use Rattle.rt_rules.specs.declared.service.Svc.TheVariants.{Delay, Wait, Signal, Secure, Release, Clock, TaskNo, Gel, End}
use Rattle.rt_rules.specs.declared.service.Outcome.TheVariants.{Go, Waits, Error}
use Rattle.rt_rules.specs.Roster.{Roster, no_row, row, flag_of, owner_of, IsTask, IsNumber, has_ended, IsReady, InRanges}
use Rattle.rt_rules.specs.Rules.{first, is_ready, awaits_event, running, with_row, with_flag, with_owner, arrives, becomes, counted_from, is_due, count_down, arrives_if, Served, is_number, is_delay, wait, signal, secure, release, raise_for, give, give_if_owned, gives_from, serve}
use Rattle.rt_rules.specs.Laws.{IsEnd}
use Rattle.rt_rules.specs.Code.{count_task}
use Rattle.rt_rules.proofs.Rows.{if_by}
use Rattle.rt_rules.proofs.Firsts.{first_is}
use Rattle.rt_rules.proofs.Counting.{Counting, counting_none, counting_step, counting_all}
use Rattle.rt_rules.proofs.Giving.{awaits_event_is}

-- ---- facilities given away one by one

pub gives_from_goes : (P : ℕ → Roster → Type 0) (i : ℕ) → ((n : ℕ) (q : Roster) → IsNumber n → P n q → P (n + 1) (give_if_owned q i n)) → (k n : ℕ) (r : Roster) → 1 ≤ n → n + k ≡ 33 → P n r → P 33 (gives_from i n k r)
unfolding gives_from
gives_from_goes P i step zero n r a e p = let here : n ≡ 33 = omega arith in subst (λ m. P m r) here p
gives_from_goes P i step (suc k) n r a e p =
    gives_from_goes P i step k (n + 1) (give_if_owned r i n) (omega arith) (omega arith) (step n r (a, omega arith) p)

-- ---- delays counted down one by one

counted_to : ℕ → Roster → Roster
counted_to zero r = r
counted_to (suc k) r = count_task (counted_to k r) (suc k)

counts_to : (r : Roster) (k : ℕ) → k ≤ length r.tasks → Counting r (counted_to k r) k
unfolding counted_to
counts_to r zero h = counting_none r
counts_to r (suc k) h =
    let c = counts_to r k (omega arith) in
    let back : k ≡ suc k - 1 = omega arith in
    counting_step r (counted_to k r) (suc k) (subst (λ m. Counting r (counted_to k r) m) back c) (omega arith, omega (arith, c.same))

goes_to : (P : ℕ → Roster → Type 0) (r : Roster) → ((k : ℕ) (q : Roster) → IsTask q (suc k) → length q.tasks ≡ length r.tasks → P k q → P (suc k) (count_task q (suc k))) → P 0 r → (k : ℕ) → k ≤ length r.tasks → P k (counted_to k r)
unfolding counted_to
goes_to P r step p zero h = p
goes_to P r step p (suc k) h =
    let c = counts_to r k (omega arith) in
    step k (counted_to k r) (omega arith, omega (arith, c.same)) c.same (goes_to P r step p k (omega arith))

pub count_down_goes : (P : ℕ → Roster → Type 0) (r : Roster) → ((k : ℕ) (q : Roster) → IsTask q (suc k) → length q.tasks ≡ length r.tasks → P k q → P (suc k) (count_task q (suc k))) → P 0 r → P (length r.tasks) (count_down r)
count_down_goes P r step p =
    let n = length r.tasks in
    let c = counts_to r n (omega arith) in
    subst (λ q. P n q) (counting_all r (counted_to n r) n c (omega (arith, c.same))) (goes_to P r step p n (omega arith))

by_due : (P : Roster → Type 0) (r : Roster) (i n : ℕ) (b : Bool) → nat_le n 1 ≡ b → (n ≤ 1 → P (arrives r i Ready)) → (2 ≤ n → P (becomes r i (Delayed (n - 1)))) → P (with_row (record r { stamp = if b then r.stamp + 1 else r.stamp }) i (if b then record { state = Ready; priority = (row r i).priority; stamp = r.stamp } else record { state = Delayed (n - 1); priority = (row r i).priority; stamp = (row r i).stamp }))
by_due P r i n true e due later = due (leb-true n 1 e)
by_due P r i n false e due later = later (let more = leb-false n 1 e in omega arith)

with_own_row : (r : Roster) (i : ℕ) → with_row r i (row r i) ≡ r
with_own_row r i = ap (λ ts. let q : Roster = record r { tasks = ts } in q) (set-get_or r.tasks (i - 1) no_row)

by_state : (P : Roster → Type 0) (r : Roster) (i : ℕ) (s : State) → (row r i).state ≡ s → ((n : ℕ) → (row r i).state ≡ Delayed n → n ≤ 1 → P (arrives r i Ready)) → ((n : ℕ) → (row r i).state ≡ Delayed n → 2 ≤ n → P (becomes r i (Delayed (n - 1)))) → (((n : ℕ) → (row r i).state ≢ Delayed n) → P r) → P (with_row (record r { stamp = if is_due s then r.stamp + 1 else r.stamp }) i (counted_from s r.stamp (row r i)))
by_state P r i Ready e due later kept = subst P (sym (with_own_row r i)) (kept (λ n f. cc))
by_state P r i (Delayed n) e due later kept = by_due P r i n (nat_le n 1) refl (due n e) (later n e)
by_state P r i (Event n) e due later kept = subst P (sym (with_own_row r i)) (kept (λ m f. cc))
by_state P r i (Facility n) e due later kept = subst P (sym (with_own_row r i)) (kept (λ m f. cc))
by_state P r i Ended e due later kept = subst P (sym (with_own_row r i)) (kept (λ n f. cc))
by_state P r i (Failed n) e due later kept = subst P (sym (with_own_row r i)) (kept (λ m f. cc))

pub count_task_cases : (P : Roster → Type 0) (r : Roster) (i : ℕ) → ((n : ℕ) → (row r i).state ≡ Delayed n → n ≤ 1 → P (arrives r i Ready)) → ((n : ℕ) → (row r i).state ≡ Delayed n → 2 ≤ n → P (becomes r i (Delayed (n - 1)))) → (((n : ℕ) → (row r i).state ≢ Delayed n) → P r) → P (count_task r i)
count_task_cases P r i due later kept = by_state P r i (row r i).state refl due later kept

-- ---- who runs

pub is_ready_is : (s : State) → is_ready s ≡ true → s ≡ Ready
is_ready_is Ready e = refl
is_ready_is (Delayed n) e = cc
is_ready_is (Event n) e = cc
is_ready_is (Facility n) e = cc
is_ready_is Ended e = cc
is_ready_is (Failed n) e = cc

pub running_is_ready : (r : Roster) (i : ℕ) → InRanges r → running r ≡ Some i → IsReady r i
running_is_ready r i g e =
    let f = first_is is_ready r i g e in
    (f.there, is_ready_is (row r i).state f.suits)

arrives_if_by : (P : Roster → Type 0) (q : Roster) (o : Option ℕ) (r : Roster) → running r ≡ o → InRanges r → P q → ((i : ℕ) → IsReady r i → P (arrives q i Ready)) → P (arrives_if q o)
arrives_if_by P q None r e g idle busy = idle
arrives_if_by P q (Some i) r e g idle busy = busy i (running_is_ready r i g e)

-- the running task, if there is one, arrives anew
pub arrival_goes : (P : Roster → Type 0) (r : Roster) → InRanges r → P (record r { clock = r.clock + 1 }) → ((i : ℕ) → IsReady r i → P (arrives (record r { clock = r.clock + 1 }) i Ready)) → P (arrives_if (record r { clock = r.clock + 1 }) (running r))
arrival_goes P r g idle busy = arrives_if_by P (record r { clock = r.clock + 1 }) (running r) r refl g idle busy

-- ---- a service

and_left : (a b : Bool) → (a && b) ≡ true → a ≡ true
and_left true b e = refl
and_left false b e = e

and_right : (a b : Bool) → (a && b) ≡ true → b ≡ true
and_right true b e = e
and_right false b e = cc

pub is_number_is : (n : ℕ) → is_number n ≡ true → IsNumber n
is_number_is n e = (leb-true 1 n (and_left _ _ e), leb-true n 32 (and_right _ _ e))

-- the changes of which a service of the ready task i is one, and what is known where each is made
pub record Changes (P : Roster → Type 0) (r : Roster) (i : ℕ) (svc : Svc) : Type 0 where
  pub nothing : P r
  pub anew : (n : ℕ) → svc ≡ Delay n → P (arrives r i Ready)
  pub delayed : (n : ℕ) → svc ≡ Delay n → P (arrives r i (Delayed n))
  pub flagged : (n : ℕ) (b : Bool) → IsNumber n → P (with_flag r n b)
  pub waiting : (n : ℕ) → svc ≡ Wait n → IsNumber n → P (arrives r i (Event n))
  pub woken : (n j : ℕ) → svc ≡ Signal n → IsTask r j → (row r j).state ≡ Event n → P (arrives r j Ready)
  pub secured : (n : ℕ) → svc ≡ Secure n → IsNumber n → owner_of r n ≡ 0 → P (with_owner r n i)
  pub queued : (n : ℕ) → svc ≡ Secure n → IsNumber n → owner_of r n ≢ i → owner_of r n ≢ 0 → P (arrives r i (Facility n))
  pub released : (n : ℕ) → svc ≡ Release n → IsNumber n → owner_of r n ≡ i → P (give r n)
  pub ended : (s : State) → IsEnd svc → has_ended s ≡ true → P (becomes (gives_from i 1 32 r) i s)

raised : (P : Roster → Type 0) (r : Roster) (i n : ℕ) (o : Option ℕ) → Changes P r i (Signal n) → first (awaits_event n) r ≡ o → InRanges r → IsNumber n → P (raise_for r n o)
raised P r i n None c e g k = c.flagged n true k
raised P r i n (Some j) c e g k =
    let f = first_is (awaits_event n) r j g e in
    c.woken n j refl f.there (awaits_event_is n (row r j).state f.suits)

-- what holds after each of the changes holds after a service
pub serve_goes : (P : Roster → Type 0) (r : Roster) (i : ℕ) (svc : Svc) → InRanges r → Changes P r i svc → P (serve r i svc).0
serve_goes P r i (Delay n) g c =
    if_by (λ (s : Served). P s.0) (is_delay n) (arrives r i (Delayed n), Waits) (arrives r i Ready, Go 0) (λ _. c.delayed n refl) (λ _. c.anew n refl)
serve_goes P r i (Wait n) g c =
    if_by (λ (s : Served). P s.0) (is_number n) (wait r i n) (r, Error 5)
    (λ e. let k = is_number_is n e in
    if_by (λ (s : Served). P s.0) (flag_of r n) (with_flag r n false, Go 0) (arrives r i (Event n), Waits) (λ _. c.flagged n false k) (λ _. c.waiting n refl k))
    (λ _. c.nothing)
serve_goes P r i (Signal n) g c =
    if_by (λ (s : Served). P s.0) (is_number n) (signal r n) (r, Error 5)
    (λ e. raised P r i n (first (awaits_event n) r) c refl g (is_number_is n e))
    (λ _. c.nothing)
serve_goes P r i (Secure n) g c =
    if_by (λ (s : Served). P s.0) (is_number n) (secure r i n) (r, Error 5)
    (λ e. let k = is_number_is n e in
    if_by (λ (s : Served). P s.0) (owner_of r n == i) (r, Error 4) (if owner_of r n == 0 then (with_owner r n i, Go 0) else (arrives r i (Facility n), Waits))
    (λ _. c.nothing)
    (λ other. if_by (λ (s : Served). P s.0) (owner_of r n == 0) (with_owner r n i, Go 0) (arrives r i (Facility n), Waits)
    (λ free. c.secured n refl k (eqb-true (owner_of r n) 0 free))
    (λ taken. c.queued n refl k (eqb-false (owner_of r n) i other) (eqb-false (owner_of r n) 0 taken))))
    (λ _. c.nothing)
serve_goes P r i (Release n) g c =
    if_by (λ (s : Served). P s.0) (is_number n) (release r i n) (r, Error 5)
    (λ e. if_by (λ (s : Served). P s.0) (owner_of r n == i) (give r n, Go 0) (r, Error 4)
    (λ own. c.released n refl (is_number_is n e) (eqb-true (owner_of r n) i own))
    (λ _. c.nothing))
    (λ _. c.nothing)
serve_goes P r i Clock g c = c.nothing
serve_goes P r i TaskNo g c = c.nothing
serve_goes P r i (Gel n) g c = c.ended (Failed n) (inr (n, refl)) refl
serve_goes P r i End g c = c.ended Ended (inl refl) refl
