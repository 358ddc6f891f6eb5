-- Who has ended stays so.
use Rattle.std.proofs.Common.{◌≡◌, ℕ, suc, ◌+◌, Bool, true, false, ◌==◌, if◌then◌else◌, length, refl, sym, ap, ◌∙◌, subst, arith, Some}
use Rattle.rt_rules.specs.declared.task.State.{State}
use Rattle.rt_rules.specs.declared.task.State.TheVariants.{Ready, Delayed, Event, Facility, Ended, Failed}
use Rattle.rt_rules.specs.declared.task.TaskRow.{TaskRow}
use Rattle.rt_rules.specs.declared.service.Svc.TheVariants.{Delay, Wait, Signal, Secure, Release, Clock, TaskNo, Gel, End}
use Rattle.rt_rules.specs.declared.service.Outcome.TheVariants.{Go, Waits, Error, Ends}
use Rattle.rt_rules.specs.Roster.{Roster, row, owner_of, flag_of, IsTask, has_ended, IsAlive, InRanges}
use Rattle.rt_rules.specs.Rules.{running, with_row, with_flag, with_owner, arrives, becomes, arrives_if, is_delay, is_number, give, give_if_owned, gives_from, Served, wait, signal, secure, release}
use Rattle.rt_rules.proofs.Rows.{by_cases, row-with_row_same, row-with_row_other, length-with_row}
use Rattle.rt_rules.proofs.Giving.{give_cases, give_if_owned_cases}
use Rattle.rt_rules.proofs.Walks.{gives_from_goes, count_down_goes, count_task_cases, arrival_goes, running_is_ready, serve_goes}
use Rattle.rt_rules.proofs.Ranges.{alive_from_ready, ranges-give_if_owned, leaving_all}
use Rattle.rt_rules_laws.specs.Laws.{RunsAlive, TicksKeepEnded, ServicesKeepEnded, EndsEnd}

pub runs_alive : RunsAlive
runs_alive r i g e = alive_from_ready r i (running_is_ready r i g e)

-- the row of a task that hasn't ended is put anew
row_alive : (r : Roster) (i j : ℕ) (t : TaskRow) → IsAlive r i → IsAlive (with_row r i t) j → IsAlive r j
row_alive r i j t alive a =
    by_cases j i
    (λ e. subst (λ k. IsAlive r k) (sym e) alive)
    (λ n. ((a.0.0, omega (arith, a.0.1, length-with_row r i t)), ap (λ (x : TaskRow). has_ended x.state) (sym (row-with_row_other r i j t alive.0.0 a.0.0 n)) ∙ a.1))

-- whoever hasn't ended there hadn't in r
abbrev Hadnt : Roster → Roster → Type 0
Hadnt r q = (j : ℕ) → IsAlive q j → IsAlive r j

pub ticks_keep_ended : TicksKeepEnded
ticks_keep_ended r i g a = count_down_goes (λ k q. Hadnt r q) first step begins i a
  where
    first : Roster
    first = arrives_if (record r { clock = r.clock + 1 }) (running r)

    begins : Hadnt r first
    begins = arrival_goes (Hadnt r) r g (λ j h. h) (λ k ready j h. row_alive r k j _ (alive_from_ready r k ready) h)

    step : (k : ℕ) (q : Roster) → IsTask q (suc k) → length q.tasks ≡ length first.tasks → Hadnt r q → Hadnt r (Rattle.rt_rules.specs.Code.count_task q (suc k))
    step k q there same had =
        count_task_cases (Hadnt r) q (suc k)
        (λ n e less j h. had j (row_alive q (suc k) j _ (there, ap has_ended e) h))
        (λ n e more j h. had j (row_alive q (suc k) j _ (there, ap has_ended e) h))
        (λ no_delay. had)

gave : (r : Roster) (i n : ℕ) (q : Roster) → InRanges q → Hadnt r q → Hadnt r (give_if_owned q i n)
gave r i n q g had =
    give_if_owned_cases (Hadnt r) q i n g (λ own free j h. had j h)
    (λ own k there waits j h. had j (row_alive q k j _ (there, ap has_ended waits) h)) (λ own. had)

-- what is so while a task gives its facilities away
record Gives (r : Roster) (n : ℕ) (q : Roster) : Type 0 where
  ranges : InRanges q
  had : Hadnt r q

gives_all : (r : Roster) (i : ℕ) → InRanges r → Hadnt r (gives_from i 1 32 r)
gives_all r i g =
    (gives_from_goes (Gives r) i (λ n q k x. record { ranges = ranges-give_if_owned q i n x.ranges k; had = gave r i n q x.ranges x.had }) 32 1 r (omega arith) (omega arith)
    (record { ranges = g; had = λ j h. h })).had

pub services_keep_ended : ServicesKeepEnded
services_keep_ended r i j s g e a =
    let ready = running_is_ready r i g e in
    let alive = alive_from_ready r i ready in
    serve_goes (Hadnt r) r i s g
    (record {
      nothing = λ k h. h;
      anew = λ n d k h. row_alive r i k _ alive h;
      delayed = λ n d k h. row_alive r i k _ alive h;
      flagged = λ n b m k h. h;
      waiting = λ n d m k h. row_alive r i k _ alive h;
      woken = λ n l d there waits k h. row_alive r l k _ (there, ap has_ended waits) h;
      secured = λ n d m free k h. h;
      queued = λ n d m other owned k h. row_alive r i k _ alive h;
      released = λ n d m own. give_cases (Hadnt r) r n g (λ free k h. h) (λ l there waits k h. row_alive r l k _ (there, ap has_ended waits) h);
      ended = λ t is over k h. gives_all r i g k (row_alive (gives_from i 1 32 r) i k _ (alive_from_ready (gives_from i 1 32 r) i (leaving_all r i g ready).ready) h);
    })
    j a

-- ---- the end of a task

if_not : (b : Bool) (x y : Served) → (x.1 ≡ Ends → ⊥) → (y.1 ≡ Ends → ⊥) → (if b then x else y).1 ≡ Ends → ⊥
if_not true x y h g e = h e
if_not false x y h g e = g e

over : (r : Roster) (i : ℕ) (s : State) → InRanges r → running r ≡ Some i → has_ended s ≡ true → IsAlive (becomes (gives_from i 1 32 r) i s) i → ⊥
over r i s g e is a =
    let q : Roster = gives_from i 1 32 r in
    let there : IsTask q i = (leaving_all r i g (running_is_ready r i g e)).ready.0 in
    let t : TaskRow = record { state = s; priority = (row q i).priority; stamp = (row q i).stamp } in
    let same : has_ended s ≡ false = ap (λ (x : TaskRow). has_ended x.state) (sym (row-with_row_same q i t there)) ∙ a.1 in
    let no_way : true ≡ false = sym is ∙ same in absurd cc

pub ends_end : EndsEnd
ends_end r i (Delay n) g e end a = if_not (is_delay n) (arrives r i (Delayed n), Waits) (arrives r i Ready, Go 0) (λ f. cc) (λ f. cc) end
ends_end r i (Wait n) g e end a = if_not (is_number n) (wait r i n) (r, Error 5) (if_not (flag_of r n) (with_flag r n false, Go 0) (arrives r i (Event n), Waits) (λ f. cc) (λ f. cc)) (λ f. cc) end
ends_end r i (Signal n) g e end a = if_not (is_number n) (signal r n) (r, Error 5) (λ f. cc) (λ f. cc) end
ends_end r i (Secure n) g e end a =
    if_not (is_number n) (secure r i n) (r, Error 5)
    (if_not (owner_of r n == i) (r, Error 4) (if owner_of r n == 0 then (with_owner r n i, Go 0) else (arrives r i (Facility n), Waits)) (λ f. cc)
    (if_not (owner_of r n == 0) (with_owner r n i, Go 0) (arrives r i (Facility n), Waits) (λ f. cc) (λ f. cc))) (λ f. cc) end
ends_end r i (Release n) g e end a = if_not (is_number n) (release r i n) (r, Error 5) (if_not (owner_of r n == i) (give r n, Go 0) (r, Error 4) (λ f. cc) (λ f. cc)) (λ f. cc) end
ends_end r i Clock g e end a = cc
ends_end r i TaskNo g e end a = cc
ends_end r i (Gel n) g e end a = over r i (Failed n) g e refl a
ends_end r i End g e end a = over r i Ended g e refl a
