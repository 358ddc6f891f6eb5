-- What a tick and a service leave of the ready tasks.
use Rattle.std.proofs.Common.{◌≡◌, ◌≢◌, ℕ, suc, ◌+◌, ◌-◌, ◌<◌, ◌≤◌, Bool, true, false, Option, Some, None, length, refl, sym, ◌∙◌, ap, subst, arith}
use Rattle.rt_rules.specs.declared.task.State.{State}
use Rattle.rt_rules.specs.declared.task.State.TheVariants.{Ready, Delayed, Event, Facility}
use Rattle.rt_rules.specs.declared.task.TaskRow.{TaskRow}
use Rattle.rt_rules.specs.declared.service.Svc.{Svc}
use Rattle.rt_rules.specs.Roster.{Roster, row, IsTask, has_ended, IsReady, InRanges}
use Rattle.rt_rules.specs.Rules.{running, with_row, with_flag, with_owner, arrives, becomes, count_down, arrives_if, tick, give, give_if_owned, gives_from, serve}
use Rattle.rt_rules.proofs.Rows.{by_cases, at_row, row-with_row_same, row-with_row_other, length-with_row}
use Rattle.rt_rules.proofs.Giving.{give_cases, give_if_owned_cases}
use Rattle.rt_rules.proofs.Walks.{gives_from_goes, count_down_goes, count_task_cases, running_is_ready, serve_goes}
use Rattle.rt_rules.proofs.Ranges.{ranges-give_if_owned}
use Rattle.rt_run.specs.Queues.{Follows}

follows_same : (r : Roster) (i : ℕ) → Follows r i r
follows_same r i =
    record {
      same = refl;
      later = omega arith;
      priority = λ j h. refl;
      stays = λ j h d. refl;
      was = λ j h s. refl;
    }

-- ---- a row is replaced

ready_by : (q : Roster) (j : ℕ) (t : TaskRow) → row q j ≡ t → IsReady q j → t.state ≡ Ready
ready_by q j t e h = ap (λ (u : TaskRow). u.state) (sym e) ∙ h.1

earlier_by : (q : Roster) (j n : ℕ) (t : TaskRow) → row q j ≡ t → (row q j).stamp < n → t.stamp < n
earlier_by q j n t e h = subst (λ (u : TaskRow). u.stamp < n) e h

was_there : (q : Roster) (k j : ℕ) (t : TaskRow) (next : ℕ) → IsTask q k → j ≢ k → IsReady (with_row (record q { stamp = next }) k t) j → IsReady q j
was_there q k j t next there d h =
    let same : length (with_row q k t).tasks ≡ length q.tasks = length-with_row q k t in
    let last : j ≤ length (with_row q k t).tasks = h.0.1 in
    ((h.0.0, omega arith), ap (λ (u : TaskRow). u.state) (sym (row-with_row_other q k j t there.0 h.0.0 d)) ∙ h.1)

follows_row : (r : Roster) (i : ℕ) (q : Roster) (k : ℕ) (t : TaskRow) (next : ℕ) → Follows r i q → IsTask q k → q.stamp ≤ next → t.priority ≡ (row q k).priority → (IsReady r k → k ≢ i → ⊥) → (t.state ≡ Ready → t.stamp < r.stamp → ⊥) → Follows r i (with_row (record q { stamp = next }) k t)
follows_row r i q k t next f there up prio unready new =
    let later = f.later in
    record {
      same = length-with_row q k t ∙ f.same;
      later = omega arith;
      priority = λ j h.
          at_row (λ (u : TaskRow). u.priority ≡ (row r j).priority) q k j t there h.0
          (λ e. prio ∙ subst (λ x. (row q x).priority ≡ (row r j).priority) e (f.priority j h))
          (λ _. f.priority j h);
      stays = λ j h d.
          at_row (λ (u : TaskRow). u ≡ row r j) q k j t there h.0.0
          (λ e. absurd (unready (subst (λ x. IsReady r x) e h) (λ (z : k ≡ i). d (e ∙ z))))
          (λ _. f.stays j h d);
      was = λ j h s.
          by_cases j k
          (λ e.
          let is : row (with_row (record q { stamp = next }) k t) j ≡ t =
          subst (λ x. row (with_row (record q { stamp = next }) k t) x ≡ t) (sym e) (row-with_row_same q k t there) in
          absurd (new (ready_by (with_row (record q { stamp = next }) k t) j t is h) (earlier_by (with_row (record q { stamp = next }) k t) j r.stamp t is s)))
          (λ d.
          let is : row (with_row (record q { stamp = next }) k t) j ≡ row q j = row-with_row_other q k j t there.0 h.0.0 d in
          is ∙ f.was j (was_there q k j t next there d h) (subst (λ (u : TaskRow). u.stamp < r.stamp) is s));
    }

-- task k comes to a condition with a new stamp
follows_arrives : (r : Roster) (i : ℕ) (q : Roster) (k : ℕ) (s : State) → Follows r i q → IsTask q k → (IsReady r k → k ≢ i → ⊥) → Follows r i (arrives q k s)
follows_arrives r i q k s f there unready =
    follows_row r i q k (record { state = s; priority = (row q k).priority; stamp = q.stamp }) (q.stamp + 1) f there (omega arith) refl unready
    (λ _ l. let later = f.later in omega arith)

-- task k comes to a condition other than ready
follows_becomes : (r : Roster) (i : ℕ) (q : Roster) (k : ℕ) (s : State) → Follows r i q → IsTask q k → (IsReady r k → k ≢ i → ⊥) → s ≢ Ready → Follows r i (becomes q k s)
follows_becomes r i q k s f there unready other =
    follows_row r i q k (record { state = s; priority = (row q k).priority; stamp = (row q k).stamp }) q.stamp f there (omega arith) refl unready
    (λ e _. other e)

-- a task that waits now wasn't ready
not_ready : (r : Roster) (i : ℕ) (q : Roster) (k : ℕ) (s : State) → Follows r i q → (row q k).state ≡ s → s ≢ Ready → IsReady r k → k ≢ i → ⊥
not_ready r i q k s f e d h n = d (sym e ∙ (ap (λ (u : TaskRow). u.state) (f.stays k h n) ∙ h.1))

not_other : (r : Roster) (i : ℕ) → IsReady r i → i ≢ i → ⊥
not_other r i h d = d refl

event_is_other : (n : ℕ) → Event n ≢ Ready
event_is_other n e = cc

facility_is_other : (n : ℕ) → Facility n ≢ Ready
facility_is_other n e = cc

delayed_is_other : (n : ℕ) → Delayed n ≢ Ready
delayed_is_other n e = cc

ended_is_other : (s : State) → has_ended s ≡ true → s ≢ Ready
ended_is_other s h e = let no : has_ended s ≡ false = ap has_ended e in cc

follows_owner : (r : Roster) (i : ℕ) (q : Roster) (n o : ℕ) → Follows r i q → Follows r i (with_owner q n o)
follows_owner r i q n o f =
    record {
      same = f.same;
      later = f.later;
      priority = f.priority;
      stays = f.stays;
      was = λ j h s. f.was j (h.0, h.1) s;
    }

follows_flag : (r : Roster) (i : ℕ) (q : Roster) (n : ℕ) (b : Bool) → Follows r i q → Follows r i (with_flag q n b)
follows_flag r i q n b f =
    record {
      same = f.same;
      later = f.later;
      priority = f.priority;
      stays = f.stays;
      was = λ j h s. f.was j (h.0, h.1) s;
    }

follows_clock : (r : Roster) (i : ℕ) → Follows r i (record r { clock = r.clock + 1 })
follows_clock r i =
    record {
      same = refl;
      later = omega arith;
      priority = λ j h. refl;
      stays = λ j h d. refl;
      was = λ j h s. refl;
    }

-- ---- facilities given away

follows_handed : (r : Roster) (i : ℕ) (q : Roster) (n j : ℕ) → Follows r i q → IsTask q j → (row q j).state ≡ Facility n → Follows r i (arrives (with_owner q n j) j Ready)
follows_handed r i q n j f there waits =
    follows_arrives r i (with_owner q n j) j Ready (follows_owner r i q n j f) there
    (not_ready r i q j (Facility n) f waits (facility_is_other n))

follows_give : (r : Roster) (i : ℕ) (q : Roster) (n : ℕ) → InRanges q → Follows r i q → Follows r i (give q n)
follows_give r i q n g f =
    give_cases (λ z. Follows r i z) q n g
    (λ _. follows_owner r i q n 0 f)
    (λ j there waits. follows_handed r i q n j f there waits)

follows_give_if_owned : (r : Roster) (i : ℕ) (q : Roster) (n : ℕ) → InRanges q → Follows r i q → Follows r i (give_if_owned q i n)
follows_give_if_owned r i q n g f =
    give_if_owned_cases (λ z. Follows r i z) q i n g
    (λ _ _. follows_owner r i q n 0 f)
    (λ _ j there waits. follows_handed r i q n j f there waits)
    (λ _. f)

follows_ended : (r : Roster) (i : ℕ) (s : State) → InRanges r → IsReady r i → has_ended s ≡ true → Follows r i (becomes (gives_from i 1 32 r) i s)
follows_ended r i s g h e =
    let all = gives_from_goes (λ _ q. InRanges q × Follows r i q) i
    (λ m q k p. (ranges-give_if_owned q i m p.0 k, follows_give_if_owned r i q m p.0 p.1))
    32 1 r (omega arith) refl (g, follows_same r i) in
    let same : length (gives_from i 1 32 r).tasks ≡ length r.tasks = all.1.same in
    let last = h.0.1 in
    follows_becomes r i (gives_from i 1 32 r) i s all.1 (h.0.0, omega arith) (not_other r i) (ended_is_other s e)

-- ---- a service, and a tick

pub follows_serve : (r : Roster) (i : ℕ) (svc : Svc) → InRanges r → IsReady r i → Follows r i (serve r i svc).0
follows_serve r i svc g h =
    let f = follows_same r i in
    serve_goes (λ q. Follows r i q) r i svc g
    (record {
      nothing = f;
      anew = λ _ _. follows_arrives r i r i Ready f h.0 (not_other r i);
      delayed = λ n _. follows_arrives r i r i (Delayed n) f h.0 (not_other r i);
      flagged = λ n b _. follows_flag r i r n b f;
      waiting = λ n _ _. follows_arrives r i r i (Event n) f h.0 (not_other r i);
      woken = λ n j _ there waits. follows_arrives r i r j Ready f there (not_ready r i r j (Event n) f waits (event_is_other n));
      secured = λ n _ _ _. follows_owner r i r n i f;
      queued = λ n _ _ _ _. follows_arrives r i r i (Facility n) f h.0 (not_other r i);
      released = λ n _ _ _. follows_give r i r n g f;
      ended = λ s _ e. follows_ended r i s g h e;
    })

follows_counted : (r : Roster) (i : ℕ) (q : Roster) → Follows r i q → Follows r i (count_down q)
follows_counted r i q f =
    count_down_goes (λ _ z. Follows r i z) q
    (λ k z there _ p.
    count_task_cases (λ y. Follows r i y) z (suc k)
    (λ n waits _. follows_arrives r i z (suc k) Ready p there (not_ready r i z (suc k) (Delayed n) p waits (delayed_is_other n)))
    (λ n waits _. follows_becomes r i z (suc k) (Delayed (n - 1)) p there (not_ready r i z (suc k) (Delayed n) p waits (delayed_is_other n)) (delayed_is_other (n - 1)))
    (λ _. p))
    f

pub follows_ticked : (r : Roster) (i : ℕ) → IsReady r i → Follows r i (count_down (arrives (record r { clock = r.clock + 1 }) i Ready))
follows_ticked r i h =
    follows_counted r i (arrives (record r { clock = r.clock + 1 }) i Ready) (follows_arrives r i (record r { clock = r.clock + 1 }) i Ready (follows_clock r i) h.0 (not_other r i))

pub follows_tick : (r : Roster) (i : ℕ) → InRanges r → running r ≡ Some i → Follows r i (tick r)
follows_tick r i g e =
    subst (λ (o : Option ℕ). Follows r i (count_down (arrives_if (record r { clock = r.clock + 1 }) o))) (sym e)
    (follows_ticked r i (running_is_ready r i g e))

pub follows_idle : (r : Roster) → running r ≡ None → Follows r 0 (tick r)
follows_idle r e =
    subst (λ (o : Option ℕ). Follows r 0 (count_down (arrives_if (record r { clock = r.clock + 1 }) o))) (sym e)
    (follows_counted r 0 (record r { clock = r.clock + 1 }) (follows_clock r 0))
