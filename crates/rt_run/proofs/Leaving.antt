-- The running task leaves its queue, or stays there.
use Rattle.std.proofs.Common.{◌≡◌, ◌≢◌, ℕ, ◌<◌, ◌≤◌, Bool, true, false, not, ◌&&◌, nat_lt, List, ◌∷◌, None, length, set, drop, refl, sym, ◌∙◌, ap, subst, arith}
use Rattle.std.proofs.lemmas.List.{length-set}
use Rattle.std.proofs.lemmas.Bool.{lt-ltb, ltb-true}
use Rattle.rt_rules.specs.declared.task.State.TheVariants.{Ready}
use Rattle.rt_rules.specs.declared.task.TaskRow.{TaskRow}
use Rattle.rt_rules.specs.Roster.{Roster, row, IsTask, IsReady, InRanges}
use Rattle.rt_rules.specs.Rules.{is_ready, running, tick}
use Rattle.rt_rules.proofs.Rows.{by_cases}
use Rattle.rt_rules.proofs.Walks.{is_ready_is}
use Rattle.rt_rules.proofs.Ranges.{ranges-tick}
use Rattle.rt_run.specs.Queue.{Lists}
use Rattle.rt_run.specs.Queues.{queue_of, IsIn, HasQueues, Follows, has_left, Leaves}
use Rattle.rt_run.proofs.Tabled.{at_queue}
use Rattle.rt_run.proofs.Listed.{lists_same, lists_tail}
use Rattle.rt_run.proofs.Follows.{follows_idle}

-- the same row, in another roster of as many tasks
in_by_row : (r q : Roster) (n p j : ℕ) → length q.tasks ≡ length r.tasks → row q j ≡ row r j → IsIn r n p j → IsIn q n p j
in_by_row r q n p j same e h =
    let last = h.0.0.1 in (
      ((h.0.0.0, omega arith), ap (λ (u : TaskRow). u.state) e ∙ h.0.1),
      ap (λ (u : TaskRow). u.priority) e ∙ h.1,
      subst (λ (u : TaskRow). u.stamp < n) (sym e) h.2,
    )

same_stamp : (r q : Roster) (j : ℕ) → row q j ≡ row r j → (row q j).stamp ≡ (row r j).stamp
same_stamp r q j e = ap (λ (u : TaskRow). u.stamp) e

-- another task stays as it was
still_in : (r : Roster) (i : ℕ) (q : Roster) (p j : ℕ) → Follows r i q → IsIn r r.stamp p j → j ≢ i → IsIn q r.stamp p j × ((row q j).stamp ≡ (row r j).stamp)
still_in r i q p j f h d =
    let e = f.stays j h.0 d in (in_by_row r q r.stamp p j f.same e h, same_stamp r q j e)

-- who is in a queue by an old stamp was there
was_in : (r : Roster) (i : ℕ) (q : Roster) (p j : ℕ) → Follows r i q → IsIn q r.stamp p j → IsIn r r.stamp p j
was_in r i q p j f h = in_by_row q r r.stamp p j (sym f.same) (sym (f.was j h.0 h.2)) h

low_still : (r : Roster) (i : ℕ) (q : Roster) (qs : List (List ℕ)) → HasQueues r r.stamp qs → Follows r i q → (j : ℕ) → IsTask q j → (row q j).priority < 256
low_still r i q qs hq f j h =
    let same = f.same in
    let last = h.1 in
    let there : IsTask r j = (h.0, omega arith) in
    subst (λ n. n < 256) (sym (f.priority j there)) (hq.low j there)

-- a list where the running task stays, as it was
pub list_stays : (r : Roster) (i : ℕ) (q : Roster) (p : ℕ) (xs : List ℕ) → Lists (IsIn r r.stamp p) r xs → Follows r i q → (IsIn r r.stamp p i → row q i ≡ row r i) → Lists (IsIn q r.stamp p) q xs
list_stays r i q p xs l f kept =
    lists_same (IsIn r r.stamp p) (IsIn q r.stamp p) r q xs l
    (λ j h.
    by_cases j i
    (λ e.
    let own = subst (λ k. row q k ≡ row r k) (sym e) (kept (subst (λ k. IsIn r r.stamp p k) e h)) in (
      in_by_row r q r.stamp p j f.same own h,
      same_stamp r q j own,
    ))
    (λ d. still_in r i q p j f h d))
    (λ j h. was_in r i q p j f h)

-- a list without its head, the running task, which has left it
pub list_cut : (r : Roster) (i : ℕ) (q : Roster) (p : ℕ) (xs : List ℕ) → Lists (IsIn r r.stamp p) r (i ∷ xs) → Follows r i q → (IsReady q i → (row q i).stamp < r.stamp → ⊥) → Lists (IsIn q r.stamp p) q xs
list_cut r i q p xs l f gone =
    lists_tail (IsIn r r.stamp p) (IsIn q r.stamp p) r q i xs l
    (λ j h d. still_in r i q p j f h d)
    (λ j h. (was_in r i q p j f h, λ (z : j ≡ i). gone (subst (λ k. IsReady q k) z h.0) (subst (λ k. (row q k).stamp < r.stamp) z h.2)))

-- the running task has another priority
pub list_of_others : (r : Roster) (i : ℕ) (q : Roster) (p : ℕ) (xs : List ℕ) → Lists (IsIn r r.stamp p) r xs → Follows r i q → (row r i).priority ≢ p → Lists (IsIn q r.stamp p) q xs
list_of_others r i q p xs l f other = list_stays r i q p xs l f (λ h. absurd (other h.1))

-- the running task stays in its queue, as it was
queues_stay : (r : Roster) (i : ℕ) (q : Roster) (qs : List (List ℕ)) → HasQueues r r.stamp qs → InRanges q → Follows r i q → ((p : ℕ) → IsIn r r.stamp p i → row q i ≡ row r i) → HasQueues q r.stamp qs
queues_stay r i q qs hq g f kept =
    record {
      ranges = g;
      count = hq.count;
      low = low_still r i q qs hq f;
      each = λ p b. list_stays r i q p (queue_of qs p) (hq.each p b) f (kept p);
    }

-- the running task leaves the head of its queue
queues_cut : (r : Roster) (i : ℕ) (q : Roster) (qs : List (List ℕ)) (p0 : ℕ) → HasQueues r r.stamp qs → InRanges q → Follows r i q → (row r i).priority ≡ p0 → p0 < 256 → queue_of qs p0 ≡ i ∷ drop 1 (queue_of qs p0) → (IsReady q i → (row q i).stamp < r.stamp → ⊥) → HasQueues q r.stamp (set qs p0 (drop 1 (queue_of qs p0)))
queues_cut r i q qs p0 hq g f prio low head gone =
    let count = hq.count in
    record {
      ranges = g;
      count = length-set qs p0 (drop 1 (queue_of qs p0)) ∙ hq.count;
      low = low_still r i q qs hq f;
      each = λ p b.
          at_queue (λ xs. Lists (IsIn q r.stamp p) q xs) qs p0 p (drop 1 (queue_of qs p0)) (omega arith)
          (λ e.
          list_cut r i q p (drop 1 (queue_of qs p0))
          (subst (λ xs. Lists (IsIn r r.stamp p) r xs) head (subst (λ k. Lists (IsIn r r.stamp p) r (queue_of qs k)) e (hq.each p b)))
          f gone)
          (λ d. list_of_others r i q p (queue_of qs p) (hq.each p b) f (λ e. d (sym e ∙ prio)));
    }

-- ---- the test

stands_by : (t : TaskRow) (n : ℕ) (a b : Bool) → is_ready t.state ≡ a → nat_lt t.stamp n ≡ b → not (a && b) ≡ false → (t.state ≡ Ready) × (t.stamp < n)
stands_by t n true true d l z = (is_ready_is t.state d, ltb-true t.stamp n l)
stands_by t n true false d l z = cc
stands_by t n false b d l z = cc

pub stands_ready : (t : TaskRow) (n : ℕ) → has_left t n ≡ false → (t.state ≡ Ready) × (t.stamp < n)
stands_ready t n e = stands_by t n (is_ready t.state) (nat_lt t.stamp n) refl refl e

pub left_not_ready : (t : TaskRow) (n : ℕ) → has_left t n ≡ true → t.state ≡ Ready → t.stamp < n → ⊥
left_not_ready t n e s l =
    let a : is_ready t.state ≡ true = ap is_ready s in
    let b : nat_lt t.stamp n ≡ true = lt-ltb t.stamp n l in
    let no : not (is_ready t.state && nat_lt t.stamp n) ≡ false = ap (λ (x : Bool). not (x && nat_lt t.stamp n)) a ∙ ap not b in
    cc

-- ---- after a step

pub leave_room : (i n : ℕ) (q : Roster) (qs : List (List ℕ)) → Leaves i n q qs → 0 < length (queue_of qs (row q i).priority)
leave_room i n q qs l =
    let prio = l.follows.priority i l.ready.0 in
    subst (λ p. 0 < length (queue_of qs p)) (sym prio) (subst (λ (xs : List ℕ). 0 < length xs) (sym l.head) (omega arith))

pub leave_cut : (i n : ℕ) (q : Roster) (qs : List (List ℕ)) → Leaves i n q qs → has_left (row q i) n ≡ true → HasQueues q n (set qs (row q i).priority (drop 1 (queue_of qs (row q i).priority)))
leave_cut i n q qs l e =
    let r = l.before in
    subst (λ m. HasQueues q m (set qs (row q i).priority (drop 1 (queue_of qs (row q i).priority)))) l.same
    (subst (λ p. HasQueues q r.stamp (set qs p (drop 1 (queue_of qs p)))) (sym (l.follows.priority i l.ready.0))
    (queues_cut r i q qs (row r i).priority (subst (λ m. HasQueues r m qs) (sym l.same) l.queued) l.ranges l.follows refl (l.queued.low i l.ready.0) l.head
    (λ h s. left_not_ready (row q i) n e h.1 (subst (λ m. (row q i).stamp < m) l.same s))))

pub leave_stay : (i n : ℕ) (q : Roster) (qs : List (List ℕ)) → Leaves i n q qs → has_left (row q i) n ≡ false → HasQueues q n qs
leave_stay i n q qs l e =
    let r = l.before in
    let s = stands_ready (row q i) n e in
    let same = l.follows.same in
    let last = l.ready.0.1 in
    let there : IsTask q i = (l.ready.0.0, omega arith) in
    subst (λ m. HasQueues q m qs) l.same
    (queues_stay r i q qs (subst (λ m. HasQueues r m qs) (sym l.same) l.queued) l.ranges l.follows
    (λ _ _. l.follows.was i (there, s.0) (subst (λ m. (row q i).stamp < m) (sym l.same) s.1)))

pub leave_later : (i n : ℕ) (q : Roster) (qs : List (List ℕ)) → Leaves i n q qs → n ≤ q.stamp
leave_later i n q qs l = let a = l.same in let b = l.follows.later in omega arith

-- ---- a tick while no task is ready

pub idle_queues : (r q : Roster) (qs : List (List ℕ)) → HasQueues r r.stamp qs → running r ≡ None → q ≡ tick r → HasQueues q r.stamp qs
idle_queues r q qs hq none e =
    subst (λ z. HasQueues z r.stamp qs) (sym e)
    (queues_stay r 0 (tick r) qs hq (ranges-tick r hq.ranges) (follows_idle r none) (λ p h. absurd (let one = h.0.0.0 in omega arith)))

pub idle_later : (r q : Roster) → running r ≡ None → q ≡ tick r → r.stamp ≤ q.stamp
idle_later r q none e = subst (λ (z : Roster). r.stamp ≤ z.stamp) (sym e) (follows_idle r none).later
