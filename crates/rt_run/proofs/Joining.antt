-- A task that took the next stamp joins its queue.
use Rattle.std.proofs.Common.{◌≡◌, ◌≢◌, ◌⊎◌, ℕ, ◌+◌, ◌-◌, ◌<◌, ◌≤◌, Bool, true, false, List, [], ◌∷◌, ◌++◌, length, get_or, set, replicate, refl, sym, ◌∙◌, ap, subst, inl, inr, arith, length-append}
use Rattle.std.proofs.lemmas.List.{length-set, length-replicate, get_or-replicate}
use Rattle.rt_rules.specs.declared.task.TaskRow.{TaskRow}
use Rattle.rt_rules.specs.Roster.{Roster, row, IsTask, IsReady, InRanges}
use Rattle.rt_rules.specs.Rules.{is_ready, start}
use Rattle.rt_rules.proofs.Walks.{is_ready_is}
use Rattle.rt_rules.proofs.Starts.{length-rows_from, get_or-rows_from}
use Rattle.rt_run.specs.Queue.{Lists}
use Rattle.rt_run.specs.Queues.{queue_of, IsIn, HasQueues, Holds, NoneHolds}
use Rattle.rt_run.proofs.Tabled.{at_queue}
use Rattle.rt_run.proofs.Listed.{lists_same, lists_none, lists_push, lists_few}

-- at the next stamp
in_later : (q : Roster) (s p j : ℕ) → IsIn q s p j → IsIn q (s + 1) p j × ((row q j).stamp ≡ (row q j).stamp)
in_later q s p j h = let early = h.2 in ((h.0, h.1, omega arith), refl)

in_before : (q : Roster) (s p j : ℕ) → IsIn q (s + 1) p j → (row q j).stamp ≢ s → IsIn q s p j
in_before q s p j h d = let early = h.2 in (h.0, h.1, omega arith)

-- no more tasks are in the queues
queues_on : (q : Roster) (s : ℕ) (qs : List (List ℕ)) → HasQueues q s qs → ((j : ℕ) → IsReady q j → (row q j).stamp ≢ s) → HasQueues q (s + 1) qs
queues_on q s qs hq none =
    record {
      ranges = hq.ranges;
      count = hq.count;
      low = hq.low;
      each = λ p b.
          lists_same (IsIn q s p) (IsIn q (s + 1) p) q q (queue_of qs p) (hq.each p b)
          (λ j h. in_later q s p j h)
          (λ j h. in_before q s p j h (none j h.0));
    }

pub join_none : (q : Roster) (s : ℕ) (qs : List (List ℕ)) → HasQueues q s qs → NoneHolds q s → HasQueues q (s + 1) qs
join_none q s qs hq none = queues_on q s qs hq (λ j h. none j h.0)

not_true_false : {P : Type 0} (b : Bool) → b ≡ true → b ≡ false → P
not_true_false b e f = cc

pub join_other : (q : Roster) (s t : ℕ) (qs : List (List ℕ)) → HasQueues q s qs → Holds q s t → is_ready (row q t).state ≡ false → HasQueues q (s + 1) qs
join_other q s t qs hq holds idle =
    queues_on q s qs hq
    (λ j h e.
    let same : j ≡ t = hq.ranges.different j t h.0 holds.0 (e ∙ sym holds.1) in
    let ready = subst (λ k. IsReady q k) same h in
    not_true_false (is_ready (row q t).state) (ap is_ready ready.1) idle)

pub join_ready : (q : Roster) (s t : ℕ) (qs : List (List ℕ)) → HasQueues q s qs → Holds q s t → is_ready (row q t).state ≡ true → HasQueues q (s + 1) (set qs (row q t).priority (queue_of qs (row q t).priority ++ t ∷ []))
join_ready q s t qs hq holds ready =
    let p0 = (row q t).priority in
    let low = hq.low t holds.0 in
    let count = hq.count in
    let held = holds.1 in
    let only : (j : ℕ) → IsReady q j → (row q j).stamp ≡ s → j ≡ t = λ j h e. hq.ranges.different j t h.0 holds.0 (e ∙ sym holds.1) in
    record {
      ranges = hq.ranges;
      count = length-set qs (row q t).priority (queue_of qs (row q t).priority ++ t ∷ []) ∙ hq.count;
      low = hq.low;
      each = λ p b.
          at_queue (λ xs. Lists (IsIn q (s + 1) p) q xs) qs (row q t).priority p (queue_of qs (row q t).priority ++ t ∷ []) (omega arith)
          (λ e.
          subst (λ k. Lists (IsIn q (s + 1) p) q (queue_of qs k ++ t ∷ [])) e
          (lists_push (IsIn q s p) (IsIn q (s + 1) p) q t (queue_of qs p) (hq.each p b)
          (λ j h. (in_later q s p j h).0)
          ((holds.0, is_ready_is (row q t).state ready), sym e, omega arith)
          (λ j h d. in_before q s p j h (λ z. d (only j h.0 z)))
          (λ j h. let early = h.2 in omega arith)))
          (λ other.
          lists_same (IsIn q s p) (IsIn q (s + 1) p) q q (queue_of qs p) (hq.each p b)
          (λ j h. in_later q s p j h)
          (λ j h. in_before q s p j h (λ z. other (sym h.1 ∙ ap (λ k. (row q k).priority) (only j h.0 z)))));
    }

-- there is room for one more task
task_in : (q : Roster) (s p t j : ℕ) → InRanges q → IsIn q s p j → (1 ≤ j) × (j ≤ 32)
task_in q s p t j g h = let last = h.0.0.1 in let few = g.few in (h.0.0.0, omega arith)

pub join_room : (q : Roster) (s t : ℕ) (qs : List (List ℕ)) → HasQueues q s qs → Holds q s t → is_ready (row q t).state ≡ true → length (queue_of qs (row q t).priority) < 32
join_room q s t qs hq holds ready =
    let p0 = (row q t).priority in
    let low = hq.low t holds.0 in
    let held = holds.1 in
    let pushed =
    lists_push (IsIn q s p0) (λ j. IsIn q s p0 j ⊎ (j ≡ t)) q t (queue_of qs p0) (hq.each p0 low)
    (λ j h. inl h) (inr refl)
    (λ j h d. elim h [ inl a ↦ a | inr e ↦ absurd (d e) ])
    (λ j h. let early = h.2 in omega arith) in
    let few = lists_few (λ j. IsIn q s p0 j ⊎ (j ≡ t)) q (queue_of qs p0 ++ t ∷ []) 32 pushed
    (λ j h. elim h [ inl a ↦ task_in q s p0 t j hq.ranges a | inr e ↦ subst (λ k. (1 ≤ k) × (k ≤ 32)) (sym e) (let last = holds.0.1 in let most = hq.ranges.few in (holds.0.0, omega arith)) ]) in
    let more = length-append (queue_of qs p0) (t ∷ []) in
    omega arith

-- ---- at the start

pub queues_none : (r : Roster) (qs : List (List ℕ)) → InRanges r → ((i : ℕ) → IsTask r i → (row r i).priority < 256) → qs ≡ replicate 256 [] → HasQueues r 0 qs
queues_none r qs g low e =
    subst (λ xs. HasQueues r 0 xs) (sym e)
    (record {
      ranges = g;
      count = length-replicate {A = List ℕ} 256 [];
      low = low;
      each = λ p b.
          subst (λ (xs : List ℕ). Lists (IsIn r 0 p) r xs) (sym (get_or-replicate {A = List ℕ} 256 p [] [] b))
          (lists_none (IsIn r 0 p) r (λ i h. absurd (let early = h.2 in omega arith)));
    })

pub low_start : (ps : List ℕ) (r : Roster) → r ≡ start ps → ((k : ℕ) → k < length ps → get_or ps k 0 < 256) → (i : ℕ) → IsTask r i → (row r i).priority < 256
low_start ps r e low =
    subst (λ (q : Roster). (i : ℕ) → IsTask q i → (row q i).priority < 256) (sym e)
    (λ i h.
    let same = length-rows_from 0 ps in
    let one = h.0 in
    let last = h.1 in
    subst (λ (t : TaskRow). t.priority < 256) (sym (get_or-rows_from 0 ps (i - 1) (omega arith))) (low (i - 1) (omega arith)))
