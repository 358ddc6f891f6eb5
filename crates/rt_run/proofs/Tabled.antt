-- The queues in their table, and the marks of those that have a task.
use Rattle.std.proofs.Common.{◌≡◌, ◌≢◌, ℕ, ◌+◌, ◌<◌, ◌≤◌, Bool, true, false, if◌then◌else◌, List, [], ◌∷◌, ◌++◌, length, get_or, set, drop, replicate, sym, ◌∙◌, ap, subst, arith}
use Rattle.std.proofs.lemmas.List.{get_or-set_same, get_or-set_other, length-set, length-replicate, get_or-replicate, drop_more, replicate_more}
use Rattle.rt_rules.proofs.Rows.{by_cases}
use Rattle.rt_run.specs.Marks.{mark_of, HasNoMark, IsLeastMark}
use Rattle.rt_run.specs.Queues.{queue_of, AreMarked, IsHead, AreEmpty}

not_both : {P : Type 0} (m : ℕ) → m ≡ 0 → m ≡ 1 → P
not_both m a b = absurd (omega arith)

-- no queue has a task
pub empty_marked : (ws : List ℕ) (qs : List (List ℕ)) → qs ≡ replicate 256 [] → HasNoMark ws → AreMarked ws qs
empty_marked ws qs e none =
    subst (AreMarked ws) (sym e)
    (record {
      count = length-replicate {A = List ℕ} 256 [];
      empty = λ p h _. get_or-replicate {A = List ℕ} 256 p [] [] h;
      taken = λ p h m. not_both (mark_of ws p) (none p h) m;
    })

-- a property of the queue of priority q where that of priority p is replaced
pub at_queue : (P : List ℕ → Type 0) (qs : List (List ℕ)) (p q : ℕ) (xs : List ℕ) → p < length qs → (q ≡ p → P xs) → (q ≢ p → P (queue_of qs q)) → P (queue_of (set qs p xs) q)
at_queue P qs p q xs h same other =
    by_cases q p
    (λ e. subst (λ k. P (queue_of (set qs p xs) k)) (sym e) (subst P (sym (get_or-set_same qs p xs [] h)) (same e)))
    (λ d. subst P (sym (get_or-set_other qs p q xs [] d)) (other d))

-- the queue of priority p is replaced, and at most its mark
pub marked_changed : (ws vs : List ℕ) (qs : List (List ℕ)) (p : ℕ) (xs : List ℕ) → AreMarked ws qs → p < 256 → ((q : ℕ) → q < 256 → q ≢ p → mark_of vs q ≡ mark_of ws q) → (mark_of vs p ≡ 0 → xs ≡ []) → (mark_of vs p ≡ 1 → 0 < length xs) → AreMarked vs (set qs p xs)
marked_changed ws vs qs p xs m low others empty taken =
    let count = m.count in
    record {
      count = length-set qs p xs ∙ m.count;
      empty = λ q h e.
          at_queue (λ (ys : List ℕ). ys ≡ []) qs p q xs (omega arith)
          (λ s. empty (subst (λ k. mark_of vs k ≡ 0) s e))
          (λ d. m.empty q h (sym (others q h d) ∙ e));
      taken = λ q h e.
          at_queue (λ (ys : List ℕ). 0 < length ys) qs p q xs (omega arith)
          (λ s. taken (subst (λ k. mark_of vs k ≡ 1) s e))
          (λ d. m.taken q h (sym (others q h d) ∙ e));
    }

-- a queue that isn't empty is its head and the others
pub headed : (xs : List ℕ) (i : ℕ) → 0 < length xs → get_or xs 0 0 ≡ i → xs ≡ i ∷ drop 1 xs
headed xs i h e = drop_more xs 0 0 h ∙ ap (λ (x : ℕ). x ∷ drop 1 xs) e

-- the least mark is that of the first queue that isn't empty
pub head_found : (ws : List ℕ) (qs : List (List ℕ)) (p i : ℕ) → AreMarked ws qs → p < 256 → IsLeastMark ws p → get_or (queue_of qs p) 0 0 ≡ i → IsHead qs i
head_found ws qs p i m low f e =
    record {
      priority = p;
      below = low;
      head = headed (queue_of qs p) i (m.taken p low f.marked) e;
      before = λ q h. m.empty q (omega arith) (f.least q h);
    }

pub none_found : (ws : List ℕ) (qs : List (List ℕ)) → AreMarked ws qs → HasNoMark ws → AreEmpty qs
none_found ws qs m none p h = m.empty p h (none p h)

-- ---- the empty queues are made

pub filled_more : (xs ys : List (List ℕ)) (n m : ℕ) (b : Bool) → xs ≡ replicate n [] → b ≡ true → ys ≡ (if b then xs ++ [] ∷ [] else xs) → m ≡ (if b then n + 1 else n) → ys ≡ replicate m []
filled_more xs ys n m true e done items long =
    items ∙ (ap (λ (zs : List (List ℕ)). zs ++ [] ∷ []) e ∙ (replicate_more {X = List ℕ} n [] ∙ ap (λ (k : ℕ). replicate {A = List ℕ} k []) (sym long)))
filled_more xs ys n m false e no_more items long = cc

pub one_more : (n m : ℕ) (b : Bool) → b ≡ true → m ≡ (if b then n + 1 else n) → n < 256 → m ≤ 256
one_more n m true yes_more long h = omega arith
one_more n m false no_more long h = cc
