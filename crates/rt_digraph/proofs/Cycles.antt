-- Nodes that are marked as they are found on cycles.
use Rattle.std.proofs.Common.{◌≡◌, ℕ, zero, suc, ◌+◌, ◌<◌, ◌≤◌, ◌⊎◌, inl, inr, Bool, true, false, if◌then◌else◌, ltb, List, [], ◌∷◌, ◌++◌, length, Some, replicate, slice_get, slice_set, refl, sym, ap, ◌∙◌, subst, arith}
use Rattle.std.proofs.lemmas.Option.{slice_get_within}
use Rattle.rt_digraph.specs.Walks.{Has, Walk, one, more, IsOnCycle, IsCycleOf}
use Rattle.rt_digraph.specs.Digraph.{Edge}
use Rattle.rt_digraph.specs.Alone.{is_marked, AreAlone}
use Rattle.rt_digraph.specs.Rings.{AreOnCycles, AreMarkedBelow, mark, mark_one}
use Rattle.rt_digraph.proofs.Lists.{get_left, get_end, get_cases, get_replicate, long_replicate, set_long, some_is}
use Rattle.rt_digraph.proofs.Moves.{same_or_not, walks_on}
use Rattle.rt_digraph.proofs.Ends.{on_cycle}
use Rattle.rt_digraph.proofs.Told.{is_some}

-- ---- the nodes of a cycle

module _ {A : Type 0} (Leads : A → A → Type 0) where
  walk_walk : (a b c : A) → Walk Leads a b → Walk Leads b c → Walk Leads a c
  walk_walk a b c v (one e) = more v e
  walk_walk a b c v (more {b = d} w e) = more (walk_walk a b d v w) e

  -- each node of a cycle lies on one
  pub all_on_cycle : (a : A) (xs : List A) → IsCycleOf Leads a xs → (x : A) → Has xs x → IsOnCycle Leads x
  all_on_cycle a xs c x h = by h.0 x (subst (λ (l : List A). slice_get l h.0 ≡ Some x) c.whole h.1) h.1
    where
      first : slice_get xs 0 ≡ Some a
      first = subst (λ (l : List A). slice_get l 0 ≡ Some a) (sym c.whole) (get_left c.turn (a ∷ []) 0 a c.begins)

      last : slice_get xs (length c.turn) ≡ Some a
      last = subst (λ (l : List A). slice_get l (length c.turn) ≡ Some a) (sym c.whole) (get_end c.turn a)

      by : (i : ℕ) (y : A) → slice_get (c.turn ++ a ∷ []) i ≡ Some y → slice_get xs i ≡ Some y → IsOnCycle Leads y
      by zero y e f = subst (λ (z : A). IsOnCycle Leads z) (some_is a y (sym first ∙ f)) (on_cycle Leads a xs c)
      by (suc i) y e f = elim (get_cases c.turn a (suc i) y e) [
        | inl g ↦ walk_walk y a y (walks_on Leads xs c.edges (suc i) (length c.turn) y a (slice_get_within c.turn (suc i) y g) f last) (walks_on Leads xs c.edges 0 (suc i) a y (omega arith) first f)
        | inr g ↦ subst (λ (z : A). IsOnCycle Leads z) (sym g.1) (on_cycle Leads a xs c)
      ]

-- ---- marks

set_true : (ms : List Bool) (s n : ℕ) → is_marked (slice_set ms s true) n ≡ true → (n ≡ s) ⊎ (is_marked ms n ≡ true)
set_true [] s n e = inr e
set_true (m ∷ ms) zero zero e = inl refl
set_true (m ∷ ms) zero (suc n) e = inr e
set_true (m ∷ ms) (suc s) zero e = inr e
set_true (m ∷ ms) (suc s) (suc n) e = elim (set_true ms s n e) [ inl f ↦ inl (ap suc f) | inr f ↦ inr f ]

set_keeps : (ms : List Bool) (s n : ℕ) → is_marked ms n ≡ true → is_marked (slice_set ms s true) n ≡ true
set_keeps [] s n e = e
set_keeps (m ∷ ms) zero zero e = refl
set_keeps (m ∷ ms) zero (suc n) e = e
set_keeps (m ∷ ms) (suc s) zero e = e
set_keeps (m ∷ ms) (suc s) (suc n) e = set_keeps ms s n e

set_here : (ms : List Bool) (s : ℕ) → s < length ms → is_marked (slice_set ms s true) s ≡ true
set_here [] s h = absurd (omega (arith, h))
set_here (m ∷ ms) zero h = refl
set_here (m ∷ ms) (suc s) h = set_here ms s (omega (arith, h))

one_from : (s : ℕ) (ms : List Bool) (n : ℕ) → is_marked (mark_one s ms) n ≡ true → (n ≡ s) ⊎ (is_marked ms n ≡ true)
one_from s ms n e = by (ltb s (length ms)) e
  where
    by : (b : Bool) → is_marked (if b then slice_set ms s true else ms) n ≡ true → (n ≡ s) ⊎ (is_marked ms n ≡ true)
    by true f = set_true ms s n f
    by false f = inr f

one_keeps : (s : ℕ) (ms : List Bool) (n : ℕ) → is_marked ms n ≡ true → is_marked (mark_one s ms) n ≡ true
one_keeps s ms n e = by (ltb s (length ms))
  where
    by : (b : Bool) → is_marked (if b then slice_set ms s true else ms) n ≡ true
    by true = set_keeps ms s n e
    by false = e

one_here : (s : ℕ) (ms : List Bool) → s < length ms → is_marked (mark_one s ms) s ≡ true
one_here s ms h = by (ltb s (length ms)) (grind (arith, h))
  where
    by : (b : Bool) → b ≡ true → is_marked (if b then slice_set ms s true else ms) s ≡ true
    by true e = set_here ms s h
    by false e = absurd cc

one_long : (s : ℕ) (ms : List Bool) → length (mark_one s ms) ≡ length ms
one_long s ms = by (ltb s (length ms))
  where
    by : (b : Bool) → length (if b then slice_set ms s true else ms) ≡ length ms
    by true = set_long ms s true
    by false = refl

mark_from : (ns : List ℕ) (ms : List Bool) (n : ℕ) → is_marked (mark ns ms) n ≡ true → Has ns n ⊎ (is_marked ms n ≡ true)
mark_from [] ms n e = inr e
mark_from (s ∷ ns) ms n e = elim (mark_from ns (mark_one s ms) n e) [
  | inl h ↦ inl (suc h.0, h.1)
  | inr f ↦ elim (one_from s ms n f) [ inl same ↦ inl (0, ap Some (sym same)) | inr g ↦ inr g ]
]

mark_keeps : (ns : List ℕ) (ms : List Bool) (n : ℕ) → is_marked ms n ≡ true → is_marked (mark ns ms) n ≡ true
mark_keeps [] ms n e = e
mark_keeps (s ∷ ns) ms n e = mark_keeps ns (mark_one s ms) n (one_keeps s ms n e)

mark_first : (ns : List ℕ) (ms : List Bool) (n : ℕ) → slice_get ns 0 ≡ Some n → n < length ms → is_marked (mark ns ms) n ≡ true
mark_first [] ms n e h = absurd cc
mark_first (s ∷ ns) ms n e h =
    let same : s ≡ n = some_is s n e in
    mark_keeps ns (mark_one s ms) n (subst (λ (k : ℕ). is_marked (mark_one k ms) n ≡ true) (sym same) (one_here n ms h))

mark_long : (ns : List ℕ) (ms : List Bool) → length (mark ns ms) ≡ length ms
mark_long [] ms = refl
mark_long (s ∷ ns) ms = mark_long ns (mark_one s ms) ∙ one_long s ms

-- ---- node by node

module _ (graph : List (List ℕ)) where
  pub none_below : (ms : List Bool) → ms ≡ replicate (length graph) false → AreMarkedBelow graph 0 ms
  none_below ms e = record {
    size = ap length e ∙ long_replicate (length graph) false;
    right = λ n m. absurd (let f : true ≡ false = get_replicate (length graph) n false true (is_some (slice_get (replicate (length graph) false) n) (subst (λ (x : List Bool). is_marked x n ≡ true) e m)) in cc);
    below = λ n h c. absurd (omega (arith, h));
  }

  further : (count n : ℕ) (ms : List Bool) → n < count + 1 → AreMarkedBelow graph count ms → (IsOnCycle (Edge graph) count → is_marked ms count ≡ true) → IsOnCycle (Edge graph) n → is_marked ms n ≡ true
  further count n ms h old here c = elim (same_or_not n count) [
    | inl same ↦ subst (λ (k : ℕ). is_marked ms k ≡ true) (sym same) (here (subst (λ (k : ℕ). IsOnCycle (Edge graph) k) same c))
    | inr other ↦ old.below n (down n count h other) c
  ]
    where
      down : (i c : ℕ) → i < c + 1 → (i ≡ c → ⊥) → i < c
      down i c l other = grind (arith, l, other)

  -- nothing is to be marked
  pub marked_same : (count : ℕ) (ms : List Bool) → AreMarkedBelow graph count ms → (IsOnCycle (Edge graph) count → is_marked ms count ≡ true) → AreMarkedBelow graph (count + 1) ms
  marked_same count ms old here = record { size = old.size; right = old.right; below = λ n h c. further count n ms h old here c }

  pub marked_alone : (count : ℕ) (alone ms : List Bool) → AreMarkedBelow graph count ms → AreAlone graph alone → is_marked alone count ≡ true → AreMarkedBelow graph (count + 1) ms
  marked_alone count alone ms old none e = marked_same count ms old (λ c. absurd (none count e c))

  -- a cycle is marked
  pub marked_cycle : (count : ℕ) (xs : List ℕ) (ms new : List Bool) → count < length graph → AreMarkedBelow graph count ms → IsCycleOf (Edge graph) count xs → new ≡ mark xs ms → AreMarkedBelow graph (count + 1) new
  marked_cycle count xs ms new there old cycle e = subst (λ (x : List Bool). AreMarkedBelow graph (count + 1) x) (sym e) (marked_same count (mark xs ms) all (λ c. here))
    where
      first : slice_get xs 0 ≡ Some count
      first = subst (λ (l : List ℕ). slice_get l 0 ≡ Some count) (sym cycle.whole) (get_left cycle.turn (count ∷ []) 0 count cycle.begins)

      here : is_marked (mark xs ms) count ≡ true
      here = mark_first xs ms count first (omega (arith, there, old.size))

      all : AreMarkedBelow graph count (mark xs ms)
      all = record {
        size = mark_long xs ms ∙ old.size;
        right = λ n m. elim (mark_from xs ms n m) [ inl h ↦ all_on_cycle (Edge graph) count xs cycle n h | inr f ↦ old.right n f ];
        below = λ n h c. mark_keeps xs ms n (old.below n h c);
      }

  there_on : (n : ℕ) → IsOnCycle (Edge graph) n → n < length graph
  there_on n (one e) = e.there
  there_on n (more w e) = e.there

  pub all_marked : (count : ℕ) (ms : List Bool) → length graph ≤ count → AreMarkedBelow graph count ms → AreOnCycles graph ms
  all_marked count ms most old n = (old.right n, λ c. old.below n (let h = there_on n c in omega (arith, h, most)) c)
