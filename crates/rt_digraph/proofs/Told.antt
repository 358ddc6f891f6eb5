-- Nodes that numbers tell to lie on no cycle.
use Rattle.std.proofs.Common.{◌≡◌, ℕ, zero, suc, ◌+◌, ◌<◌, ◌≤◌, inl, inr, Bool, true, false, ◌&&◌, if◌then◌else◌, eqb, ltb, List, [], ◌∷◌, length, Option, Some, None, replicate, slice_get, slice_set, refl, sym, ap, subst, arith}
use Rattle.std.proofs.lemmas.Bool.Decides.{nat_tests}
use Rattle.std.proofs.lemmas.Option.{slice_get_within}
use Rattle.rt_digraph.specs.Walks.{Walk, one, more}
use Rattle.rt_digraph.specs.Digraph.{successors, Edge}
use Rattle.rt_digraph.specs.Alone.{true_or_not, is_marked, AreAlone, AreRanks, rank, no_more, unmark_one, unmark}
use Rattle.rt_digraph.proofs.Lists.{no_element, some_is, get_replicate}
use Rattle.rt_digraph.proofs.Moves.{same_or_not}

pub is_some : (o : Option Bool) → true_or_not o ≡ true → o ≡ Some true
is_some None e = absurd cc
is_some (Some b) e = ap (λ (x : Bool). Some x) e

-- ---- rings

module _ (graph : List (List ℕ)) (numbers : List ℕ) (ranks : AreRanks graph numbers) where
  no_greater : (m n : ℕ) → Walk (Edge graph) m n → rank numbers n ≤ rank numbers m
  no_greater m n (one e) = ranks m n e
  no_greater m n (more {b = k} w e) = let a = no_greater m k w in let b = ranks k n e in omega arith

  -- a node to which none of the same number leads is on no cycle
  ring_leads : (n : ℕ) → ((m : ℕ) → Edge graph m n → rank numbers n ≡ rank numbers m → ⊥) → Walk (Edge graph) n n → ⊥
  ring_leads n none (one e) = none n e refl
  ring_leads n none (more {b = k} w e) = let a = no_greater n k w in let b = ranks k n e in none k e (omega arith)

  pub are_alone : (marks : List Bool) → ((m n : ℕ) → Edge graph m n → rank numbers n ≡ rank numbers m → is_marked marks n ≡ true → ⊥) → AreAlone graph marks
  are_alone marks h n mark = ring_leads n (λ m e same. h m n e same mark)

edge_from : (graph : List (List ℕ)) (m n : ℕ) → Edge graph m n → m < length graph
edge_from graph m n e = by graph m n e.listed.0 e.listed.1
  where
    by : (g : List (List ℕ)) (m n i : ℕ) → slice_get (successors g m) i ≡ Some n → m < length g
    by [] m n i f = absurd (no_element i n f)
    by (of ∷ g) zero n i f = omega arith
    by (of ∷ g) (suc m) n i f = let h = by g m n i f in omega arith

module _ (numbers : List ℕ) where
  less : (a b : ℕ) → ltb a b ≡ false → b ≤ a
  less a b e = grind (arith, e)

  step : (b c : Bool) → (if b then false else c) ≡ true → (b ≡ false) × (c ≡ true)
  step true c e = absurd cc
  step false c e = (refl, e)

  no_more_is : (most : ℕ) (ns : List ℕ) (i n : ℕ) → no_more numbers most ns ≡ true → slice_get ns i ≡ Some n → rank numbers n ≤ most
  no_more_is most [] i n e at = absurd (no_element i n at)
  no_more_is most (m ∷ ns) zero n e at = subst (λ (k : ℕ). rank numbers k ≤ most) (some_is m n at) (less most (rank numbers m) (step (ltb most (rank numbers m)) (no_more numbers most ns) e).0)
  no_more_is most (m ∷ ns) (suc i) n e at = no_more_is most ns i n (step (ltb most (rank numbers m)) (no_more numbers most ns) e).1 at

  abbrev pub AreRanksBelow : List (List ℕ) → ℕ → Type 0
  AreRanksBelow graph count = (m n : ℕ) → m < count → Edge graph m n → rank numbers n ≤ rank numbers m

  pub ranks_more : (graph : List (List ℕ)) (count : ℕ) → AreRanksBelow graph count → no_more numbers (rank numbers count) (successors graph count) ≡ true → AreRanksBelow graph (count + 1)
  ranks_more graph count below told m n l e = elim (same_or_not m count) [
    | inl same ↦ no_more_is (rank numbers m) (successors graph m) e.listed.0 n (subst (λ (k : ℕ). no_more numbers (rank numbers k) (successors graph k) ≡ true) (sym same) told) e.listed.1
    | inr other ↦ below m n (down m count l other) e
  ]
    where
      down : (i c : ℕ) → i < c + 1 → (i ≡ c → ⊥) → i < c
      down i c l other = grind (arith, l, other)

  pub ranks_all : (graph : List (List ℕ)) (count : ℕ) → length graph ≤ count → AreRanksBelow graph count → AreRanks graph numbers
  ranks_all graph count most below m n e = let l = edge_from graph m n e in below m n (omega arith) e

  -- ---- marks

  set_false : (ms : List Bool) (s n : ℕ) → is_marked (slice_set ms s false) n ≡ true → is_marked ms n ≡ true
  set_false [] s n e = e
  set_false (m ∷ ms) zero zero e = absurd cc
  set_false (m ∷ ms) zero (suc n) e = e
  set_false (m ∷ ms) (suc s) zero e = e
  set_false (m ∷ ms) (suc s) (suc n) e = set_false ms s n e

  set_here : (ms : List Bool) (s : ℕ) → is_marked (slice_set ms s false) s ≡ true → ⊥
  set_here [] s e = cc
  set_here (m ∷ ms) zero e = cc
  set_here (m ∷ ms) (suc s) e = set_here ms s e

  unmark_keeps : (same s : ℕ) (ms : List Bool) (n : ℕ) → is_marked (unmark_one numbers same s ms) n ≡ true → is_marked ms n ≡ true
  unmark_keeps same s ms n e = by (eqb (rank numbers s) same && ltb s (length ms)) e
    where
      by : (b : Bool) → is_marked (if b then slice_set ms s false else ms) n ≡ true → is_marked ms n ≡ true
      by true f = set_false ms s n f
      by false f = f

  unmarks : (same s : ℕ) (ms : List Bool) → rank numbers s ≡ same → is_marked (unmark_one numbers same s ms) s ≡ true → ⊥
  unmarks same s ms r e =
      let there = slice_get_within ms s true (is_some (slice_get ms s) (unmark_keeps same s ms s e)) in
      by (eqb (rank numbers s) same && ltb s (length ms)) (both (rank numbers s) same s (length ms) r there) e
    where
      both : (a b c d : ℕ) → a ≡ b → c < d → (eqb a b && ltb c d) ≡ true
      both a b c d e f = grind (arith, nat_tests)

      by : (b : Bool) → b ≡ true → is_marked (if b then slice_set ms s false else ms) s ≡ true → ⊥
      by true f g = set_here ms s g
      by false f g = cc

  all_keep : (same : ℕ) (ns : List ℕ) (ms : List Bool) (n : ℕ) → is_marked (unmark numbers same ns ms) n ≡ true → is_marked ms n ≡ true
  all_keep same [] ms n e = e
  all_keep same (s ∷ ns) ms n e = unmark_keeps same s ms n (all_keep same ns (unmark_one numbers same s ms) n e)

  all_unmark : (same : ℕ) (ns : List ℕ) (ms : List Bool) (i n : ℕ) → slice_get ns i ≡ Some n → rank numbers n ≡ same → is_marked (unmark numbers same ns ms) n ≡ true → ⊥
  all_unmark same [] ms i n at r e = no_element i n at
  all_unmark same (s ∷ ns) ms zero n at r e =
      let is : s ≡ n = some_is s n at in
      unmarks same n ms r (subst (λ (k : ℕ). is_marked (unmark_one numbers same k ms) n ≡ true) is (all_keep same ns (unmark_one numbers same s ms) n e))
  all_unmark same (s ∷ ns) ms (suc i) n at r e = all_unmark same ns (unmark_one numbers same s ms) i n at r e

  -- no node to which one below leads, of the same number, is marked
  abbrev pub AreUnmarked : List (List ℕ) → ℕ → List Bool → Type 0
  AreUnmarked graph count ms = (m n : ℕ) → m < count → Edge graph m n → rank numbers n ≡ rank numbers m → is_marked ms n ≡ true → ⊥

  pub unmarked_more : (graph : List (List ℕ)) (count : ℕ) (old new : List Bool) → AreUnmarked graph count old → new ≡ unmark numbers (rank numbers count) (successors graph count) old → AreUnmarked graph (count + 1) new
  unmarked_more graph count old new below is m n l e same mark =
      let here : is_marked (unmark numbers (rank numbers count) (successors graph count) old) n ≡ true = subst (λ (ms : List Bool). is_marked ms n ≡ true) is mark in
      elim (same_or_not m count) [
        | inl at ↦ all_unmark (rank numbers m) (successors graph m) old e.listed.0 n e.listed.1 same (subst (λ (k : ℕ). is_marked (unmark numbers (rank numbers k) (successors graph k) old) n ≡ true) (sym at) here)
        | inr other ↦ below m n (down m count l other) e same (all_keep (rank numbers count) (successors graph count) old n here)
      ]
    where
      down : (i c : ℕ) → i < c + 1 → (i ≡ c → ⊥) → i < c
      down i c l other = grind (arith, l, other)

  pub unmarked_all : (graph : List (List ℕ)) (count : ℕ) (ms : List Bool) → length graph ≤ count → AreRanks graph numbers → AreUnmarked graph count ms → AreAlone graph ms
  unmarked_all graph count ms most ranks below = are_alone graph numbers ranks ms (λ m n e same mark. let l = edge_from graph m n e in below m n (omega arith) e same mark)

pub none_alone : (graph : List (List ℕ)) (count : ℕ) → AreAlone graph (replicate count false)
none_alone graph count n mark c = absurd (let e : true ≡ false = get_replicate count n false true (is_some (slice_get (replicate count false) n) mark) in cc)
