-- A record contains itself where it lies on a cycle of the graph of records, and only there.
use Rattle.std.proofs.Common.{◌≡◌, ℕ, zero, suc, ◌+◌, ◌<◌, ◌⊎◌, inl, inr, Bool, List, [], ◌∷◌, ◌++◌, length, get_or, Option, Some, None, slice_get, refl, sym, ap, subst, ◌∙◌, arith}
use Rattle.std.specs.List.{cons_option, range_with_len}
use Rattle.std.proofs.lemmas.List.{length-map}
use Rattle.std.proofs.lemmas.List.FromFn.{length-range_with_len, get_or-range_with_len}
use Rattle.std.proofs.lemmas.Option.{slice_get_read}
use Rattle.rt_digraph.specs.Digraph.{successors, Edge, IsRoot, IsRightCycle, NoneIsOnCycle, IsSorted}
use Rattle.rt_digraph.specs.Walks.{Has, Walk, one, more, Reached, root, IsOnCycle}
use Rattle.rt_digraph.specs.declared.sorting.Sorted.{Sorted}
use Rattle.rt_digraph.specs.declared.sorting.Sorted.TheVariants as sorted
use Rattle.rt_digraph.proofs.Lists.{no_element, get_left}
use Rattle.rt_digraph.proofs.Told.{is_some}
use Rattle.rt_digraph.specs.Alone.{true_or_not}
use Rattle.rt_digraph.specs.Rings.{AreOnCycles}
use Rattle.rt_modes.specs.declared.mode.Field.{Field}
use Rattle.rt_modes.specs.declared.mode.RecordDef.{RecordDef}
use Rattle.rt_sizes.specs.Containing.{held, HaveOne, fields_of, Contains, directly, through}
use Rattle.rt_sizes.specs.Rings.{AreRings, IsFirstRing, begun_by, graph_of, held_by, held_in}
use Rattle.rt_sizes.proofs.Reaching.{have_there, container_there}

-- ---- what fields hold is listed

one_has : (o : Option ℕ) (ns : List ℕ) (s : ℕ) → o ≡ Some s → Has (cons_option o ns) s
one_has None ns s e = absurd cc
one_has (Some n) ns s e = (0, e)

more_has : (o : Option ℕ) (ns : List ℕ) (s : ℕ) → Has ns s → Has (cons_option o ns) s
more_has None ns s h = h
more_has (Some n) ns s h = (suc h.0, h.1)

has_cases : (o : Option ℕ) (ns : List ℕ) (s : ℕ) → Has (cons_option o ns) s → (o ≡ Some s) ⊎ Has ns s
has_cases None ns s h = inr h
has_cases (Some n) ns s (zero, e) = inl e
has_cases (Some n) ns s (suc i, e) = inr (i, e)

has_held : (fs : List Field) (s : ℕ) → HaveOne fs s → Has (held_in fs) s
has_held [] s h = absurd h
has_held (f ∷ fs) s (inl e) = one_has (held f.mode) (held_in fs) s e
has_held (f ∷ fs) s (inr h) = more_has (held f.mode) (held_in fs) s (has_held fs s h)

held_has : (fs : List Field) (s : ℕ) → Has (held_in fs) s → HaveOne fs s
held_has [] s h = absurd (no_element h.0 s h.1)
held_has (f ∷ fs) s h = elim (has_cases (held f.mode) (held_in fs) s h) [ inl e ↦ inl e | inr g ↦ inr (held_has fs s g) ]

successors_are : (rs : List RecordDef) (k : ℕ) → successors (graph_of rs) k ≡ held_in (fields_of rs k)
successors_are [] k = refl
successors_are (r ∷ rs) zero = refl
successors_are (r ∷ rs) (suc k) = successors_are rs k

numbers_has : (n k : ℕ) → k < n → Has (range_with_len 0 n) k
numbers_has n k less =
    let here : get_or (range_with_len 0 n) k k ≡ 0 + k = get_or-range_with_len 0 n k k less in
    (k, slice_get_read (range_with_len 0 n) n k k (sym (length-range_with_len 0 n)) less (let same : k ≡ 0 + k = omega arith in same ∙ sym here))

one_more : (a n j : ℕ) → a + n ≡ j → range_with_len a (suc n) ≡ range_with_len a n ++ j ∷ []
one_more a zero j e = let same : a ≡ j = omega arith in ap (λ x. x ∷ []) same
one_more a (suc n) j e = ap (λ ns. a ∷ ns) (one_more (a + 1) n j (omega arith))

pub numbers_more : (n : ℕ) → range_with_len 0 (n + 1) ≡ range_with_len 0 n ++ n ∷ []
numbers_more n = let next : n + 1 ≡ suc n = omega arith in ap (range_with_len 0) next ∙ one_more 0 n n (omega arith)

-- ---- rings and cycles

module _ (records : List RecordDef) where
  abbrev Leads : ℕ → ℕ → Type 0
  Leads = Edge (graph_of records)

  abbrev Numbers : List ℕ
  Numbers = range_with_len 0 (length records)

  edge_holds : (k s : ℕ) → Leads k s → HaveOne (fields_of records k) s
  edge_holds k s edge = held_has (fields_of records k) s (subst (λ ns. Has ns s) (successors_are records k) edge.listed)

  holds_edge : (k s : ℕ) → HaveOne (fields_of records k) s → s < length records → Leads k s
  holds_edge k s h there = record {
    listed = subst (λ ns. Has ns s) (sym (successors_are records k)) (has_held (fields_of records k) s h);
    there = rw (length-map records held_by) there;
  }

  walk_contains : (k s : ℕ) → Walk Leads k s → Contains records k s
  walk_contains k s (one edge) = directly (edge_holds k s edge)
  walk_contains k s (more {b = b} walk edge) = through (walk_contains k b walk) (edge_holds b s edge)

  contains_walk : (k s : ℕ) → Contains records k s → s < length records → Walk Leads k s
  contains_walk k s (directly h) there = one (holds_edge k s h there)
  contains_walk k u (through {s = s} c h) there = more (contains_walk k s c (have_there records s u h)) (holds_edge s u h there)

  ring_cycle : (k : ℕ) → Contains records k k → IsOnCycle Leads k
  ring_cycle k c = contains_walk k k c (container_there records k k c)

  ring_reached : (k : ℕ) → Contains records k k → Reached Leads (IsRoot (graph_of records) Numbers) k
  ring_reached k c =
      let there = container_there records k k c in
      root (record { listed = numbers_has (length records) k there; there = rw (length-map records held_by) there })

  none_rings : NoneIsOnCycle (graph_of records) Numbers → IsFirstRing records None
  none_rings none k c = none k (ring_reached k c) (ring_cycle k c)

  cycle_begins : (xs : List ℕ) → IsRightCycle (graph_of records) Numbers xs → IsFirstRing records (slice_get xs 0)
  cycle_begins xs (n, first, cycle) =
      let begins : slice_get xs 0 ≡ Some n = subst (λ ys. slice_get ys 0 ≡ Some n) (sym cycle.whole) (get_left cycle.turn (n ∷ []) 0 n cycle.begins) in
      subst (IsFirstRing records) (sym begins) (walk_contains n n first.cycle, λ j less c. first.least j less (ring_reached j c) (ring_cycle j c))

  rings_by : (s : Sorted) → IsSorted (graph_of records) Numbers s → IsFirstRing records (begun_by s)
  rings_by (sorted.Order ns) h = none_rings h.1
  rings_by (sorted.Cycle ns) h = cycle_begins ns h

  pub sorted_rings : (graph : List (List ℕ)) (roots : List ℕ) (s : Sorted) → graph ≡ graph_of records → roots ≡ Numbers → IsSorted graph roots s → IsFirstRing records (begun_by s)
  sorted_rings graph roots s e f h = rings_by s (subst (λ ns. IsSorted (graph_of records) ns s) f (subst (λ g. IsSorted g roots s) e h))

  pub rings_marked : (graph : List (List ℕ)) (marks : List Bool) → graph ≡ graph_of records → AreOnCycles graph marks → AreRings records marks
  rings_marked graph marks e on k =
      let here = subst (λ (g : List (List ℕ)). AreOnCycles g marks) e on k in
      (λ m. walk_contains k k (here.0 (ap true_or_not m)), λ c. is_some (slice_get marks k) (here.1 (ring_cycle k c)))
