-- What a walk has found at its end.
use Rattle.std.proofs.Common.{◌≡◌, ◌≢◌, ℕ, zero, suc, ◌+◌, ◌-◌, ◌<◌, ◌≤◌, inl, inr, Bool, true, false, List, [], ◌∷◌, ◌++◌, length, Option, Some, None, slice_get, refl, sym, ap, ◌∙◌, subst, arith}
use Rattle.std.proofs.lemmas.Option.{slice_get_within}
use Rattle.rt_digraph.specs.Walks.{Has, AreDifferent, Walk as Walks, one, more, Reached, root, next, IsOnCycle, HaveAllBefore, IsCycleOf, IsOrder}
use Rattle.rt_digraph.specs.Digraph.{Edge, IsRoot, NoneIsOnCycle, IsRightCycle}
use Rattle.rt_digraph.specs.Going.{IsDone, IsMarked, KeepsMarks, IsNew, IsGoing, IsOver, IsWhole, HasMet, Ended, enter}
use Rattle.rt_digraph.specs.declared.walk.State.{State}
use Rattle.rt_digraph.specs.declared.walk.State.TheVariants as state
use Rattle.rt_digraph.specs.declared.walk.Walk.{Walk}
use Rattle.rt_digraph.proofs.Lists.{no_element, some_is, get_left, get_end, get_there, not_there, get_replicate, long_replicate}
use Rattle.rt_digraph.proofs.Moves.{same_or_not, walks_on, fresh}
use Rattle.rt_digraph.proofs.Turns.{entered, entered_here}

-- ---- orders and cycles over edges of any kind

module _ {A : Type 0} (Leads : A → A → Type 0) where
  comes_before : (xs : List A) → HaveAllBefore Leads xs → (i : ℕ) (a b : A) → slice_get xs i ≡ Some a → Walks Leads a b → (j : ℕ) × (j < i) × (slice_get xs j ≡ Some b)
  comes_before xs all i a b e (one l) = all i a b e l
  comes_before xs all i a b e (more {b = m} w l) =
      let p = comes_before xs all i a m e w in
      let q = all p.0 m b p.2 l in
      (q.0, (let s = p.1 in let t = q.1 in omega arith), q.2)

  -- where each stands behind all to which it leads, none lies on a cycle
  pub no_cycle : (xs : List A) → AreDifferent xs → HaveAllBefore Leads xs → (a : A) → Has xs a → IsOnCycle Leads a → ⊥
  no_cycle xs once all a h w =
      let p = comes_before xs all h.0 a a h.1 w in
      let same = once h.0 p.0 a h.1 p.2 in let l = p.1 in omega arith

  -- a cycle's first node lies on a cycle
  pub on_cycle : (a : A) (xs : List A) → IsCycleOf Leads a xs → IsOnCycle Leads a
  on_cycle a xs c =
      let long = slice_get_within c.turn 0 a c.begins in
      walks_on Leads xs c.edges 0 (length c.turn) a a long
      (subst (λ (l : List A). slice_get l 0 ≡ Some a) (sym c.whole) (get_left c.turn (a ∷ []) 0 a c.begins))
      (subst (λ (l : List A). slice_get l (length c.turn) ≡ Some a) (sym c.whole) (get_end c.turn a))

module _ (graph : List (List ℕ)) where
  -- ---- a walk from all roots

  over_done : (roots : List ℕ) (stop : ℕ) (w : Walk) → IsOver graph roots stop w → (n : ℕ) → IsMarked w.states n → IsDone w.states n
  over_done roots stop w o n (inl opened) = absurd (let h = o.going.on_path n opened in no_element h.0 n (subst (λ (p : List ℕ). slice_get p h.0 ≡ Some n) o.path h.1))
  over_done roots stop w o n (inr done) = done

  pub reached_done : (roots : List ℕ) (w : Walk) → IsWhole graph roots w → (n : ℕ) → Reached (Edge graph) (IsRoot graph roots) n → IsDone w.states n
  reached_done roots w whole n (root r) = over_done roots (length graph) w whole.over n (whole.each_root n r)
  reached_done roots w whole n (next {a = m} r e) = over_done roots (length graph) w whole.over n (whole.over.going.closed m n (reached_done roots w whole m r) e).marked

  pub whole_order : (roots : List ℕ) (w : Walk) → IsWhole graph roots w → w.is_cyclic ≡ false → IsOrder (Edge graph) (IsRoot graph roots) w.done
  whole_order roots w whole not =
      let g = whole.over.going in record {
        once = g.done_once;
        reached = λ n h. g.reached n (inr (g.finished n h));
        all = λ n r. g.in_done n (reached_done roots w whole n r);
        before = g.before not;
      }

  pub whole_none : (roots : List ℕ) (w : Walk) → IsWhole graph roots w → w.is_cyclic ≡ false → NoneIsOnCycle graph roots
  whole_none roots w whole not n r cycle =
      let o = whole_order roots w whole not in no_cycle (Edge graph) w.done o.once o.before n (o.all n r) cycle

  -- the number of nodes is met nowhere
  pub meets_none : (roots : List ℕ) (w : Walk) → HasMet graph roots (length graph) w → ⊥
  meets_none roots w met =
      let l = slice_get_within w.path 0 met.begins.0 met.begins.1 in
      let last = get_there w.path (length w.path - 1) (omega arith) in
      let e = met.leads (length w.path - 1) last.0 (length graph) (get_left w.path (length graph ∷ []) (length w.path - 1) last.0 last.1)
      (subst (λ (k : ℕ). slice_get (w.path ++ length graph ∷ []) k ≡ Some (length graph)) (omega arith) (get_end w.path (length graph))) in
      let there : length graph < length graph = e.there in omega arith

  -- ---- roots are begun with

  pub begun : (roots : List ℕ) (w : Walk) (n : ℕ) → slice_get w.states n ≡ Some state.New → Has roots n → IsOver graph roots (length graph) w → IsGoing graph roots (length graph) (enter graph n w)
  begun roots w n new h o =
      let size : length w.states ≡ length graph = o.going.size in
      let l = slice_get_within w.states n state.New new in
      let r : IsRoot graph roots n = record { listed = h; there = omega arith } in
      entered graph roots (length graph) w n new o.going (root r)
      (λ i a e last. absurd (no_element i a (subst (λ (p : List ℕ). slice_get p i ≡ Some a) o.path e)))
      (λ _. r)

  pub ended_over : (roots : List ℕ) (met : Bool) (w : Walk) → Ended graph roots (length graph) met w → IsOver graph roots (length graph) w
  ended_over roots true w met = absurd (meets_none roots w met)
  ended_over roots false w over = over

  -- a number that isn't new names a node that is marked, or none
  pub marked_before : (states : List State) (n : ℕ) (o : Option State) → slice_get states n ≡ o → (o ≡ Some state.New → ⊥) → n < length states → IsMarked states n
  marked_before states n None e other l = absurd (not_there states n e l)
  marked_before states n (Some state.New) e other l = absurd (other refl)
  marked_before states n (Some (state.Open rest)) e other l = inl (rest, e)
  marked_before states n (Some state.Done) e other l = inr e

  pub over_fresh : (roots : List ℕ) (stop : ℕ) (w : Walk) → IsNew (length graph) w → IsOver graph roots stop w
  over_fresh roots stop w new = record { going = fresh graph roots stop w new; path = new.path }

  -- the roots before one are marked
  abbrev pub AreMarkedBelow : List ℕ → ℕ → List State → Type 0
  AreMarkedBelow roots count states = (i r : ℕ) → i < count → slice_get roots i ≡ Some r → r < length graph → IsMarked states r

  pub marked_more : (roots : List ℕ) (count r : ℕ) (old new : List State) → AreMarkedBelow roots count old → KeepsMarks old new → slice_get roots count ≡ Some r → (r < length graph → IsMarked new r) → AreMarkedBelow roots (count + 1) new
  marked_more roots count r old new below keeps at here i s l e there = elim (same_or_not i count) [
    | inl same ↦ (let is : s ≡ r = some_is s r (sym e ∙ subst (λ (j : ℕ). slice_get roots j ≡ Some r) (sym same) at) in subst (IsMarked new) (sym is) (here (subst (λ (k : ℕ). k < length graph) is there)))
    | inr other ↦ keeps s (below i s (less i count l other) e there)
  ]
    where
      less : (i c : ℕ) → i < c + 1 → (i ≡ c → ⊥) → i < c
      less i c l other = grind (arith, l, other)

  pub whole_at : (roots : List ℕ) (count : ℕ) (w : Walk) → length roots ≤ count → IsOver graph roots (length graph) w → AreMarkedBelow roots count w.states → IsWhole graph roots w
  whole_at roots count w most over below = record {
    over = over;
    each_root = λ n r. below r.listed.0 n (let l = slice_get_within roots r.listed.0 n r.listed.1 in omega arith) r.listed.1 r.there;
  }

  -- ---- a cycle of one node

  module _ (node : ℕ) where
    new_here : (w : Walk) → IsNew (length graph) w → node < length graph → slice_get w.states node ≡ Some state.New
    new_here w new l =
        let size : length w.states ≡ length graph = ap length new.states ∙ long_replicate (length graph) state.New in
        let g = get_there w.states node (omega arith) in
        let e : slice_get w.states node ≡ Some g.0 = g.1 in
        let is : g.0 ≡ state.New = get_replicate (length graph) node state.New g.0 (subst (λ (s : List State). slice_get s node ≡ Some g.0) new.states e) in
        e ∙ ap (λ (s : State). Some s) is

    pub begun_alone : (w : Walk) → IsNew (length graph) w → node < length graph → IsGoing graph (node ∷ []) node (enter graph node w)
    begun_alone w new l =
        let r : IsRoot graph (node ∷ []) node = record { listed = (0, refl); there = l } in
        entered graph (node ∷ []) node w node (new_here w new l) (fresh graph (node ∷ []) node w new) (root r)
        (λ i a e last. absurd (no_element i a (subst (λ (p : List ℕ). slice_get p i ≡ Some a) new.path e)))
        (λ _. r)

    pub alone_here : (w : Walk) → IsNew (length graph) w → node < length graph → IsMarked (enter graph node w).states node
    alone_here w new l = entered_here graph [] node w node (new_here w new l)

    pub cycle_met : (w : Walk) → HasMet graph (node ∷ []) node w → IsCycleOf (Edge graph) node (w.path ++ node ∷ [])
    cycle_met w met =
        let r : IsRoot graph (node ∷ []) met.begins.0 = met.begins.2 in
        let is : met.begins.0 ≡ node = only met.begins.0 r.listed.0 r.listed.1 in record {
          turn = w.path;
          whole = refl;
          begins = subst (λ (n : ℕ). slice_get w.path 0 ≡ Some n) is met.begins.1;
          different = met.once;
          edges = met.leads;
        }
      where
        only : (n i : ℕ) → slice_get (node ∷ []) i ≡ Some n → n ≡ node
        only n zero e = sym (some_is node n e)
        only n (suc i) e = absurd (no_element i n e)

    over_ahead : (w : Walk) → IsOver graph (node ∷ []) node w → IsMarked w.states node → (s : ℕ) → Walks (Edge graph) node s → IsMarked w.states s × (s ≢ node)
    over_ahead w o here s (one e) = let p = o.going.closed node s (over_done (node ∷ []) node w o node here) e in (p.marked, p.not_stop)
    over_ahead w o here s (more {b = m} far e) =
        let h = over_ahead w o here m far in
        let p = o.going.closed m s (over_done (node ∷ []) node w o m h.0) e in (p.marked, p.not_stop)

    pub none_met : (w : Walk) → IsOver graph (node ∷ []) node w → IsMarked w.states node → IsOnCycle (Edge graph) node → ⊥
    none_met w o here cycle = (over_ahead w o here node cycle).1 refl

  -- ---- the first node on a cycle

  abbrev pub NoneBelow : List ℕ → ℕ → Type 0
  NoneBelow roots count = (n : ℕ) → n < count → Reached (Edge graph) (IsRoot graph roots) n → IsOnCycle (Edge graph) n → ⊥

  pub none_more : (roots : List ℕ) (count : ℕ) → NoneBelow roots count → (Reached (Edge graph) (IsRoot graph roots) count → IsOnCycle (Edge graph) count → ⊥) → NoneBelow roots (count + 1)
  none_more roots count below here n l r c = elim (same_or_not n count) [
    | inl same ↦ here (subst (Reached (Edge graph) (IsRoot graph roots)) same r) (subst (IsOnCycle (Edge graph)) same c)
    | inr other ↦ below n (less n count l other) r c
  ]
    where
      less : (i c : ℕ) → i < c + 1 → (i ≡ c → ⊥) → i < c
      less i c l other = grind (arith, l, other)

  pub not_reached : (roots : List ℕ) (w : Walk) (n : ℕ) → IsWhole graph roots w → (IsDone w.states n → ⊥) → Reached (Edge graph) (IsRoot graph roots) n → ⊥
  not_reached roots w n whole not r = not (reached_done roots w whole n r)

  pub first_right : (roots : List ℕ) (w : Walk) (n : ℕ) (xs : List ℕ) → IsWhole graph roots w → slice_get w.states n ≡ Some state.Done → NoneBelow roots n → IsCycleOf (Edge graph) n xs → IsRightCycle graph roots xs
  first_right roots w n xs whole done below cycle = (
    n,
    record {
      reached = whole.over.going.reached n (inr done);
      cycle = on_cycle (Edge graph) n xs cycle;
      least = λ m l r c. below m l r c;
    },
    cycle,
  )

  pub some_cycle : (roots : List ℕ) (w : Walk) (count : ℕ) → IsWhole graph roots w → w.is_cyclic ≡ true → length graph ≤ count → NoneBelow roots count → ⊥
  some_cycle roots w count whole cyclic most below =
      let g = whole.over.going in
      let c = g.cyclic cyclic in
      let d = reached_done roots w whole c.0 c.1 in
      let l = slice_get_within w.states c.0 state.Done d in
      let size : length w.states ≡ length graph = g.size in
      below c.0 (omega arith) c.1 c.2
