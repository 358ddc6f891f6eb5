-- Edges between the elements of a row, seen of a graph of nodes: the nodes of the row's places are these elements, and the others
-- stand between them.
use Rattle.std.proofs.Common.{◌≡◌, ℕ, zero, suc, ◌+◌, ◌<◌, ◌≤◌, ◌⊎◌, inl, inr, List, [], ◌∷◌, ◌++◌, length, Option, Some, None, slice_get, refl, sym, ap, ◌∙◌, subst, arith}
use Rattle.std.proofs.lemmas.Option.{slice_get_within}
use Rattle.rt_digraph.specs.Walks.{Has, AreDifferent, Walk, one, more, Reached, root, next, IsOnCycle, EachLeads, IsCycleOf, IsOrder}
use Rattle.rt_digraph.proofs.Lists.{no_element, some_is, get_left, not_there}
use Rattle.rt_graph.specs.Nodes.{with_one, bricks_at}

-- ---- lists from their front

module _ {A : Type 0} where
  different_tail : (x : A) (xs : List A) → AreDifferent (x ∷ xs) → AreDifferent xs
  different_tail x xs d i j a e f = let h = d (suc i) (suc j) a e f in omega arith

  different_head : (x : A) (xs : List A) → AreDifferent (x ∷ xs) → Has xs x → ⊥
  different_head x xs d h = let e = d 0 (suc h.0) x refl h.1 in omega arith

  different_cons : (x : A) (xs : List A) → AreDifferent xs → (Has xs x → ⊥) → AreDifferent (x ∷ xs)
  different_cons x xs d new zero zero a e f = refl
  different_cons x xs d new zero (suc j) a e f = absurd (new (j, f ∙ sym e))
  different_cons x xs d new (suc i) zero a e f = absurd (new (i, e ∙ sym f))
  different_cons x xs d new (suc i) (suc j) a e f = ap suc (d i j a e f)

  module _ (Leads : A → A → Type 0) where
    leads_first : (x y : A) (xs : List A) → EachLeads Leads (x ∷ y ∷ xs) → Leads x y
    leads_first x y xs l = l 0 x y refl refl

    leads_tail : (x : A) (xs : List A) → EachLeads Leads (x ∷ xs) → EachLeads Leads xs
    leads_tail x xs l i a b e f = l (suc i) a b e (subst (λ (k : ℕ). slice_get (x ∷ xs) k ≡ Some b) (let g : suc (i + 1) ≡ suc i + 1 = omega arith in g) f)

    leads_one : (x : A) → EachLeads Leads (x ∷ [])
    leads_one x zero a b e f = absurd cc
    leads_one x (suc i) a b e f = absurd cc

    leads_cons : (x y : A) (xs : List A) → Leads x y → EachLeads Leads (y ∷ xs) → EachLeads Leads (x ∷ y ∷ xs)
    leads_cons x y xs h l zero a b e f = subst (λ (z : A). Leads z b) (some_is x a e) (subst (λ (z : A). Leads x z) (some_is y b f) h)
    leads_cons x y xs h l (suc i) a b e f = l i a b e (subst (λ (k : ℕ). slice_get (x ∷ y ∷ xs) k ≡ Some b) (let g : suc i + 1 ≡ suc (i + 1) = omega arith in g) f)

    -- the first edge of a walk
    walk_first : (x z : A) → Walk Leads x z → (y : A) × Leads x y × ((y ≡ z) ⊎ Walk Leads y z)
    walk_first x z (one e) = (z, e, inl refl)
    walk_first x z (more {b = m} w e) =
        let f = walk_first x m w in
        (f.0, f.1, elim f.2 [ inl same ↦ inr (one (subst (λ (k : A). Leads k z) (sym same) e)) | inr far ↦ inr (more far e) ])

le_or : (y x : ℕ) → (y < x) ⊎ (x ≤ y)
le_or y x = grind arith

behind : {A : Type 0} (row : List A) (y x : ℕ) → y < length row → slice_get row x ≡ None → y < x
behind row y x l none = elim (le_or y x) [ inl h ↦ h | inr h ↦ absurd (not_there row x none (omega arith)) ]

-- ---- the elements of a row among nodes

module _ {A : Type 0} (row : List A) where
  at_some : (x : ℕ) (xs : List ℕ) (a : A) → slice_get row x ≡ Some a → bricks_at row (x ∷ xs) ≡ a ∷ bricks_at row xs
  at_some x xs a e = ap (λ (o : Option A). with_one o (bricks_at row xs)) e

  at_none : (x : ℕ) (xs : List ℕ) → slice_get row x ≡ None → bricks_at row (x ∷ xs) ≡ bricks_at row xs
  at_none x xs e = ap (λ (o : Option A). with_one o (bricks_at row xs)) e

  -- a place in what is picked, with the place that it had, in front of which stands what stood in front of that
  record IsPicked (xs : List ℕ) (i : ℕ) (a : A) : Type 0 where
    place : ℕ
    node : ℕ
    there : slice_get xs place ≡ Some node
    is : slice_get row node ≡ Some a
    front : (j y : ℕ) (b : A) → j < place → slice_get xs j ≡ Some y → slice_get row y ≡ Some b → (k : ℕ) × (k < i) × (slice_get (bricks_at row xs) k ≡ Some b)

  abbrev Front : List ℕ → List ℕ → ℕ → ℕ → Type 0
  Front xs whole i place = (j y : ℕ) (b : A) → j < place → slice_get xs j ≡ Some y → slice_get row y ≡ Some b → (k : ℕ) × (k < i) × (slice_get (bricks_at row whole) k ≡ Some b)

  none_front : (x : ℕ) (xs : List ℕ) → slice_get row x ≡ None → (i place : ℕ) → Front xs xs i place → Front (x ∷ xs) (x ∷ xs) i (suc place)
  none_front x xs q i place front zero y b less e g = absurd (let same : x ≡ y = some_is x y e in let h : slice_get row y ≡ None = subst (λ (z : ℕ). slice_get row z ≡ None) same q in cc)
  none_front x xs q i place front (suc j) y b less e g = let h = front j y b (omega arith) e g in (h.0, h.1, subst (λ (l : List A). slice_get l h.0 ≡ Some b) (sym (at_none x xs q)) h.2)

  some_front : (x : ℕ) (xs : List ℕ) (c : A) → slice_get row x ≡ Some c → (i place : ℕ) → Front xs xs i place → Front (x ∷ xs) (x ∷ xs) (suc i) (suc place)
  some_front x xs c q i place front zero y b less e g =
      let same : x ≡ y = some_is x y e in
      (0, omega arith, subst (λ (l : List A). slice_get l 0 ≡ Some b) (sym (at_some x xs c q)) (sym q ∙ subst (λ (z : ℕ). slice_get row z ≡ Some b) (sym same) g))
  some_front x xs c q i place front (suc j) y b less e g =
      let h = front j y b (omega arith) e g in
      (suc h.0, (let l = h.1 in omega arith), subst (λ (l : List A). slice_get l (suc h.0) ≡ Some b) (sym (at_some x xs c q)) h.2)

  picked : (xs : List ℕ) (i : ℕ) (a : A) → slice_get (bricks_at row xs) i ≡ Some a → IsPicked xs i a
  picked [] i a e = absurd (no_element i a e)
  picked (x ∷ xs) i a e = by (slice_get row x) refl i e (picked xs)
    where
      by : (o : Option A) → slice_get row x ≡ o → (i : ℕ) → slice_get (bricks_at row (x ∷ xs)) i ≡ Some a → ((i : ℕ) (a : A) → slice_get (bricks_at row xs) i ≡ Some a → IsPicked xs i a) → IsPicked (x ∷ xs) i a
      by None q i f rest =
          let h = rest i a (subst (λ (l : List A). slice_get l i ≡ Some a) (at_none x xs q) f) in record {
            place = suc h.place;
            node = h.node;
            there = h.there;
            is = h.is;
            front = none_front x xs q i h.place h.front;
          }
      by (Some c) q zero f rest = record {
        place = 0;
        node = x;
        there = refl;
        is = q ∙ subst (λ (l : List A). slice_get l 0 ≡ Some a) (at_some x xs c q) f;
        front = λ j y b less. absurd (omega arith);
      }
      by (Some c) q (suc i) f rest =
          let h = rest i a (subst (λ (l : List A). slice_get l (suc i) ≡ Some a) (at_some x xs c q) f) in record {
            place = suc h.place;
            node = h.node;
            there = h.there;
            is = h.is;
            front = some_front x xs c q i h.place h.front;
          }

  pub has_picked : (xs : List ℕ) (k x : ℕ) (a : A) → slice_get xs k ≡ Some x → slice_get row x ≡ Some a → Has (bricks_at row xs) a
  has_picked [] k x a e q = absurd (no_element k x e)
  has_picked (y ∷ xs) zero x a e q =
      let same : y ≡ x = some_is y x e in
      let here : slice_get row y ≡ Some a = subst (λ (z : ℕ). slice_get row z ≡ Some a) (sym same) q in
      (0, ap (λ (l : List A). slice_get l 0) (at_some y xs a here))
  has_picked (y ∷ xs) (suc k) x a e q = by (slice_get row y) refl (has_picked xs k x a e q)
    where
      by : (o : Option A) → slice_get row y ≡ o → Has (bricks_at row xs) a → Has (bricks_at row (y ∷ xs)) a
      by None g h = subst (λ (l : List A). Has l a) (sym (at_none y xs g)) h
      by (Some c) g h = subst (λ (l : List A). Has l a) (sym (at_some y xs c g)) (suc h.0, h.1)

  different_picked : ((x y : ℕ) (a : A) → slice_get row x ≡ Some a → slice_get row y ≡ Some a → x ≡ y) → (xs : List ℕ) → AreDifferent xs → AreDifferent (bricks_at row xs)
  different_picked single [] d = λ i j a e f. absurd (no_element i a e)
  different_picked single (x ∷ xs) d = by (slice_get row x) refl (different_picked single xs (different_tail x xs d))
    where
      by : (o : Option A) → slice_get row x ≡ o → AreDifferent (bricks_at row xs) → AreDifferent (bricks_at row (x ∷ xs))
      by None q h = subst AreDifferent (sym (at_none x xs q)) h
      by (Some c) q h = subst AreDifferent (sym (at_some x xs c q)) (different_cons c (bricks_at row xs) h (λ has.
          let p = picked xs has.0 c has.1 in
          different_head x xs d (p.place, subst (λ (z : ℕ). slice_get xs p.place ≡ Some z) (single p.node x c p.is q) p.there)))

  picked_end : (xs : List ℕ) (x : ℕ) (a : A) → slice_get row x ≡ Some a → bricks_at row (xs ++ x ∷ []) ≡ bricks_at row xs ++ a ∷ []
  picked_end [] x a q = at_some x [] a q
  picked_end (y ∷ xs) x a q = by (slice_get row y) refl (picked_end xs x a q)
    where
      by : (o : Option A) → slice_get row y ≡ o → bricks_at row (xs ++ x ∷ []) ≡ bricks_at row xs ++ a ∷ [] → bricks_at row (y ∷ (xs ++ x ∷ [])) ≡ bricks_at row (y ∷ xs) ++ a ∷ []
      by None g h = at_none y (xs ++ x ∷ []) g ∙ h ∙ ap (λ (l : List A). l ++ a ∷ []) (sym (at_none y xs g))
      by (Some c) g h = at_some y (xs ++ x ∷ []) c g ∙ ap (λ (l : List A). c ∷ l) h ∙ ap (λ (l : List A). l ++ a ∷ []) (sym (at_some y xs c g))

-- the edges R between elements are those of the graph, or lead through one node that is no element
pub record IsView {A : Type 0} (row : List A) (E : ℕ → ℕ → Type 0) (R : A → A → Type 0) : Type 0 where
  pub near : (x y : ℕ) (a b : A) → slice_get row x ≡ Some a → E x y → slice_get row y ≡ Some b → R a b
  pub far : (x c y : ℕ) (a : A) → slice_get row x ≡ Some a → E x c → slice_get row c ≡ None → E c y → (b : A) × (slice_get row y ≡ Some b) × R a b
  pub all : (x : ℕ) (a b : A) → slice_get row x ≡ Some a → R a b → (y : ℕ) × (slice_get row y ≡ Some b) × (E x y ⊎ ((c : ℕ) × (slice_get row c ≡ None) × E x c × E c y))
  pub single : (x y : ℕ) (a : A) → slice_get row x ≡ Some a → slice_get row y ≡ Some a → x ≡ y

module _ {A : Type 0} (row : List A) (E : ℕ → ℕ → Type 0) (R : A → A → Type 0) (view : IsView row E R) where
  -- ---- walks

  walk_to : (a b : A) → Walk R a b → (x : ℕ) → slice_get row x ≡ Some a → (y : ℕ) × (slice_get row y ≡ Some b) × Walk E x y
  walk_to a b (one r) x q =
      let g = view.all x a b q r in
      (g.0, g.1, elim g.2 [ inl e ↦ one e | inr h ↦ more (one h.2) h.3 ])
  walk_to a b (more {b = m} w r) x q =
      let f = walk_to a m w x q in
      let g = view.all f.0 m b f.1 r in
      (g.0, g.1, elim g.2 [ inl e ↦ more f.2 e | inr h ↦ more (more f.2 h.2) h.3 ])

  -- where a walk has come from a
  record Came (a : A) (x y : ℕ) : Type 0 where
    seen : (b : A) → slice_get row y ≡ Some b → Walk R a b
    between : slice_get row y ≡ None → E x y ⊎ ((w : ℕ) × (c : A) × (slice_get row w ≡ Some c) × Walk R a c × E w y)

  walk_from : (a : A) (x y : ℕ) → slice_get row x ≡ Some a → Walk E x y → Came a x y
  walk_from a x y q (one e) = record { seen = λ b p. one (view.near x y a b q e p); between = λ none. inl e }
  walk_from a x y q (more {b = m} w e) = by (slice_get row m) refl (walk_from a x m q w)
    where
      by : (o : Option A) → slice_get row m ≡ o → Came a x m → Came a x y
      by (Some c) g h = record { seen = λ b p. more (h.seen c g) (view.near m y c b g e p); between = λ none. inr (m, c, g, h.seen c g, e) }
      by None g h = elim (h.between g) [
        | inl f ↦ (let z = view.far x m y a q f g e in record {
          seen = λ b p. subst (λ (k : A). Walk R a k) (some_is z.0 b (sym z.1 ∙ p)) (one z.2);
          between = λ none. absurd (let p : slice_get row y ≡ Some z.0 = z.1 in cc);
        })
        | inr f ↦ (let z = view.far f.0 m y f.1 f.2 f.4 g e in record {
          seen = λ b p. subst (λ (k : A). Walk R a k) (some_is z.0 b (sym z.1 ∙ p)) (more f.3 z.2);
          between = λ none. absurd (let p : slice_get row y ≡ Some z.0 = z.1 in cc);
        })
      ]

  cycle_to : (a : A) (x : ℕ) → slice_get row x ≡ Some a → IsOnCycle R a → IsOnCycle E x
  cycle_to a x q w = let f = walk_to a a w x q in subst (λ (k : ℕ). Walk E x k) (view.single f.0 x a f.1 q) f.2

  cycle_from : (a : A) (x : ℕ) → slice_get row x ≡ Some a → IsOnCycle E x → IsOnCycle R a
  cycle_from a x q w = (walk_from a x x q w).seen a q

  -- each leads to the next
  leads_on : (xs : List ℕ) (x : ℕ) (a : A) → slice_get row x ≡ Some a → EachLeads E (x ∷ xs) → EachLeads R (a ∷ bricks_at row xs)
  leads_on [] x a q l = leads_one R a
  leads_on (y ∷ []) x a q l = by (slice_get row y) refl
    where
      by : (o : Option A) → slice_get row y ≡ o → EachLeads R (a ∷ bricks_at row (y ∷ []))
      by None g = subst (λ (bs : List A). EachLeads R (a ∷ bs)) (sym (at_none row y [] g)) (leads_one R a)
      by (Some b) g = subst (λ (bs : List A). EachLeads R (a ∷ bs)) (sym (at_some row y [] b g)) (leads_cons R a b [] (view.near x y a b q (leads_first E x y [] l) g) (leads_one R b))
  leads_on (y ∷ z ∷ xs) x a q l = by (slice_get row y) refl (λ b g. leads_on (z ∷ xs) y b g (leads_tail E x (y ∷ z ∷ xs) l)) (λ b g. leads_on xs z b g (leads_tail E y (z ∷ xs) (leads_tail E x (y ∷ z ∷ xs) l)))
    where
      by : (o : Option A) → slice_get row y ≡ o → ((b : A) → slice_get row y ≡ Some b → EachLeads R (b ∷ bricks_at row (z ∷ xs))) → ((b : A) → slice_get row z ≡ Some b → EachLeads R (b ∷ bricks_at row xs)) → EachLeads R (a ∷ bricks_at row (y ∷ z ∷ xs))
      by (Some b) g near far =
          subst (λ (bs : List A). EachLeads R (a ∷ bs)) (sym (at_some row y (z ∷ xs) b g))
          (leads_cons R a b (bricks_at row (z ∷ xs)) (view.near x y a b q (leads_first E x y (z ∷ xs) l) g) (near b g))
      by None g near far =
          let f = view.far x y z a q (leads_first E x y (z ∷ xs) l) g (leads_first E y z xs (leads_tail E x (y ∷ z ∷ xs) l)) in
          subst (λ (bs : List A). EachLeads R (a ∷ bs)) (sym (at_none row y (z ∷ xs) g ∙ at_some row z xs f.0 f.1))
          (leads_cons R a f.0 (bricks_at row xs) f.2 (far f.0 f.1))

  pub cycle_picked : (x : ℕ) (a : A) (xs : List ℕ) → slice_get row x ≡ Some a → IsCycleOf E x xs → IsCycleOf R a (bricks_at row xs)
  cycle_picked x a xs q c = record {
    turn = bricks_at row c.turn;
    whole = ap (bricks_at row) c.whole ∙ picked_end row c.turn x a q;
    begins = first c.turn c.begins;
    different = different_picked row view.single c.turn c.different;
    edges = whole_leads xs (subst (λ (l : List ℕ). slice_get l 0 ≡ Some x) (sym c.whole) (get_left c.turn (x ∷ []) 0 x c.begins)) c.edges;
  }
    where
      first : (ys : List ℕ) → slice_get ys 0 ≡ Some x → slice_get (bricks_at row ys) 0 ≡ Some a
      first [] e = absurd cc
      first (y ∷ ys) e = let same : y ≡ x = some_is y x e in ap (λ (l : List A). slice_get l 0) (at_some row y ys a (subst (λ (z : ℕ). slice_get row z ≡ Some a) (sym same) q))

      whole_leads : (ys : List ℕ) → slice_get ys 0 ≡ Some x → EachLeads E ys → EachLeads R (bricks_at row ys)
      whole_leads [] e l = λ i b d f. absurd (no_element i b f)
      whole_leads (y ∷ ys) e l =
          let same : y ≡ x = some_is y x e in
          let here : slice_get row y ≡ Some a = subst (λ (z : ℕ). slice_get row z ≡ Some a) (sym same) q in
          subst (EachLeads R) (sym (at_some row y ys a here)) (leads_on ys y a here l)

  -- ---- what is reached

  module _ (RootE : ℕ → Type 0) (RootA : A → Type 0) (root_from : (x : ℕ) → RootE x → (a : A) × (slice_get row x ≡ Some a) × RootA a) (root_to : (a : A) → RootA a → (x : ℕ) × (slice_get row x ≡ Some a) × RootE x) where
    reached_to : (a : A) → Reached R RootA a → (x : ℕ) × (slice_get row x ≡ Some a) × Reached E RootE x
    reached_to a (root r) = let f = root_to a r in (f.0, f.1, root f.2)
    reached_to a (next {a = m} h r) =
        let f = reached_to m h in
        let g = view.all f.0 m a f.1 r in
        (g.0, g.1, elim g.2 [ inl e ↦ next f.2 e | inr k ↦ next (next f.2 k.2) k.3 ])

    record IsSeen (x : ℕ) : Type 0 where
      seen : (a : A) → slice_get row x ≡ Some a → Reached R RootA a
      between : slice_get row x ≡ None → (w : ℕ) × (a : A) × (slice_get row w ≡ Some a) × Reached R RootA a × E w x

    reached_from : (x : ℕ) → Reached E RootE x → IsSeen x
    reached_from x (root r) =
        let f = root_from x r in record {
          seen = λ a p. root (subst RootA (some_is f.0 a (sym f.1 ∙ p)) f.2);
          between = λ none. absurd (let p : slice_get row x ≡ Some f.0 = f.1 in cc);
        }
    reached_from x (next {a = m} h e) = by (slice_get row m) refl (reached_from m h)
      where
        by : (o : Option A) → slice_get row m ≡ o → IsSeen m → IsSeen x
        by (Some c) g s = record { seen = λ a p. next (s.seen c g) (view.near m x c a g e p); between = λ none. (m, c, g, s.seen c g, e) }
        by None g s =
            let b = s.between g in
            let z = view.far b.0 m x b.1 b.2 b.4 g e in record {
              seen = λ a p. subst (Reached R RootA) (some_is z.0 a (sym z.1 ∙ p)) (next b.3 z.2);
              between = λ none. absurd (let p : slice_get row x ≡ Some z.0 = z.1 in cc);
            }

    pub order_picked : (xs : List ℕ) → IsOrder E RootE xs → IsOrder R RootA (bricks_at row xs)
    order_picked xs o = record {
      once = different_picked row view.single xs o.once;
      reached = λ a h. (let p = picked row xs h.0 a h.1 in (reached_from p.node (o.reached p.node (p.place, p.there))).seen a p.is);
      all = λ a r. (let f = reached_to a r in let h = o.all f.0 f.2 in has_picked row xs h.0 f.0 a h.1 f.1);
      before = λ i a b e r. (
          let p = picked row xs i a e in
          let g = view.all p.node a b p.is r in
          elim g.2 [
            | inl f ↦ (let k = o.before p.place p.node g.0 p.there f in p.front k.0 g.0 b k.1 k.2 g.1)
            | inr f ↦ (
                let k = o.before p.place p.node f.0 p.there f.2 in
                let l = o.before k.0 f.0 g.0 k.2 f.3 in
                p.front l.0 g.0 b (let s = k.1 in let t = l.1 in omega arith) l.2 g.1)
          ]);
    }

    pub none_picked : ((x : ℕ) → Reached E RootE x → IsOnCycle E x → ⊥) → (a : A) → Reached R RootA a → IsOnCycle R a → ⊥
    none_picked none a r c = let f = reached_to a r in none f.0 f.2 (cycle_to a f.0 f.1 c)

    -- the first node on a cycle is an element
    pub first_seen : (x : ℕ) → Reached E RootE x → IsOnCycle E x → ((y : ℕ) → y < x → Reached E RootE y → IsOnCycle E y → ⊥) → (a : A) × (slice_get row x ≡ Some a)
    first_seen x r c least = by (slice_get row x) refl
      where
        by : (o : Option A) → slice_get row x ≡ o → (a : A) × (slice_get row x ≡ Some a)
        by (Some a) g = (a, g)
        by None g =
            let b = (reached_from x r).between g in
            let f = walk_first E x x c in
            let z = view.far b.0 x f.0 b.1 b.2 b.4 g f.1 in
            let below = slice_get_within row f.0 z.0 z.1 in
            absurd (least f.0 (behind row f.0 x below g) (next r f.1) (elim f.2 [
              | inl same ↦ absurd (let p : slice_get row f.0 ≡ Some z.0 = z.1 in let n : slice_get row f.0 ≡ None = subst (λ (k : ℕ). slice_get row k ≡ None) (sym same) g in cc)
              | inr w ↦ more w f.1
            ]))

    pub reached_seen : (x : ℕ) (a : A) → slice_get row x ≡ Some a → Reached E RootE x → Reached R RootA a
    reached_seen x a q r = (reached_from x r).seen a q

    pub cycle_seen : (x : ℕ) (a : A) → slice_get row x ≡ Some a → IsOnCycle E x → IsOnCycle R a
    cycle_seen x a q c = cycle_from a x q c

    pub least_seen : (x : ℕ) → ((y : ℕ) → y < x → Reached E RootE y → IsOnCycle E y → ⊥) → (b : A) → ((y : ℕ) → slice_get row y ≡ Some b → y < x) → Reached R RootA b → IsOnCycle R b → ⊥
    least_seen x least b less r c = let f = reached_to b r in least f.0 (less f.0 f.1) f.2 (cycle_to b f.0 f.1 c)
