-- What holds on the way, kept by each move of a walk.
use Rattle.std.proofs.Common.{◌≡◌, ℕ, zero, suc, ◌+◌, ◌-◌, ◌<◌, ◌≤◌, ◌⊎◌, inl, inr, Bool, true, false, List, [], ◌∷◌, ◌++◌, length, Some, slice_get, slice_set, refl, sym, ap, ◌∙◌, subst, arith}
use Rattle.std.proofs.lemmas.Option.{slice_get_within}
use Rattle.rt_digraph.specs.Walks.{Has, AreDifferent, Walk as Walks, one, more, Reached, IsOnCycle, EachLeads, HaveAllBefore}
use Rattle.rt_digraph.specs.Digraph.{successors, Edge, IsRoot}
use Rattle.rt_digraph.specs.Going.{IsOpen, IsDone, IsMarked, KeepsMarks, IsNew, IsPassed, IsGoing}
use Rattle.rt_digraph.specs.declared.walk.State.{State}
use Rattle.rt_digraph.specs.declared.walk.State.TheVariants as state
use Rattle.rt_digraph.specs.declared.walk.Walk.{Walk}
use Rattle.rt_digraph.proofs.Lists.{no_element, get_left, get_cases, get_there, different_none, set_same, set_long, set_cases, get_replicate, long_replicate}
use Rattle.rt_digraph.proofs.States.{open_not_done, open_kept, done_kept, open_from, done_from}

pub same_or_not : (k n : ℕ) → (k ≡ n) ⊎ (k ≡ n → ⊥)
same_or_not zero zero = inl refl
same_or_not zero (suc n) = inr (λ e. omega arith)
same_or_not (suc k) zero = inr (λ e. omega arith)
same_or_not (suc k) (suc n) = elim (same_or_not k n) [ inl e ↦ inl (ap suc e) | inr h ↦ inr (λ e. h (omega arith)) ]

-- ---- lists in which each leads to the next

module _ {A : Type 0} (Leads : A → A → Type 0) where
  pub leads_none : EachLeads Leads []
  leads_none i a b e f = absurd (no_element i a e)

  pub leads_more : (xs : List A) (x : A) → EachLeads Leads xs → ((i : ℕ) (a : A) → slice_get xs i ≡ Some a → i + 1 ≡ length xs → Leads a x) → EachLeads Leads (xs ++ x ∷ [])
  leads_more xs x old last i a b e f = elim (get_cases xs x (i + 1) b f) [
    | inl g ↦ elim (get_cases xs x i a e) [
      | inl h ↦ old i a b h g
      | inr h ↦ absurd (let l = slice_get_within xs (i + 1) b g in let k = h.0 in omega arith)
    ]
    | inr g ↦ elim (get_cases xs x i a e) [
      | inl h ↦ subst (λ (z : A). Leads a z) (sym g.1) (last i a h g.0)
      | inr h ↦ absurd (let k = h.0 in let j = g.0 in omega arith)
    ]
  ]

  pub leads_less : (xs : List A) (x : A) → EachLeads Leads (xs ++ x ∷ []) → EachLeads Leads xs
  leads_less xs x old i a b e f = old i a b (get_left xs (x ∷ []) i a e) (get_left xs (x ∷ []) (i + 1) b f)

  walks_far : (xs : List A) → EachLeads Leads xs → (d i : ℕ) (a b : A) → slice_get xs i ≡ Some a → slice_get xs (i + d + 1) ≡ Some b → Walks Leads a b
  walks_far xs each zero i a b e f = one (each i a b e (subst (λ (k : ℕ). slice_get xs k ≡ Some b) (omega arith) f))
  walks_far xs each (suc d) i a b e f =
      let l = slice_get_within xs (i + suc d + 1) b f in
      let c = get_there xs (i + d + 1) (omega arith) in
      more (walks_far xs each d i a c.0 e c.1) (each (i + d + 1) c.0 b c.1 (subst (λ (k : ℕ). slice_get xs k ≡ Some b) (omega arith) f))

  pub walks_on : (xs : List A) → EachLeads Leads xs → (i j : ℕ) (a b : A) → i < j → slice_get xs i ≡ Some a → slice_get xs j ≡ Some b → Walks Leads a b
  walks_on xs each i j a b h e f = walks_far xs each (j - i - 1) i a b e (subst (λ (k : ℕ). slice_get xs k ≡ Some b) (omega arith) f)

  pub before_more : (xs : List A) (x : A) → HaveAllBefore Leads xs → ((b : A) → Leads x b → Has xs b) → HaveAllBefore Leads (xs ++ x ∷ [])
  before_more xs x old new i a b e l = elim (get_cases xs x i a e) [
    | inl g ↦ let h = old i a b g l in (h.0, h.1, get_left xs (x ∷ []) h.0 b h.2)
    | inr g ↦ let h = new b (subst (λ (z : A). Leads z b) g.1 l) in (h.0, (let w = slice_get_within xs h.0 b h.1 in let k = g.0 in omega arith), get_left xs (x ∷ []) h.0 b h.1)
  ]

module _ (graph : List (List ℕ)) (roots : List ℕ) (stop : ℕ) where
  abbrev Going : Walk → Type 0
  Going = IsGoing graph roots stop

  abbrev IsReached : ℕ → Type 0
  IsReached = Reached (Edge graph) (IsRoot graph roots)

  -- ---- the start

  pub fresh : (w : Walk) → IsNew (length graph) w → Going w
  fresh w new =
      let none_open : (n : ℕ) → IsOpen w.states n → ⊥ = λ n o. let e : state.Open o.0 ≡ state.New = get_replicate (length graph) n state.New (state.Open o.0) (subst (λ (s : List State). slice_get s n ≡ Some (state.Open o.0)) new.states o.1) in cc in
      let none_done : (n : ℕ) → IsDone w.states n → ⊥ = λ n d. let e : state.Done ≡ state.New = get_replicate (length graph) n state.New state.Done (subst (λ (s : List State). slice_get s n ≡ Some state.Done) new.states d) in cc in
      let no_path : (n : ℕ) → Has w.path n → ⊥ = λ n h. no_element h.0 n (subst (λ (p : List ℕ). slice_get p h.0 ≡ Some n) new.path h.1) in
      let no_done : (n : ℕ) → Has w.done n → ⊥ = λ n h. no_element h.0 n (subst (λ (p : List ℕ). slice_get p h.0 ≡ Some n) new.done h.1) in
      record {
        size = ap length new.states ∙ long_replicate (length graph) state.New;
        opened = λ n h. absurd (no_path n h);
        on_path = λ n o. absurd (none_open n o);
        path_once = subst AreDifferent (sym new.path) different_none;
        path_leads = subst (EachLeads (Edge graph)) (sym new.path) (leads_none (Edge graph));
        begins = λ n e. absurd (no_path n (0, e));
        finished = λ n h. absurd (no_done n h);
        in_done = λ n d. absurd (none_done n d);
        done_once = subst AreDifferent (sym new.done) different_none;
        reached = λ n m. elim m [ inl o ↦ absurd (none_open n o) | inr d ↦ absurd (none_done n d) ];
        passed = λ n rest i s e. absurd (none_open n (rest, e));
        closed = λ n s d. absurd (none_done n d);
        before = λ h i a b e. absurd (no_done a (i, e));
        cyclic = λ h. absurd (let f : w.is_cyclic ≡ false = new.not_cyclic in cc);
      }

  -- ---- a successor is passed

  module _ (w : Walk) (n rest : ℕ) (c : Bool) (here : slice_get w.states n ≡ Some (state.Open (rest + 1))) where
    abbrev after : Walk
    after = record w { states = slice_set w.states n (state.Open rest); is_cyclic = c }

    open_to : (k : ℕ) → IsOpen w.states k → IsOpen after.states k
    open_to k o = elim (same_or_not k n) [
      | inl same ↦ (rest, subst (λ (j : ℕ). slice_get after.states j ≡ Some (state.Open rest)) (sym same) (set_same w.states n (state.Open rest) (state.Open (rest + 1)) here))
      | inr other ↦ open_kept w.states n (state.Open rest) k other o
    ]

    open_back : (k : ℕ) → IsOpen after.states k → IsOpen w.states k
    open_back k o = elim (same_or_not k n) [
      | inl same ↦ (rest + 1, subst (λ (j : ℕ). slice_get w.states j ≡ Some (state.Open (rest + 1))) (sym same) here)
      | inr other ↦ open_from w.states n (state.Open rest) k other o
    ]

    not_done : (k : ℕ) → IsDone w.states k → k ≡ n → ⊥
    not_done k d same = open_not_done w.states n (rest + 1, here) (subst (IsDone w.states) same d)

    done_to : (k : ℕ) → IsDone w.states k → IsDone after.states k
    done_to k d = done_kept w.states n (state.Open rest) k (not_done k d) d

    done_back : (k : ℕ) → IsDone after.states k → IsDone w.states k
    done_back k d = elim (same_or_not k n) [
      | inl same ↦ absurd (let e : slice_get after.states n ≡ Some (state.Open rest) = set_same w.states n (state.Open rest) (state.Open (rest + 1)) here in let f : slice_get after.states n ≡ Some state.Done = subst (IsDone after.states) same d in cc)
      | inr other ↦ done_from w.states n (state.Open rest) k other d
    ]

    marked_to : (k : ℕ) → IsMarked w.states k → IsMarked after.states k
    marked_to k m = elim m [ inl o ↦ inl (open_to k o) | inr d ↦ inr (done_to k d) ]

    marked_back : (k : ℕ) → IsMarked after.states k → IsMarked w.states k
    marked_back k m = elim m [ inl o ↦ inl (open_back k o) | inr d ↦ inr (done_back k d) ]

    passed_to : (c ≡ false → w.is_cyclic ≡ false) → (s : ℕ) → IsPassed stop w s → IsPassed stop after s
    passed_to less s p = record { marked = marked_to s p.marked; not_stop = p.not_stop; done = λ e. done_to s (p.done (less e)) }

    pub passed_by : Going w → (c ≡ false → w.is_cyclic ≡ false) → (c ≡ true → (k : ℕ) × IsReached k × IsOnCycle (Edge graph) k) → ((s : ℕ) → slice_get (successors graph n) rest ≡ Some s → s < length graph → IsPassed stop after s) → Going after
    passed_by g less cycle here_passed = record {
      size = set_long w.states n (state.Open rest) ∙ g.size;
      opened = λ k h. open_to k (g.opened k h);
      on_path = λ k o. g.on_path k (open_back k o);
      path_once = g.path_once;
      path_leads = g.path_leads;
      begins = g.begins;
      finished = λ k h. done_to k (g.finished k h);
      in_done = λ k d. g.in_done k (done_back k d);
      done_once = g.done_once;
      reached = λ k m. g.reached k (marked_back k m);
      passed = λ k count i s e most at there. elim (set_cases w.states n k (state.Open rest) (state.Open count) e) [
        | inl same ↦
            let r : count ≡ rest = (let q : state.Open count ≡ state.Open rest = same.1 in cc) in
            let at_n : slice_get (successors graph n) i ≡ Some s = subst (λ (j : ℕ). slice_get (successors graph j) i ≡ Some s) same.0 at in
            elim (same_or_not i rest) [
              | inl last ↦ here_passed s (subst (λ (j : ℕ). slice_get (successors graph n) j ≡ Some s) last at_n) there
              | inr before ↦ passed_to less s (g.passed n (rest + 1) i s here (above count rest i r most before) at_n there)
            ]
        | inr other ↦ passed_to less s (g.passed k count i s other.1 most at there)
      ];
      closed = λ k s d e. passed_to less s (g.closed k s (done_back k d) e);
      before = λ e. g.before (less e);
      cyclic = cycle;
    }
      where
        above : (count rest i : ℕ) → count ≡ rest → count ≤ i → (i ≡ rest → ⊥) → rest + 1 ≤ i
        above count rest i r most before = elim (same_or_not i rest) [ inl e ↦ absurd (before e) | inr h ↦ grind (arith, r, most, h) ]

    pub passed_marks : KeepsMarks w.states (slice_set w.states n (state.Open rest))
    passed_marks k m = marked_to k m
