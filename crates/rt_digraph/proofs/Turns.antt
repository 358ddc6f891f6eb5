-- A node is entered, or left; `stop` is met.
use Rattle.std.proofs.Common.{◌≡◌, ◌≢◌, ℕ, ◌+◌, ◌<◌, ◌⊎◌, inl, inr, true, List, [], ◌∷◌, length, Option, Some, None, slice_get, sym, ap, ◌∙◌, subst, arith}
use Rattle.std.proofs.lemmas.Option.{slice_get_within}
use Rattle.rt_digraph.specs.Walks.{Has, Walk as Walks, one, more, Reached}
use Rattle.rt_digraph.specs.Digraph.{successors, successor, number_or, Edge, IsRoot}
use Rattle.rt_digraph.specs.Going.{IsOpen, IsDone, IsMarked, KeepsMarks, IsPassed, IsGoing, HasMet, IsLast, rest_of, back, enter, pass, note, leave}
use Rattle.rt_digraph.specs.declared.walk.State.{State}
use Rattle.rt_digraph.specs.declared.walk.State.TheVariants as state
use Rattle.rt_digraph.specs.declared.walk.Walk.{Walk}
use Rattle.rt_digraph.proofs.Lists.{some_is, get_left, get_end, get_cases, get_there, not_there, long_one, has_end, has_left, has_cases, different_more, different_less, last_is_new, set_same, set_long, set_cases}
use Rattle.rt_digraph.proofs.States.{open_not_done, new_not_open, new_not_done, open_kept, done_kept, open_from, done_from}
use Rattle.rt_digraph.proofs.Moves.{same_or_not, leads_more, leads_less, walks_on, before_more, passed_by}

module _ (graph : List (List ℕ)) (roots : List ℕ) (stop : ℕ) where
  abbrev Going : Walk → Type 0
  Going = IsGoing graph roots stop

  abbrev IsReached : ℕ → Type 0
  IsReached = Reached (Edge graph) (IsRoot graph roots)

  -- ---- a node is entered

  module _ (w : Walk) (n : ℕ) (here : slice_get w.states n ≡ Some state.New) where
    abbrev full : State
    full = state.Open (length (successors graph n))

    abbrev after : Walk
    after = enter graph n w

    open_here : IsOpen after.states n
    open_here = (length (successors graph n), set_same w.states n full state.New here)

    open_to : (k : ℕ) → IsOpen w.states k → IsOpen after.states k
    open_to k o = elim (same_or_not k n) [
      | inl same ↦ subst (IsOpen after.states) (sym same) open_here
      | inr other ↦ open_kept w.states n full k other o
    ]

    open_back : (k : ℕ) → IsOpen after.states k → IsOpen w.states k ⊎ (k ≡ n)
    open_back k o = elim (same_or_not k n) [ inl same ↦ inr same | inr other ↦ inl (open_from w.states n full k other o) ]

    done_to : (k : ℕ) → IsDone w.states k → IsDone after.states k
    done_to k d = elim (same_or_not k n) [
      | inl same ↦ absurd (new_not_done w.states n here (subst (IsDone w.states) same d))
      | inr other ↦ done_kept w.states n full k other d
    ]

    done_back : (k : ℕ) → IsDone after.states k → IsDone w.states k
    done_back k d = elim (same_or_not k n) [
      | inl same ↦ absurd (open_not_done after.states n open_here (subst (IsDone after.states) same d))
      | inr other ↦ done_from w.states n full k other d
    ]

    marked_to : (k : ℕ) → IsMarked w.states k → IsMarked after.states k
    marked_to k m = elim m [ inl o ↦ inl (open_to k o) | inr d ↦ inr (done_to k d) ]

    passed_to : (s : ℕ) → IsPassed stop w s → IsPassed stop after s
    passed_to s p = record { marked = marked_to s p.marked; not_stop = p.not_stop; done = λ e. done_to s (p.done e) }

    pub entered : Going w → IsReached n → ((i : ℕ) (a : ℕ) → slice_get w.path i ≡ Some a → i + 1 ≡ length w.path → Edge graph a n) → (length w.path ≡ 0 → IsRoot graph roots n) → Going after
    entered g there leads first =
        let new : Has w.path n → ⊥ = λ h. new_not_open w.states n here (g.opened n h) in record {
          size = set_long w.states n full ∙ g.size;
          opened = λ k h. elim (has_cases w.path n k h) [ inl old ↦ open_to k (g.opened k old) | inr same ↦ subst (IsOpen after.states) (sym same) open_here ];
          on_path = λ k o. elim (open_back k o) [ inl old ↦ has_left w.path n k (g.on_path k old) | inr same ↦ subst (Has after.path) (sym same) (has_end w.path n) ];
          path_once = different_more w.path n g.path_once new;
          path_leads = leads_more (Edge graph) w.path n g.path_leads leads;
          begins = λ k e. elim (get_cases w.path n 0 k e) [ inl old ↦ g.begins k old | inr last ↦ subst (IsRoot graph roots) (sym last.1) (first (sym last.0)) ];
          finished = λ k h. done_to k (g.finished k h);
          in_done = λ k d. g.in_done k (done_back k d);
          done_once = g.done_once;
          reached = λ k m. elim m [
            | inl o ↦ elim (open_back k o) [ inl old ↦ g.reached k (inl old) | inr same ↦ subst IsReached (sym same) there ]
            | inr d ↦ g.reached k (inr (done_back k d))
          ];
          passed = λ k count i s e most at node. elim (set_cases w.states n k full (state.Open count) e) [
            | inl same ↦ absurd (
                let r : count ≡ length (successors graph n) = (let q : state.Open count ≡ full = same.1 in cc) in
                let l = slice_get_within (successors graph n) i s (subst (λ (j : ℕ). slice_get (successors graph j) i ≡ Some s) same.0 at) in
                omega arith)
            | inr other ↦ passed_to s (g.passed k count i s other.1 most at node)
          ];
          closed = λ k s d e. passed_to s (g.closed k s (done_back k d) e);
          before = g.before;
          cyclic = g.cyclic;
        }

    pub entered_marks : KeepsMarks w.states after.states
    entered_marks = marked_to

    pub entered_here : IsMarked after.states n
    entered_here = inl open_here

  -- ---- the last node of the path is left

  module _ (w : Walk) (n : ℕ) (here : slice_get w.states n ≡ Some (state.Open 0)) where
    abbrev done_walk : Walk
    done_walk = leave n w

    done_here : IsDone done_walk.states n
    done_here = set_same w.states n state.Done (state.Open 0) here

    d_open_back : (k : ℕ) → IsOpen done_walk.states k → IsOpen w.states k × (k ≡ n → ⊥)
    d_open_back k o =
        let other : k ≡ n → ⊥ = λ same. open_not_done done_walk.states n (subst (IsOpen done_walk.states) same o) done_here in
        (open_from w.states n state.Done k other o, other)

    d_done_to : (k : ℕ) → IsDone w.states k → IsDone done_walk.states k
    d_done_to k d = elim (same_or_not k n) [ inl same ↦ subst (IsDone done_walk.states) (sym same) done_here | inr other ↦ done_kept w.states n state.Done k other d ]

    d_done_back : (k : ℕ) → IsDone done_walk.states k → IsDone w.states k ⊎ (k ≡ n)
    d_done_back k d = elim (same_or_not k n) [ inl same ↦ inr same | inr other ↦ inl (done_from w.states n state.Done k other d) ]

    d_marked_to : (k : ℕ) → IsMarked w.states k → IsMarked done_walk.states k
    d_marked_to k m = elim (same_or_not k n) [
      | inl same ↦ inr (subst (IsDone done_walk.states) (sym same) done_here)
      | inr other ↦ elim m [ inl o ↦ inl (open_kept w.states n state.Done k other o) | inr d ↦ inr (done_kept w.states n state.Done k other d) ]
    ]

    d_marked_back : (k : ℕ) → IsMarked done_walk.states k → IsMarked w.states k
    d_marked_back k m = elim m [
      | inl o ↦ inl (d_open_back k o).0
      | inr d ↦ elim (d_done_back k d) [ inl old ↦ inr old | inr same ↦ inl (subst (IsOpen w.states) (sym same) (0, here)) ]
    ]

    d_passed_to : (s : ℕ) → IsPassed stop (back n w) s → IsPassed stop done_walk s
    d_passed_to s p = record { marked = d_marked_to s p.marked; not_stop = p.not_stop; done = λ e. d_done_to s (p.done e) }

    pub left_behind : Going (back n w) → Going done_walk
    left_behind g =
        let new : Has w.done n → ⊥ = λ h. open_not_done w.states n (0, here) (g.finished n h) in
        let all : (s : ℕ) → Edge graph n s → IsPassed stop (back n w) s = λ s e. g.passed n 0 e.listed.0 s here (omega arith) e.listed.1 e.there in record {
          size = set_long w.states n state.Done ∙ g.size;
          opened = λ k h. open_kept w.states n state.Done k (λ same. last_is_new w.path n g.path_once (subst (Has w.path) same h)) (g.opened k (has_left w.path n k h));
          on_path = λ k o. let old = d_open_back k o in elim (has_cases w.path n k (g.on_path k old.0)) [ inl h ↦ h | inr same ↦ absurd (old.1 same) ];
          path_once = different_less w.path n g.path_once;
          path_leads = leads_less (Edge graph) w.path n g.path_leads;
          begins = λ k e. g.begins k (get_left w.path (n ∷ []) 0 k e);
          finished = λ k h. elim (has_cases w.done n k h) [ inl old ↦ d_done_to k (g.finished k old) | inr same ↦ subst (IsDone done_walk.states) (sym same) done_here ];
          in_done = λ k d. elim (d_done_back k d) [ inl old ↦ has_left w.done n k (g.in_done k old) | inr same ↦ subst (Has done_walk.done) (sym same) (has_end w.done n) ];
          done_once = different_more w.done n g.done_once new;
          reached = λ k m. g.reached k (d_marked_back k m);
          passed = λ k count i s e most at node. elim (set_cases w.states n k state.Done (state.Open count) e) [
            | inl same ↦ absurd (let q : state.Open count ≡ state.Done = same.1 in cc)
            | inr other ↦ d_passed_to s (g.passed k count i s other.1 most at node)
          ];
          closed = λ k s d e. d_passed_to s (elim (d_done_back k d) [ inl old ↦ g.closed k s old e | inr same ↦ all s (subst (λ (j : ℕ). Edge graph j s) same e) ]);
          before = λ e. before_more (Edge graph) w.done n (g.before e) (λ b leads. g.in_done b ((all b leads).done e));
          cyclic = g.cyclic;
        }

    pub left_marks : KeepsMarks w.states done_walk.states
    left_marks = d_marked_to

  -- ---- the last node of a path

  last_place : (w : Walk) (n : ℕ) → IsLast w.path n → (i : ℕ) × (slice_get w.path i ≡ Some n) × (i + 1 ≡ length w.path)
  last_place w n last = (
    length last.0,
    subst (λ (p : List ℕ). slice_get p (length last.0) ≡ Some n) (sym last.1) (get_end last.0 n),
    sym (long_one last.0 n) ∙ ap length (sym last.1),
  )

  at_last : (w : Walk) (n : ℕ) → IsLast w.path n → (i a : ℕ) → slice_get w.path i ≡ Some a → i + 1 ≡ length w.path → a ≡ n
  at_last w n last i a e whole =
      let p = last_place w n last in
      let at : slice_get w.path p.0 ≡ Some n = p.1 in
      let same : p.0 ≡ i = (let l = p.2 in omega arith) in
      some_is a n (sym e ∙ subst (λ (j : ℕ). slice_get w.path j ≡ Some n) same at)

  open_last : (w : Walk) (n : ℕ) → Going w → IsLast w.path n → IsOpen w.states n
  open_last w n g last = let p = last_place w n last in g.opened n (p.0, p.1)

  -- a successor that is no node, or is done, is passed
  pub passed_done : (w : Walk) (n place : ℕ) → slice_get w.states n ≡ Some (state.Open (place + 1)) → Going w → ((s : ℕ) → slice_get (successors graph n) place ≡ Some s → s < length graph → IsDone w.states s × (s ≢ stop)) → Going (pass n place w)
  passed_done w n place here g next =
      passed_by graph roots stop w n place w.is_cyclic here g (λ e. e) g.cyclic
      (λ s at node. let d = next s at node in record {
        marked = inr (done_on s d.0);
        not_stop = d.1;
        done = λ e. done_on s d.0;
      })
    where
      done_on : (s : ℕ) → IsDone w.states s → IsDone (pass n place w).states s
      done_on s d = done_kept w.states n (state.Open place) s (λ same. open_not_done w.states n (place + 1, here) (subst (IsDone w.states) same d)) d

  -- one that is on the path is noted
  pub passed_open : (w : Walk) (n place next : ℕ) → slice_get w.states n ≡ Some (state.Open (place + 1)) → IsLast w.path n → Going w → slice_get (successors graph n) place ≡ Some next → IsOpen w.states next → next < length graph → next ≢ stop → Going (note n place w)
  passed_open w n place next here last g at opened node not_stop =
      let p = last_place w n last in
      let on = g.on_path next opened in
      let edge : Edge graph n next = record { listed = (place, at); there = node } in
      let ring : Walks (Edge graph) next next = elim (same_or_not on.0 p.0) [
        | inl same ↦ one (subst (λ (k : ℕ). Edge graph k next) (some_is n next (sym p.1 ∙ subst (λ (j : ℕ). slice_get w.path j ≡ Some next) same on.1)) edge)
        | inr other ↦ more (walks_on (Edge graph) w.path g.path_leads on.0 p.0 next n (let l = slice_get_within w.path on.0 next on.1 in let k = p.2 in below on.0 p.0 (length w.path) l k other) on.1 p.1) edge
      ] in
      passed_by graph roots stop w n place true here g (λ e. absurd cc) (λ e. (next, g.reached next (inl opened), ring))
      (λ s is node_s. let same : next ≡ s = some_is next s (sym at ∙ is) in record {
        marked = inl (open_on s (subst (IsOpen w.states) same opened));
        not_stop = subst (λ (k : ℕ). k ≢ stop) same not_stop;
        done = λ e. absurd cc;
      })
    where
      below : (i j l : ℕ) → i < l → j + 1 ≡ l → (i ≡ j → ⊥) → i < j
      below i j l a b c = elim (same_or_not i j) [ inl e ↦ absurd (c e) | inr h ↦ grind (arith, a, b, h) ]

      open_on : (s : ℕ) → IsOpen w.states s → IsOpen (note n place w).states s
      open_on s o = elim (same_or_not s n) [
        | inl same ↦ (place, subst (λ (j : ℕ). slice_get (note n place w).states j ≡ Some (state.Open place)) (sym same) (set_same w.states n (state.Open place) (state.Open (place + 1)) here))
        | inr other ↦ open_kept w.states n (state.Open place) s other o
      ]

  -- one that is new is entered
  pub entered_next : (w : Walk) (n place next : ℕ) → IsLast w.path n → Going w → slice_get (successors graph n) place ≡ Some next → slice_get w.states next ≡ Some state.New → next < length graph → Going (enter graph next w)
  entered_next w n place next last g at new node =
      let p = last_place w n last in
      let edge : Edge graph n next = record { listed = (place, at); there = node } in
      entered w next new g (Reached.next (g.reached n (inl (g.opened n (p.0, p.1)))) edge)
      (λ i a e whole. subst (λ (k : ℕ). Edge graph k next) (sym (at_last w n last i a e whole)) edge)
      (λ none. absurd (let k = p.2 in omega arith))

  -- `stop` is met
  pub has_met : (w : Walk) (n place : ℕ) → IsLast w.path n → Going w → slice_get (successors graph n) place ≡ Some stop → stop < length graph → HasMet graph roots stop w
  has_met w n place last g at node =
      let p = last_place w n last in
      let edge : Edge graph n stop = record { listed = (place, at); there = node } in
      let first = get_there w.path 0 (let k = p.2 in omega arith) in record {
        begins = (first.0, first.1, g.begins first.0 first.1);
        once = g.path_once;
        leads = leads_more (Edge graph) w.path stop g.path_leads (λ i a e whole. subst (λ (k : ℕ). Edge graph k stop) (sym (at_last w n last i a e whole)) edge);
      }

  -- ---- the successor of the last node of a path

  there : (w : Walk) (next : ℕ) (s : State) → Going w → slice_get w.states next ≡ Some s → next < length graph
  there w next s g e = let l = slice_get_within w.states next s e in let same : length w.states ≡ length graph = g.size in omega arith

  is_at : (n place next : ℕ) → next ≡ successor graph n place → next < length graph → slice_get (successors graph n) place ≡ Some next
  is_at n place next e l = by (slice_get (successors graph n) place) e
    where
      by : (o : Option ℕ) → next ≡ number_or (length graph) o → o ≡ Some next
      by None f = absurd (omega arith)
      by (Some k) f = ap (λ (z : ℕ). Some z) (sym f)

  one_successor : (n place next s : ℕ) → next ≡ successor graph n place → slice_get (successors graph n) place ≡ Some s → next ≡ s
  one_successor n place next s e at = e ∙ ap (number_or (length graph)) at

  pub meet_none : (w : Walk) (n place next : ℕ) → slice_get w.states n ≡ Some (state.Open (place + 1)) → next ≡ successor graph n place → slice_get w.states next ≡ None → Going w → Going (pass n place w)
  meet_none w n place next here is none g =
      passed_done w n place here g (λ s at node. absurd (
      let same = one_successor n place next s is at in
      let size : length w.states ≡ length graph = g.size in
      not_there w.states next none (omega arith)))

  pub meet_done : (w : Walk) (n place next : ℕ) → slice_get w.states n ≡ Some (state.Open (place + 1)) → next ≡ successor graph n place → slice_get w.states next ≡ Some state.Done → next ≢ stop → Going w → Going (pass n place w)
  meet_done w n place next here is done other g =
      passed_done w n place here g (λ s at node.
      let same = one_successor n place next s is at in
      (subst (IsDone w.states) same done, subst (λ (k : ℕ). k ≢ stop) same other))

  pub meet_open : (w : Walk) (n place next rest : ℕ) → slice_get w.states n ≡ Some (state.Open (place + 1)) → next ≡ successor graph n place → slice_get w.states next ≡ Some (state.Open rest) → next ≢ stop → IsLast w.path n → Going w → Going (note n place w)
  meet_open w n place next rest here is opened other last g =
      let l = there w next (state.Open rest) g opened in
      passed_open w n place next here last g (is_at n place next is l) (rest, opened) l other

  pub meet_new : (w : Walk) (n place next : ℕ) → next ≡ successor graph n place → slice_get w.states next ≡ Some state.New → IsLast w.path n → Going w → Going (enter graph next w)
  meet_new w n place next is new last g =
      let l = there w next state.New g new in
      entered_next w n place next last g (is_at n place next is l) new l

  pub meet_stop : (w : Walk) (n place next : ℕ) (s : State) → next ≡ successor graph n place → slice_get w.states next ≡ Some s → next ≡ stop → IsLast w.path n → Going w → HasMet graph roots stop w
  meet_stop w n place next s is at same last g =
      let l = there w next s g at in
      has_met w n place last g (subst (λ (k : ℕ). slice_get (successors graph n) place ≡ Some k) same (is_at n place next is l)) (subst (λ (k : ℕ). k < length graph) same l)

  -- the node taken off the path is open
  pub taken_open : (w : Walk) (n : ℕ) → rest_of (slice_get w.states n) ≡ None → Going (back n w) → ⊥
  taken_open w n none g =
      let o = g.opened n (has_end w.path n) in
      let e : slice_get w.states n ≡ Some (state.Open o.0) = o.1 in
      let f : rest_of (slice_get w.states n) ≡ Some o.0 = ap rest_of e in cc
