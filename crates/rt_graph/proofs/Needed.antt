-- The needs of procedures, as they are added up.
use Rattle.std.proofs.Common.{◌≡◌, ℕ, zero, suc, ◌+◌, ◌-◌, ◌<◌, ◌≤◌, ◌⊎◌, inl, inr, ltb, if◌then◌else◌, Bool, true, false, List, [], ◌∷◌, ◌++◌, length, replicate, Option, Some, None, slice_get, slice_set, refl, sym, ap, ◌∙◌, subst, arith}
use Rattle.std.proofs.lemmas.Bool.Decides.{nat_tests}
use Rattle.std.proofs.lemmas.Option.{slice_get_within}
use Rattle.rt_tree_nodes.specs.declared.store.Proc.{Proc}
use Rattle.rt_object.specs.declared.object.Call.{Call}
use Rattle.rt_object.specs.declared.object.ObjectParts.{ObjectParts}
use Rattle.rt_object.specs.declared.object.ProcContent.{ProcContent}
use Rattle.rt_match.specs.declared.bindings.Bound.{Bound}
use Rattle.rt_digraph.specs.Walks.{Has}
use Rattle.rt_digraph.proofs.Lists.{no_element, some_is, get_left, has_cases, has_end, has_left, set_same, set_other, set_long, get_there, long_replicate}
use Rattle.rt_digraph.proofs.Moves.{same_or_not}
use Rattle.rt_graph.specs.Calls.{brick, numbered, proc_at, HasBody, own, supplied, IsProcedure, IsSuppliedProc, IsCandidate, MayCall, Calls, at_point, in_service, MeetsErrors, int_taken}
use Rattle.rt_graph.specs.Classes.{class_in}
use Rattle.rt_graph.specs.Needs.{IsGreatest, kept, counted, AtPoint, IsDeepest, NeedsBy, HasNeed, by_callees, AreNeeds}
use Rattle.rt_graph.specs.Needs as needs
use Rattle.rt_graph.specs.Numbers.{all_bricks, place, in_object, number_of}
use Rattle.rt_graph.specs.Nodes.{total, class_node, IsTable, callee, meets_errors}
use Rattle.rt_graph.specs.Reach.{IsCallOrder}
use Rattle.rt_graph.specs.Sums.{plus, greater, number_or_zero, need_at, node_need, point_need, deepest, body_need, need_in, need_of, flat, raise, note, needs_of}
use Rattle.rt_graph.specs.declared.sums.Found.{Found}
use Rattle.rt_graph.specs.declared.table.Table.{Table}
use Rattle.rt_graph.proofs.Classed.{candidate_class, class_candidate}
use Rattle.rt_graph.proofs.Counted.{counted_sum, counted_twice, counted_greater, greater_counted, greater_left, greater_right, greater_either, none_greatest, single_greatest, same_greatest, more_greatest}
use Rattle.rt_graph.proofs.Noded.{Leads, to_brick, to_class, callee_leads, callee_none, class_leads, class_none, meets_true, meets_is, row_below}
use Rattle.rt_graph.proofs.Ordered.{reached_procedure}
use Rattle.rt_graph.proofs.Procedures.{number_to, procedure_row}

below_test : (a b : ℕ) → a < b → ltb a b ≡ true
below_test a b h = grind (arith, nat_tests)

above_test : (a b : ℕ) → b ≤ a → ltb a b ≡ false
above_test a b h = grind (arith, nat_tests)

zero_at : (n i : ℕ) → need_at (replicate n 0) i ≡ 0
zero_at zero i = refl
zero_at (suc n) zero = refl
zero_at (suc n) (suc i) = zero_at n i

set_need : (ns : List ℕ) (i n : ℕ) → i < length ns → need_at (slice_set ns i n) i ≡ n
set_need ns i n h = let t = get_there ns i h in ap number_or_zero (set_same ns i n t.0 t.1)

set_apart : (ns : List ℕ) (i j n : ℕ) → (j ≡ i → ⊥) → need_at (slice_set ns i n) j ≡ need_at ns j
set_apart ns i j n h = ap number_or_zero (set_other ns i j n h)

-- what has a need is a procedure
needed_procedure : (objects : List ObjectParts) (of : List (List Bound)) (f : Proc) (n : ℕ) → HasNeed objects of f n → IsProcedure objects f
needed_procedure objects of f n (by_callees need callees h) = by h
  where
    by : {k : ℕ} {g : Proc} → NeedsBy objects of need g k → IsProcedure objects g
    by (needs.own body deep e) = (_, own body)
    by (needs.plain h meets) = (_, supplied h)
    by (needs.service meets g) = (_, supplied ((let l = meets.0 in omega arith), (let l = meets.1 in omega arith)))

module _ (objects : List ObjectParts) (of : List (List Bound)) (table : Table) (is : IsTable objects of table) where
  -- what is found of procedures, where these are their needs by their places
  abbrev need : List ℕ → Proc → ℕ
  need exact f = need_at exact (place objects f)

  pub record IsKnown (exact : List ℕ) (done : List Proc) (found : Found) : Type 0 where
    pub long : length exact ≡ total table
    pub of_long : length found.of ≡ total table
    pub greatest_long : length found.greatest ≡ table.classes.count
    pub known : (g : Proc) → Has done g → HasNeed objects of g (need exact g)
    pub each : (g : Proc) → Has done g → need_at found.of (place objects g) ≡ counted (need exact g)
    pub greatest : (t : List ℕ) (c : ℕ) → class_in table.classes.map t ≡ Some c → (w : ℕ) × IsGreatest (λ g. IsCandidate objects of t g × Has done g) (need exact) w × (need_at found.greatest c ≡ counted w)

  pub nothing_known : (found : Found) → found.of ≡ replicate (total table) 0 → found.greatest ≡ replicate table.classes.count 0 → IsKnown (replicate (total table) 0) [] found
  nothing_known found e f = record {
    long = long_replicate (total table) 0;
    of_long = ap length e ∙ long_replicate (total table) 0;
    greatest_long = ap length f ∙ long_replicate table.classes.count 0;
    known = λ g h. absurd (no_element h.0 g h.1);
    each = λ g h. absurd (no_element h.0 g h.1);
    greatest = λ t c e. (0, none_greatest (λ g. IsCandidate objects of t g × Has [] g) (need (replicate (total table) 0)) (λ g h. no_element h.1.0 g h.1.1), ap (λ (l : List ℕ). need_at l c) f ∙ zero_at table.classes.count c);
  }

  -- ---- what is called

  module _ (exact : List ℕ) (done : List Proc) (found : Found) (known : IsKnown exact done found) where
    leads_need : (May : Proc → Type 0) (y : ℕ) → Leads objects of table is May y → ((g : Proc) → May g → Has done g) → (v : ℕ) × IsGreatest May (need exact) v × (node_need table found (Some y) ≡ counted v)
    leads_need May y (to_brick f p at may one) all =
        let below : y < total table = (let l = row_below objects of table is (place objects f) f (procedure_row objects f p) in omega arith) in (
          need exact f,
          single_greatest May (need exact) f may one,
          ap (λ (b : Bool). if b then need_at found.of y else need_at found.greatest (y - total table)) (below_test y (total table) below)
              ∙ ap (need_at found.of) at ∙ known.each f (all f may),
        )
    leads_need May y (to_class t c q at to from) all =
        let g = known.greatest t c q in (
          g.0,
          same_greatest (λ g. IsCandidate objects of t g × Has done g) May (need exact) (need exact) g.0 (λ a h. (from a h, all a h)) (λ a h. to a h.0) (λ a h. refl) g.1,
          ap (λ (b : Bool). if b then need_at found.of y else need_at found.greatest (y - total table)) (above_test y (total table) (omega arith))
              ∙ ap (need_at found.greatest) (let z : y - total table ≡ c = omega arith in z) ∙ g.2,
        )

    point_at : (m : ℕ) (o : ObjectParts) (c : Call) → ((g : Proc) → MayCall objects of m o c.target g → Has done g) → (v : ℕ) × AtPoint objects of (need exact) m o c v × (point_need objects of table found m o c ≡ counted v)
    point_at m o c all = by (callee objects of table m o c.target) refl
      where
        add_up : (x : Option ℕ) → callee objects of table m o c.target ≡ x → (v : ℕ) → IsGreatest (MayCall objects of m o c.target) (need exact) v → node_need table found x ≡ counted v → (v : ℕ) × AtPoint objects of (need exact) m o c v × (point_need objects of table found m o c ≡ counted v)
        add_up x q v g e = (
          c.depth + kept c.target + c.args + v,
          record { callee = v; greatest = g; sum = refl },
          ap (λ (y : Option ℕ). plus (c.depth + kept c.target + c.args) (node_need table found y)) q
              ∙ counted_sum (c.depth + kept c.target + c.args) (node_need table found x) v (ap counted e ∙ counted_twice v),
        )

        by : (x : Option ℕ) → callee objects of table m o c.target ≡ x → (v : ℕ) × AtPoint objects of (need exact) m o c v × (point_need objects of table found m o c ≡ counted v)
        by None q = add_up None q 0 (none_greatest (MayCall objects of m o c.target) (need exact) (λ g h. callee_none objects of table is m o c.target g q h)) refl
        by (Some y) q = let l = leads_need (MayCall objects of m o c.target) y (callee_leads objects of table is m o c.target y q) all in add_up (Some y) q l.0 l.1 l.2

    -- the greatest of a number and of what points need
    record IsDeep (m : ℕ) (o : ObjectParts) (cs : List Call) (w n : ℕ) : Type 0 where
      own : w ≤ n
      points : (c : Call) → Has cs c → (v : ℕ) × AtPoint objects of (need exact) m o c v × (v ≤ n)
      had : (n ≡ w) ⊎ ((c : Call) × Has cs c × AtPoint objects of (need exact) m o c n)

    deep_at : (m : ℕ) (o : ObjectParts) (cs : List Call) → ((c : Call) (g : Proc) → Has cs c → MayCall objects of m o c.target g → Has done g) → (a w : ℕ) → counted a ≡ counted w → (n : ℕ) × IsDeep m o cs w n × (counted (deepest objects of table found m o cs a) ≡ counted n)
    deep_at m o [] all a w e = (w, record { own = omega arith; points = λ c h. absurd (no_element h.0 c h.1); had = inl refl }, e)
    deep_at m o (c ∷ cs) all a w e =
        let p = point_at m o c (λ g h. all c g (0, refl) h) in
        let r = deep_at m o cs (λ d g h may. all d g (suc h.0, h.1) may) (greater a (point_need objects of table found m o c)) (greater w p.0)
        (counted_greater a (point_need objects of table found m o c) w p.0 e (ap counted p.2 ∙ counted_twice p.0)) in
        let s : IsDeep m o cs (greater w p.0) r.0 = r.1 in (
          r.0,
          record {
            own = (let l = greater_left w p.0 in let k = s.own in omega arith);
            points = each p.0 p.1 r.0 s;
            had = elim s.had [
              | inr f ↦ inr (f.0, (suc f.1.0, f.1.1), f.2)
              | inl f ↦ elim (greater_either w p.0) [
                | inl g ↦ inl (f ∙ g)
                | inr g ↦ inr (c, (0, refl), subst (AtPoint objects of (need exact) m o c) (sym (f ∙ g)) p.1)
              ]
            ];
          },
          r.2,
        )
      where
        each : (p : ℕ) → AtPoint objects of (need exact) m o c p → (n : ℕ) → IsDeep m o cs (greater w p) n → (d : Call) → Has (c ∷ cs) d → (v : ℕ) × AtPoint objects of (need exact) m o d v × (v ≤ n)
        each p at n s d (suc i, q) = s.points d (i, q)
        each p at n s d (zero, q) = (p, subst (λ (x : Call). AtPoint objects of (need exact) m o x p) (some_is c d q) at, (let l = greater_right w p in let k = s.own in omega arith))

    -- ---- a procedure

    body_at : (f : Proc) (o : ObjectParts) (p : ProcContent) → HasBody objects f o p → ((g : Proc) → Calls objects of f g → Has done g) → (n : ℕ) × NeedsBy objects of (need exact) f n × (need_of objects of table found f ≡ counted n)
    body_at f o p body all =
        let d = deep_at f.«module» o p.calls (λ c g h may. all g (at_point c body h may)) p.deep p.deep refl in
        let s : IsDeep f.«module» o p.calls p.deep d.0 = d.1 in (
          2 + p.locals + d.0,
          needs.own body (record { own = s.own; points = s.points; had = s.had }) refl,
          in_it f.«module» f.brick body.of body.is
              ∙ counted_sum (2 + p.locals) (deepest objects of table found f.«module» o p.calls p.deep) d.0 d.2,
        )
      where
        in_it : (m b : ℕ) → numbered objects m ≡ Some o → proc_at o.bricks b ≡ Some p → need_in objects of table found m b ≡ plus (2 + p.locals) (deepest objects of table found m o p.calls p.deep)
        in_it zero b q r = absurd cc
        in_it (suc m) b q r =
            ap (λ (x : Option ObjectParts). body_need objects of table found (suc m) x (in_object x b)) q
            ∙ ap (λ (z : Option ProcContent). body_need objects of table found (suc m) (Some o) z) r

    supplied_at : (k : ℕ) → IsSuppliedProc k → ((g : Proc) → Calls objects of (brick 0 k) g → Has done g) → (n : ℕ) × NeedsBy objects of (need exact) (brick 0 k) n × (need_of objects of table found (brick 0 k) ≡ counted n)
    supplied_at k h all = by (meets_errors k) refl
      where
        sum : (x : Option ℕ) → class_node table int_taken ≡ x → MeetsErrors k → (v : ℕ) → IsGreatest (IsCandidate objects of int_taken) (need exact) v → node_need table found x ≡ counted v → meets_errors k ≡ true
            → (n : ℕ) × NeedsBy objects of (need exact) (brick 0 k) n × (need_of objects of table found (brick 0 k) ≡ counted n)
        sum x q meets v g e t = (
          2 + v,
          needs.service meets g,
          ap (λ (b : Bool). if b then plus 2 (node_need table found (class_node table int_taken)) else 1) t
              ∙ ap (λ (y : Option ℕ). plus 2 (node_need table found y)) q
              ∙ counted_sum 2 (node_need table found x) v (ap counted e ∙ counted_twice v),
        )

        meeting : MeetsErrors k → meets_errors k ≡ true → (x : Option ℕ) → class_node table int_taken ≡ x → (n : ℕ) × NeedsBy objects of (need exact) (brick 0 k) n × (need_of objects of table found (brick 0 k) ≡ counted n)
        meeting meets t None q = sum None q meets 0 (none_greatest (IsCandidate objects of int_taken) (need exact) (λ g c. class_none objects of table is int_taken g q c)) refl t
        meeting meets t (Some y) q =
            let l = leads_need (IsCandidate objects of int_taken) y (class_leads objects of table is (IsCandidate objects of int_taken) int_taken y q (λ g c. c) (λ g c. c)) (λ g c. all g (in_service meets c)) in
            sum (Some y) q meets l.0 l.1 l.2 t

        by : (b : Bool) → meets_errors k ≡ b → (n : ℕ) × NeedsBy objects of (need exact) (brick 0 k) n × (need_of objects of table found (brick 0 k) ≡ counted n)
        by true t = meeting (meets_is k t) t (class_node table int_taken) refl
        by false t = (1, needs.plain h (λ meets. absurd (let e = meets_true k meets in let f : true ≡ false = sym e ∙ t in cc)), ap (λ (b : Bool). if b then plus 2 (node_need table found (class_node table int_taken)) else 1) t)

    pub need_found : (f : Proc) → IsProcedure objects f → ((g : Proc) → Calls objects of f g → Has done g) → (n : ℕ) × HasNeed objects of f n × (need_of objects of table found f ≡ counted n)
    need_found f p all = joined f all (by f p all)
      where
        joined : (f : Proc) → ((g : Proc) → Calls objects of f g → Has done g) → (n : ℕ) × NeedsBy objects of (need exact) f n × (need_of objects of table found f ≡ counted n) → (n : ℕ) × HasNeed objects of f n × (need_of objects of table found f ≡ counted n)
        joined f all h = (h.0, by_callees (need exact) (λ g c. known.known g (all g c)) h.1, h.2)

        by : (f : Proc) → IsProcedure objects f → ((g : Proc) → Calls objects of f g → Has done g) → (n : ℕ) × NeedsBy objects of (need exact) f n × (need_of objects of table found f ≡ counted n)
        by f (t, own {o = o} {p = p} body) all = body_at f o p body all
        by f (t, supplied {k = k} h) all = supplied_at k h all

    -- ---- its need is noted

    module _ (f : Proc) (procedure : IsProcedure objects f) (new : Has done f → ⊥) (n : ℕ) (has : HasNeed objects of f n) where
      abbrev exact_after : List ℕ
      exact_after = slice_set exact (place objects f) n

      abbrev found_after : Found
      found_after = note table (Some (place objects f)) (counted n) found

      f_below : place objects f < total table
      f_below = row_below objects of table is (place objects f) f (procedure_row objects f procedure)

      apart : (g : Proc) → Has done g → IsProcedure objects g → place objects g ≡ place objects f → ⊥
      apart g h p e = new (subst (Has done) (some_is g f (sym (procedure_row objects g p) ∙ subst (λ (k : ℕ). slice_get (all_bricks objects) k ≡ Some f) (sym e) (procedure_row objects f procedure))) h)

      need_here : need exact_after f ≡ n
      need_here = set_need exact (place objects f) n (let l = known.long in let b = f_below in omega arith)

      need_kept : (g : Proc) → Has done g → IsProcedure objects g → need exact_after g ≡ need exact g
      need_kept g h p = set_apart exact (place objects f) (place objects g) n (apart g h p)

      raise_long : (o : Option ℕ) (m : ℕ) (ns : List ℕ) → length (raise o m ns) ≡ length ns
      raise_long None m ns = refl
      raise_long (Some c) m ns = set_long ns c (greater (need_at ns c) m)

      abbrev Before : List ℕ → Proc → Type 0
      Before t g = IsCandidate objects of t g × Has done g

      abbrev After : List ℕ → Proc → Type 0
      After t g = IsCandidate objects of t g × Has (done ++ f ∷ []) g

      -- the greatest of a class, with f
      class_after : (t : List ℕ) (c : ℕ) → class_in table.classes.map t ≡ Some c → (w : ℕ) × IsGreatest (λ g. IsCandidate objects of t g × Has (done ++ f ∷ []) g) (need exact_after) w × (need_at found_after.greatest c ≡ counted w)
      class_after t c q = by (flat (slice_get table.classes.of (place objects f))) refl (known.greatest t c q)
        where
          flat_is : (o : Option (Option ℕ)) (d : ℕ) → flat o ≡ Some d → o ≡ Some (Some d)
          flat_is None d e = absurd cc
          flat_is (Some x) d e = ap (λ (y : Option ℕ). Some y) e

          moved_on : (w : ℕ) → IsGreatest (Before t) (need exact) w → IsGreatest (Before t) (need exact_after) w
          moved_on w g = same_greatest (Before t) (Before t) (need exact) (need exact_after) w (λ a h. h) (λ a h. h) (λ a h. sym (need_kept a h.1 (t, h.0.mode))) g

          kept_on : (w : ℕ) → (IsCandidate objects of t f → ⊥) → IsGreatest (Before t) (need exact) w → IsGreatest (After t) (need exact_after) w
          kept_on w other g =
              same_greatest (Before t) (After t) (need exact_after) (need exact_after) w
              (λ a h. (h.0, elim (has_cases done f a h.1) [ inl k ↦ k | inr e ↦ absurd (other (subst (IsCandidate objects of t) e h.0)) ]))
              (λ a h. (h.0, has_left done f a h.1)) (λ a h. refl) (moved_on w g)

          not_candidate : (o : Option ℕ) → flat (slice_get table.classes.of (place objects f)) ≡ o → (o ≡ Some c → ⊥) → IsCandidate objects of t f → ⊥
          not_candidate o e other h =
              let k = candidate_class objects of table.classes.map table.classes.of table.classes.count is.classes t f h in
              let a : flat (slice_get table.classes.of (place objects f)) ≡ Some k.0 = ap flat k.2 in
              let b : k.0 ≡ c = some_is k.0 c (sym k.1 ∙ q) in
              other (sym e ∙ a ∙ ap (λ (x : ℕ). Some x) b)

          below : c < length found.greatest
          below = let l = is.classes.apart.below t c q in let k = known.greatest_long in omega arith

          counted_max : (x w : ℕ) → x ≡ counted w → greater x (counted n) ≡ counted (greater w n)
          counted_max x w e = ap (λ (y : ℕ). greater y (counted n)) e ∙ greater_counted w n

          by : (o : Option ℕ) → flat (slice_get table.classes.of (place objects f)) ≡ o → (w : ℕ) × IsGreatest (Before t) (need exact) w × (need_at found.greatest c ≡ counted w) → (w : ℕ) × IsGreatest (After t) (need exact_after) w × (need_at found_after.greatest c ≡ counted w)
          by None e (w, g, h) = (w, kept_on w (not_candidate None e (λ x. absurd cc)) g, ap (λ (o : Option ℕ). need_at (raise o (counted n) found.greatest) c) e ∙ h)
          by (Some d) e (w, g, h) = elim (same_or_not d c) [
            | inl same ↦ (
                let at : slice_get table.classes.of (place objects f) ≡ Some (Some c) = flat_is (slice_get table.classes.of (place objects f)) d e ∙ ap (λ (x : ℕ). Some (Some x)) same in
                let candidate = class_candidate objects of table.classes.map table.classes.of table.classes.count is.classes (place objects f) t f c (procedure_row objects f procedure) at q in (
                  greater w n,
                  subst (λ (k : ℕ). IsGreatest (After t) (need exact_after) (greater w k)) need_here
                      (more_greatest (Before t) (After t) (need exact_after) w f
                      (λ b k. elim (has_cases done f b k.1) [ inl l ↦ inl (k.0, l) | inr s ↦ inr s ])
                      (λ b k. (k.0, has_left done f b k.1)) (candidate, has_end done f) (moved_on w g)),
                  ap (λ (o : Option ℕ). need_at (raise o (counted n) found.greatest) c) (e ∙ ap (λ (x : ℕ). Some x) same)
                      ∙ set_need found.greatest c (greater (need_at found.greatest c) (counted n)) below
                      ∙ counted_max (need_at found.greatest c) w h,
                ))
            | inr other ↦ (
              w,
              kept_on w (not_candidate (Some d) e (λ x. other (some_is d c x))) g,
              ap (λ (o : Option ℕ). need_at (raise o (counted n) found.greatest) c) e
                  ∙ set_apart found.greatest d c (greater (need_at found.greatest d) (counted n)) (λ x. other (sym x)) ∙ h,
            )
          ]

      pub known_after : IsKnown exact_after (done ++ f ∷ []) found_after
      known_after = record {
        long = set_long exact (place objects f) n ∙ known.long;
        of_long = set_long found.of (place objects f) (counted n) ∙ known.of_long;
        greatest_long = raise_long (flat (slice_get table.classes.of (place objects f))) (counted n) found.greatest ∙ known.greatest_long;
        known = λ g h. elim (has_cases done f g h) [
          | inl k ↦ subst (HasNeed objects of g) (sym (need_kept g k (needed_procedure objects of g (need exact g) (known.known g k)))) (known.known g k)
          | inr same ↦ subst (λ (x : Proc). HasNeed objects of x (need exact_after x)) (sym same) (subst (HasNeed objects of f) (sym need_here) has)
        ];
        each = λ g h. elim (has_cases done f g h) [
          | inl k ↦ (let p = needed_procedure objects of g (need exact g) (known.known g k) in
              set_apart found.of (place objects f) (place objects g) (counted n) (apart g k p) ∙ known.each g k ∙ ap counted (sym (need_kept g k p)))
          | inr same ↦ subst (λ (x : Proc). need_at found_after.of (place objects x) ≡ counted (need exact_after x)) (sym same)
              (set_need found.of (place objects f) (counted n) (let l = known.of_long in let b = f_below in omega arith) ∙ ap counted (sym need_here))
        ];
        greatest = class_after;
      }

  -- ---- all of an order

  module _ (roots : List Proc) (whole : List Proc) (order : IsCallOrder objects of roots whole) where
    needs_on : (done rest : List Proc) (exact : List ℕ) (found : Found) → whole ≡ done ++ rest → IsKnown exact done found → AreNeeds objects of rest (needs_of objects of table rest found)
    needs_on done [] exact found e known = record { one_each = refl; each = λ i f at. absurd (no_element i f at) }
    needs_on done (f ∷ rest) exact found e known =
        let here : slice_get whole (length done) ≡ Some f = subst (λ (l : List Proc). slice_get l (length done) ≡ Some f) (sym e) (at_end done f rest) in
        let procedure = reached_procedure objects of roots f (order.order.reached f (length done, here)) in
        let all : (g : Proc) → Calls objects of f g → Has done g = λ g c. (
        let b = order.order.before (length done) f g here c in
        (b.0, at_front done (f ∷ rest) b.0 g b.1 (subst (λ (l : List Proc). slice_get l b.0 ≡ Some g) e b.2))) in
        let new : Has done f → ⊥ = λ h. (
        let at : slice_get whole h.0 ≡ Some f = subst (λ (l : List Proc). slice_get l h.0 ≡ Some f) (sym e) (get_left done (f ∷ rest) h.0 f h.1) in
        let same = order.order.once h.0 (length done) f at here in
        let l = slice_get_within done h.0 f h.1 in omega arith) in
        let n = need_found exact done found known f procedure all in
        let after = known_after exact done found known f procedure new n.0 n.1 in
        let tail = needs_on (done ++ f ∷ []) rest (slice_set exact (place objects f) n.0) (note table (Some (place objects f)) (counted n.0) found) (e ∙ shifted done f rest) after in
        let step : needs_of objects of table (f ∷ rest) found ≡ counted n.0 ∷ needs_of objects of table rest (note table (Some (place objects f)) (counted n.0) found) =
        ap (λ (k : ℕ). k ∷ needs_of objects of table rest (note table (number_of objects f) k found)) n.2
        ∙ ap (λ (o : Option ℕ). counted n.0 ∷ needs_of objects of table rest (note table o (counted n.0) found)) (number_to objects f procedure) in
        subst (AreNeeds objects of (f ∷ rest)) (sym step) (joined f rest n.0 n.1 (needs_of objects of table rest (note table (Some (place objects f)) (counted n.0) found)) tail)
      where
        at_end : (xs : List Proc) (x : Proc) (ys : List Proc) → slice_get (xs ++ x ∷ ys) (length xs) ≡ Some x
        at_end [] x ys = refl
        at_end (z ∷ xs) x ys = at_end xs x ys

        at_front : (xs ys : List Proc) (j : ℕ) (g : Proc) → j < length xs → slice_get (xs ++ ys) j ≡ Some g → slice_get xs j ≡ Some g
        at_front [] ys j g h e = absurd (omega arith)
        at_front (z ∷ xs) ys zero g h e = e
        at_front (z ∷ xs) ys (suc j) g h e = at_front xs ys j g (omega arith) e

        shifted : (xs : List Proc) (x : Proc) (ys : List Proc) → xs ++ x ∷ ys ≡ (xs ++ x ∷ []) ++ ys
        shifted [] x ys = refl
        shifted (z ∷ xs) x ys = ap (λ (l : List Proc). z ∷ l) (shifted xs x ys)

        joined : (f : Proc) (rest : List Proc) (n : ℕ) → HasNeed objects of f n → (ns : List ℕ) → AreNeeds objects of rest ns → AreNeeds objects of (f ∷ rest) (counted n ∷ ns)
        joined f rest n h ns tail = record { one_each = ap suc tail.one_each; each = each }
          where
            each : (i : ℕ) (g : Proc) → slice_get (f ∷ rest) i ≡ Some g → (k : ℕ) × HasNeed objects of g k × (slice_get (counted n ∷ ns) i ≡ Some (counted k))
            each zero g e = (n, subst (λ (x : Proc). HasNeed objects of x n) (some_is f g e) h, refl)
            each (suc i) g e = tail.each i g e

    pub needs_right : (found : Found) → found.of ≡ replicate (total table) 0 → found.greatest ≡ replicate table.classes.count 0 → AreNeeds objects of whole (needs_of objects of table whole found)
    needs_right found e f = needs_on [] whole (replicate (total table) 0) found refl (nothing_known found e f)
