-- The edges of the call graph by its nodes.
use Rattle.std.proofs.Common.{◌≡◌, ℕ, zero, suc, ◌+◌, ◌<◌, ◌≤◌, ◌⊎◌, inl, inr, if◌then◌else◌, leb, ◌&&◌, Bool, true, false, List, [], ◌∷◌, ◌++◌, length, map, replicate, Option, Some, None, option_map, slice_get, slice_set, refl, sym, ap, ◌∙◌, subst, arith}
use Rattle.std.proofs.lemmas.Bool.Decides.{nat_tests}
use Rattle.std.proofs.lemmas.Option.{slice_get_within, slice_get-map}
use Rattle.rt_modes.specs.FullMode.{FullMode}
use Rattle.rt_modes.specs.declared.mode.Mode.{Mode, out-Mode}
use Rattle.rt_modes.specs.declared.mode.Mode.TheOpen.{Mode-F}
use Rattle.rt_tree_nodes.specs.declared.store.Proc.{Proc}
use Rattle.rt_object.specs.Grammar.{is_proc, is_proc_layer}
use Rattle.rt_object.specs.Ranges.{IsProcMode, IsProcLayer}
use Rattle.rt_object.specs.declared.object.Call.{Call}
use Rattle.rt_object.specs.declared.object.ObjectParts.{ObjectParts}
use Rattle.rt_object.specs.declared.object.ProcContent.{ProcContent}
use Rattle.rt_object.specs.declared.object.Target.{Target}
use Rattle.rt_object.specs.declared.object.Target.TheVariants as target
use Rattle.rt_match.specs.declared.bindings.Bound.{Bound}
use Rattle.rt_digraph.specs.Digraph.{listed, successors, Edge}
use Rattle.rt_digraph.specs.Walks.{Has}
use Rattle.rt_digraph.proofs.Lists.{no_element, some_is, get_left, get_there, has_end, has_left, has_cases, set_same, set_other, set_long, get_replicate, long_replicate}
use Rattle.rt_digraph.proofs.Moves.{same_or_not}
use Rattle.rt_graph.specs.Calls.{brick, numbered, stands_for, proc_at, IsProcedure, IsCandidate, MayCall, by_name, through, at_error, Calls, at_point, in_service, MeetsErrors, int_taken}
use Rattle.rt_graph.specs.Numbers.{all_bricks, place, in_object, number_of, and_then}
use Rattle.rt_graph.specs.Classes.{class_in, add, grouped}
use Rattle.rt_graph.specs.Nodes.{total, class_node, mode_node_by, IsTable, callee, callees, meets_errors, with_one, body_nodes, nodes_in, nodes_of, call_graph}
use Rattle.rt_graph.specs.declared.table.Table.{Table}
use Rattle.rt_graph.proofs.Rows.{get_joined, single_at}
use Rattle.rt_graph.proofs.Procedures.{number_to, number_from, procedure_row}
use Rattle.rt_graph.proofs.Classed.{candidate_class, class_candidate, class_there}
use Rattle.rt_graph.proofs.Views.{IsView}

-- ---- what is put behind others

pub one_has : {A : Type 0} (o : Option A) (xs : List A) (y : A) → Has (with_one o xs) y → (o ≡ Some y) ⊎ Has xs y
one_has None xs y h = inr h
one_has (Some a) xs y (zero, e) = inl e
one_has (Some a) xs y (suc i, e) = inr (i, e)

pub has_one : {A : Type 0} (o : Option A) (xs : List A) (y : A) → o ≡ Some y → Has (with_one o xs) y
has_one None xs y e = absurd cc
has_one (Some a) xs y e = (0, e)

pub has_more : {A : Type 0} (o : Option A) (xs : List A) (y : A) → Has xs y → Has (with_one o xs) y
has_more None xs y h = h
has_more (Some a) xs y h = (suc h.0, h.1)

add_keeps : (g : List (List ℕ)) (i n j x : ℕ) → Has (successors g j) x → Has (successors (add g i n) j) x
add_keeps g i n j x h = elim (same_or_not j i) [
  | inr other ↦ subst (λ (o : Option (List ℕ)). Has (listed o) x) (sym (set_other g i j (listed (slice_get g i) ++ n ∷ []) other)) h
  | inl same ↦ by (slice_get g i) refl (subst (λ (k : ℕ). Has (successors g k) x) same h)
]
  where
    by : (o : Option (List ℕ)) → slice_get g i ≡ o → Has (listed (slice_get g i)) x → Has (successors (add g i n) j) x
    by None q f = absurd (let none : Has (listed None) x = subst (λ (o : Option (List ℕ)). Has (listed o) x) q f in no_element none.0 x none.1)
    by (Some ns) q f = elim (same_or_not j i) [
      | inr other ↦ subst (λ (o : Option (List ℕ)). Has (listed o) x) (sym (set_other g i j (listed (slice_get g i) ++ n ∷ []) other)) h
      | inl same ↦ subst (λ (k : ℕ). Has (successors (add g i n) k) x) (sym same)
          (subst (λ (o : Option (List ℕ)). Has (listed o) x) (sym (set_same g i (listed (slice_get g i) ++ n ∷ []) ns q)) (has_left (listed (slice_get g i)) n x f))
    ]

add_here : (g : List (List ℕ)) (i n : ℕ) → i < length g → Has (successors (add g i n) i) n
add_here g i n h =
    let t = get_there g i h in
    subst (λ (o : Option (List ℕ)). Has (listed o) n) (sym (set_same g i (listed (slice_get g i) ++ n ∷ []) t.0 t.1)) (has_end (listed (slice_get g i)) n)

add_from : (g : List (List ℕ)) (i n j x : ℕ) → Has (successors (add g i n) j) x → Has (successors g j) x ⊎ ((j ≡ i) × (x ≡ n))
add_from g i n j x h = elim (same_or_not j i) [
  | inr other ↦ inl (subst (λ (o : Option (List ℕ)). Has (listed o) x) (set_other g i j (listed (slice_get g i) ++ n ∷ []) other) h)
  | inl same ↦ by same (slice_get g i) refl
]
  where
    past : (g : List (List ℕ)) (i : ℕ) (ns : List ℕ) → slice_get g i ≡ None → slice_get (slice_set g i ns) i ≡ None
    past [] i ns e = e
    past (m ∷ g) zero ns e = absurd cc
    past (m ∷ g) (suc i) ns e = past g i ns e

    by : j ≡ i → (o : Option (List ℕ)) → slice_get g i ≡ o → Has (successors g j) x ⊎ ((j ≡ i) × (x ≡ n))
    by same None q = absurd (
        let gone : slice_get (add g i n) i ≡ None = past g i (listed (slice_get g i) ++ n ∷ []) q in
        let none : Has (listed None) x = subst (λ (o : Option (List ℕ)). Has (listed o) x) gone (subst (λ (k : ℕ). Has (successors (add g i n) k) x) same h) in
        no_element none.0 x none.1)
    by same (Some ns) q =
        let here : Has (listed (slice_get g i) ++ n ∷ []) x = subst (λ (o : Option (List ℕ)). Has (listed o) x) (set_same g i (listed (slice_get g i) ++ n ∷ []) ns q) (subst (λ (k : ℕ). Has (successors (add g i n) k) x) same h) in
        elim (has_cases (listed (slice_get g i)) n x here) [ inl f ↦ inl (subst (λ (k : ℕ). Has (successors g k) x) (sym same) f) | inr f ↦ inr (same, f) ]

module _ (total : ℕ) where
  grouped_keeps : (k : ℕ) (of : List (Option ℕ)) (g : List (List ℕ)) (j x : ℕ) → Has (successors g j) x → Has (successors (grouped total k of g) j) x
  grouped_keeps k [] g j x h = h
  grouped_keeps k (None ∷ of) g j x h = grouped_keeps (suc k) of g j x h
  grouped_keeps k (Some c ∷ of) g j x h = grouped_keeps (suc k) of (add g (total + c) k) j x (add_keeps g (total + c) k j x h)

  grouped_long : (k : ℕ) (of : List (Option ℕ)) (g : List (List ℕ)) → length (grouped total k of g) ≡ length g
  grouped_long k [] g = refl
  grouped_long k (None ∷ of) g = grouped_long (suc k) of g
  grouped_long k (Some c ∷ of) g = grouped_long (suc k) of (add g (total + c) k) ∙ set_long g (total + c) (listed (slice_get g (total + c)) ++ k ∷ [])

  grouped_all : (k : ℕ) (of : List (Option ℕ)) (g : List (List ℕ)) (j c : ℕ) → slice_get of j ≡ Some (Some c) → total + c < length g → Has (successors (grouped total k of g) (total + c)) (k + j)
  grouped_all k [] g j c e h = absurd (no_element j (Some c) e)
  grouped_all k (None ∷ of) g zero c e h = absurd (let f : None ≡ Some c = some_is None (Some c) e in cc)
  grouped_all k (None ∷ of) g (suc j) c e h = subst (λ (x : ℕ). Has (successors (grouped total (suc k) of g) (total + c)) x) (let z : suc k + j ≡ k + suc j = omega arith in z) (grouped_all (suc k) of g j c e h)
  grouped_all k (Some d ∷ of) g zero c e h =
      let same : d ≡ c = some_is d c (some_is (Some d) (Some c) e) in
      grouped_keeps (suc k) of (add g (total + d) k) (total + c) (k + 0)
      (subst (λ (y : ℕ). Has (successors (add g (total + d) k) (total + y)) (k + 0)) same (subst (λ (x : ℕ). Has (successors (add g (total + d) k) (total + d)) x) (let z : k ≡ k + 0 = omega arith in z) (add_here g (total + d) k (omega arith))))
  grouped_all k (Some d ∷ of) g (suc j) c e h =
      subst (λ (x : ℕ). Has (successors (grouped total (suc k) of (add g (total + d) k)) (total + c)) x) (let z : suc k + j ≡ k + suc j = omega arith in z)
      (grouped_all (suc k) of (add g (total + d) k) j c e (let l = set_long g (total + d) (listed (slice_get g (total + d)) ++ k ∷ []) in omega arith))

  grouped_from : (k : ℕ) (of : List (Option ℕ)) (g : List (List ℕ)) (i x : ℕ) → Has (successors (grouped total k of g) i) x → Has (successors g i) x ⊎ ((j : ℕ) × (c : ℕ) × (slice_get of j ≡ Some (Some c)) × (i ≡ total + c) × (x ≡ k + j))
  grouped_from k [] g i x h = inl h
  grouped_from k (None ∷ of) g i x h = elim (grouped_from (suc k) of g i x h) [
    | inl f ↦ inl f
    | inr f ↦ inr (suc f.0, f.1, f.2, f.3, f.4 ∙ (let z : suc k + f.0 ≡ k + suc f.0 = omega arith in z))
  ]
  grouped_from k (Some c ∷ of) g i x h = elim (grouped_from (suc k) of (add g (total + c) k) i x h) [
    | inl f ↦ elim (add_from g (total + c) k i x f) [ inl e ↦ inl e | inr e ↦ inr (0, c, refl, e.0, e.1 ∙ (let z : k ≡ k + 0 = omega arith in z)) ]
    | inr f ↦ inr (suc f.0, f.1, f.2, f.3, f.4 ∙ (let z : suc k + f.0 ≡ k + suc f.0 = omega arith in z))
  ]

-- ---- what a test says

pub proc_true : (m : Mode) → IsProcMode m → is_proc m ≡ true
proc_true m h = by (out-Mode m) h
  where
    by : (l : Mode-F Mode) → IsProcLayer l → is_proc_layer l ≡ true
    by (Mode-F.Proc ps r) g = refl
    by Mode-F.Byte g = absurd g
    by Mode-F.Int g = absurd g
    by Mode-F.Frac g = absurd g
    by Mode-F.Label g = absurd g
    by (Mode-F.Ref a) g = absurd g
    by (Mode-F.RefArray a) g = absurd g
    by (Mode-F.Array n a) g = absurd g
    by (Mode-F.Record r) g = absurd g

pub proc_is : (m : Mode) → is_proc m ≡ true → IsProcMode m
proc_is m h = by (out-Mode m) h
  where
    by : (l : Mode-F Mode) → is_proc_layer l ≡ true → IsProcLayer l
    by (Mode-F.Proc ps r) g = tt
    by Mode-F.Byte g = absurd cc
    by Mode-F.Int g = absurd cc
    by Mode-F.Frac g = absurd cc
    by Mode-F.Label g = absurd cc
    by (Mode-F.Ref a) g = absurd cc
    by (Mode-F.RefArray a) g = absurd cc
    by (Mode-F.Array n a) g = absurd cc
    by (Mode-F.Record r) g = absurd cc

pub meets_true : (k : ℕ) → MeetsErrors k → meets_errors k ≡ true
meets_true k h = both k h.0 h.1
  where
    both : (k : ℕ) → 4 ≤ k → k ≤ 7 → (leb 4 k && leb k 7) ≡ true
    both k a b = grind (arith, nat_tests)

pub meets_is : (k : ℕ) → meets_errors k ≡ true → MeetsErrors k
meets_is k h = (least k h, most k h)
  where
    least : (k : ℕ) → (leb 4 k && leb k 7) ≡ true → 4 ≤ k
    least k e = grind (arith, e)

    most : (k : ℕ) → (leb 4 k && leb k 7) ≡ true → k ≤ 7
    most k e = grind (arith, e)

module _ (objects : List ObjectParts) (of : List (List Bound)) (table : Table) (is : IsTable objects of table) where
  pub row_is : table.row.bricks ≡ all_bricks objects
  row_is = is.row.bricks

  abbrev row : List Proc
  row = all_bricks objects

  pub total_is : total table ≡ length row
  total_is = ap length row_is

  -- ---- the node at a point

  -- node y is a procedure that may be called, or that of the class of a full mode, whose candidates may be
  pub data Leads (May : Proc → Type 0) (y : ℕ) : Type 0 where
    to_brick : (f : Proc) → IsProcedure objects f → y ≡ place objects f → May f → ((g : Proc) → May g → f ≡ g) → Leads May y
    to_class : (t : List ℕ) (c : ℕ) → class_in table.classes.map t ≡ Some c → y ≡ total table + c → ((g : Proc) → IsCandidate objects of t g → May g) → ((g : Proc) → May g → IsCandidate objects of t g) → Leads May y

  pub class_leads : (May : Proc → Type 0) (t : List ℕ) (y : ℕ) → class_node table t ≡ Some y → ((g : Proc) → IsCandidate objects of t g → May g) → ((g : Proc) → May g → IsCandidate objects of t g) → Leads May y
  class_leads May t y e to from = by (class_in table.classes.map t) refl e
    where
      by : (o : Option ℕ) → class_in table.classes.map t ≡ o → option_map (λ c. total table + c) o ≡ Some y → Leads May y
      by None q f = absurd cc
      by (Some c) q f = to_class t c q (sym (some_is (total table + c) y f)) to from

  pub class_none : (t : List ℕ) (g : Proc) → class_node table t ≡ None → IsCandidate objects of t g → ⊥
  class_none t g e h =
      let c = candidate_class objects of table.classes.map table.classes.of table.classes.count is.classes t g h in
      let f : class_node table t ≡ Some (total table + c.0) = ap (option_map (λ k. total table + k)) c.1 in cc

  pub callee_leads : (m : ℕ) (o : ObjectParts) (t : Target) (y : ℕ) → callee objects of table m o t ≡ Some y → Leads (MayCall objects of m o t) y
  callee_leads m o (target.Brick b) y e = by (stands_for of m b) refl e
    where
      by : (x : Option Proc) → stands_for of m b ≡ x → and_then x (number_of objects) ≡ Some y → Leads (MayCall objects of m o (target.Brick b)) y
      by None q f = absurd cc
      by (Some g) q f =
          let n = number_from objects g y f in
          to_brick g n.0 n.1 (by_name q n.0) (λ h may. one h may)
        where
          one : (h : Proc) → MayCall objects of m o (target.Brick b) h → g ≡ h
          one h (by_name st p) = some_is g h (sym q ∙ st)
  callee_leads m o (target.Mode mode) y e = by (is_proc mode) refl e
    where
      by : (b : Bool) → is_proc mode ≡ b → mode_node_by b table (FullMode o.records mode) ≡ Some y → Leads (MayCall objects of m o (target.Mode mode)) y
      by true q f = class_leads (MayCall objects of m o (target.Mode mode)) (FullMode o.records mode) y f (λ g h. through (record { proc = proc_is mode q; candidate = h })) (λ g may. from g may)
        where
          from : (g : Proc) → MayCall objects of m o (target.Mode mode) g → IsCandidate objects of (FullMode o.records mode) g
          from g (through h) = h.candidate
      by false q f = absurd cc
  callee_leads m o target.Error y e = class_leads (MayCall objects of m o target.Error) int_taken y e (λ g h. at_error h) (λ g may. from g may)
    where
      from : (g : Proc) → MayCall objects of m o target.Error g → IsCandidate objects of int_taken g
      from g (at_error h) = h

  pub callee_none : (m : ℕ) (o : ObjectParts) (t : Target) (g : Proc) → callee objects of table m o t ≡ None → MayCall objects of m o t g → ⊥
  callee_none m o (target.Brick b) g e (by_name st p) = let f : callee objects of table m o (target.Brick b) ≡ Some (place objects g) = ap (λ (x : Option Proc). and_then x (number_of objects)) st ∙ number_to objects g p in cc
  callee_none m o (target.Mode mode) g e (through h) = class_none (FullMode o.records mode) g (ap (λ (b : Bool). mode_node_by b table (FullMode o.records mode)) (sym (proc_true mode h.proc)) ∙ e) h.candidate
  callee_none m o target.Error g e (at_error h) = class_none int_taken g e h

  -- ---- the nodes of a procedure

  callees_from : (m : ℕ) (o : ObjectParts) (cs : List Call) (y : ℕ) → Has (callees objects of table m o cs) y → (c : Call) × Has cs c × (callee objects of table m o c.target ≡ Some y)
  callees_from m o [] y h = absurd (no_element h.0 y h.1)
  callees_from m o (c ∷ cs) y h = elim (one_has (callee objects of table m o c.target) (callees objects of table m o cs) y h) [
    | inl e ↦ (c, (0, refl), e)
    | inr g ↦ (let f = callees_from m o cs y g in (f.0, (suc f.1.0, f.1.1), f.2))
  ]

  callees_to : (m : ℕ) (o : ObjectParts) (cs : List Call) (c : Call) (y : ℕ) → Has cs c → callee objects of table m o c.target ≡ Some y → Has (callees objects of table m o cs) y
  callees_to m o [] c y h e = absurd (no_element h.0 c h.1)
  callees_to m o (d ∷ cs) c y (zero, f) e = has_one (callee objects of table m o d.target) (callees objects of table m o cs) y (ap (λ (x : Call). callee objects of table m o x.target) (some_is d c f) ∙ e)
  callees_to m o (d ∷ cs) c y (suc i, f) e = has_more (callee objects of table m o d.target) (callees objects of table m o cs) y (callees_to m o cs c y (i, f) e)

  -- the nodes that f calls: its edges lead there
  pub nodes_from : (f : Proc) (y : ℕ) → Has (nodes_of objects of table f) y → (May : Proc → Type 0) × Leads May y × ((g : Proc) → May g → Calls objects of f g)
  nodes_from f y h = by f.«module» refl f.brick refl h
    where
      in_it : (m b : ℕ) → brick (suc m) b ≡ f → (x : Option ObjectParts) → numbered objects (suc m) ≡ x → (z : Option ProcContent) → in_object x b ≡ z → Has (body_nodes objects of table (suc m) x z) y → (May : Proc → Type 0) × Leads May y × ((g : Proc) → May g → Calls objects of f g)
      in_it m b s None q z r g = absurd (no_element g.0 y g.1)
      in_it m b s (Some o) q None r g = absurd (no_element g.0 y g.1)
      in_it m b s (Some o) q (Some p) r g =
          let c = callees_from (suc m) o p.calls y g in (
            MayCall objects of (suc m) o c.0.target,
            callee_leads (suc m) o c.0.target y c.2,
            λ k may. subst (λ (e : Proc). Calls objects of e k) s (at_point c.0 (record { of = q; is = r }) c.1 may),
          )

      by : (m : ℕ) → f.«module» ≡ m → (b : ℕ) → f.brick ≡ b → Has (nodes_in objects of table m b) y → (May : Proc → Type 0) × Leads May y × ((g : Proc) → May g → Calls objects of f g)
      by zero q b r g = test (meets_errors b) refl g
        where
          same : brick 0 b ≡ f
          same = ap (λ (k : ℕ). brick 0 k) (sym r) ∙ ap (λ (k : ℕ). brick k f.brick) (sym q)

          test : (c : Bool) → meets_errors b ≡ c → Has (if c then with_one (class_node table int_taken) [] else []) y → (May : Proc → Type 0) × Leads May y × ((g : Proc) → May g → Calls objects of f g)
          test false s k = absurd (no_element k.0 y k.1)
          test true s k = elim (one_has (class_node table int_taken) [] y k) [
            | inr bad ↦ absurd (no_element bad.0 y bad.1)
            | inl e ↦ (IsCandidate objects of int_taken, class_leads (IsCandidate objects of int_taken) int_taken y e (λ g h. h) (λ g h. h), λ g h. subst (λ (x : Proc). Calls objects of x g) same (in_service (meets_is b s) h))
          ]
      by (suc m) q b r g = in_it m b (ap (λ (k : ℕ). brick (suc m) k) (sym r) ∙ ap (λ (k : ℕ). brick k f.brick) (sym q)) (numbered objects (suc m)) refl (in_object (numbered objects (suc m)) b) refl g

  -- each edge of f leads to one of its nodes
  pub nodes_to : (f g : Proc) → Calls objects of f g → (y : ℕ) × Has (nodes_of objects of table f) y × (May : Proc → Type 0) × May g × Leads May y
  nodes_to f g (at_point {o = o} {p = p} c body has may) =
      let y = called (callee objects of table f.«module» o c.target) refl in
      (y.0, in_it f.«module» f.brick body.of body.is y.0 (callees_to f.«module» o p.calls c y.0 has y.1), MayCall objects of f.«module» o c.target, may, callee_leads f.«module» o c.target y.0 y.1)
    where
      called : (x : Option ℕ) → callee objects of table f.«module» o c.target ≡ x → (y : ℕ) × (callee objects of table f.«module» o c.target ≡ Some y)
      called None q = absurd (callee_none f.«module» o c.target g q may)
      called (Some y) q = (y, q)

      in_it : (m b : ℕ) → numbered objects m ≡ Some o → proc_at o.bricks b ≡ Some p → (y : ℕ) → Has (callees objects of table m o p.calls) y → Has (nodes_in objects of table m b) y
      in_it zero b q r y h = absurd cc
      in_it (suc m) b q r y h = subst (λ (x : Option ObjectParts). Has (body_nodes objects of table (suc m) x (in_object x b)) y) (sym q) (subst (λ (z : Option ProcContent). Has (body_nodes objects of table (suc m) (Some o) z) y) (sym r) h)
  nodes_to f g (in_service {k = k} meets h) =
      let y = called (class_node table int_taken) refl in
      (y.0, subst (λ (b : Bool). Has (if b then with_one (class_node table int_taken) [] else []) y.0) (sym (meets_true k meets)) (has_one (class_node table int_taken) [] y.0 y.1), IsCandidate objects of int_taken, h, class_leads (IsCandidate objects of int_taken) int_taken y.0 y.1 (λ g h. h) (λ g h. h))
    where
      called : (x : Option ℕ) → class_node table int_taken ≡ x → (y : ℕ) × (class_node table int_taken ≡ Some y)
      called None q = absurd (class_none int_taken g q h)
      called (Some y) q = (y, q)

  -- ---- the graph

  abbrev graph : List (List ℕ)
  graph = call_graph objects of table

  abbrev begun : List (List ℕ)
  begun = map (nodes_of objects of table) table.row.bricks ++ replicate table.classes.count []

  map_long : (fs : List Proc) → length (map (nodes_of objects of table) fs) ≡ length fs
  map_long [] = refl
  map_long (f ∷ fs) = ap suc (map_long fs)

  joined_long : {A : Type 0} (xs ys : List A) → length (xs ++ ys) ≡ length xs + length ys
  joined_long [] ys = let z : length ys ≡ 0 + length ys = omega arith in z
  joined_long (x ∷ xs) ys = let h = joined_long xs ys in omega arith

  begun_long : length begun ≡ total table + table.classes.count
  begun_long =
      let a = joined_long (map (nodes_of objects of table) table.row.bricks) (replicate table.classes.count []) in
      let b = map_long table.row.bricks in
      let c : length (replicate table.classes.count []) ≡ table.classes.count = long_replicate {A = List ℕ} table.classes.count [] in
      omega arith

  graph_long : length graph ≡ total table + table.classes.count
  graph_long = grouped_long (total table) 0 table.classes.of begun ∙ begun_long

  begun_at : (x : ℕ) (f : Proc) → slice_get row x ≡ Some f → successors begun x ≡ nodes_of objects of table f
  begun_at x f e =
      ap listed (get_left (map (nodes_of objects of table) table.row.bricks) (replicate table.classes.count []) x (nodes_of objects of table f)
      (slice_get-map (nodes_of objects of table) table.row.bricks x ∙ ap (option_map (nodes_of objects of table)) (ap (λ (r : List Proc). slice_get r x) row_is ∙ e)))

  begun_past : (x y : ℕ) → total table ≤ x → Has (successors begun x) y → ⊥
  begun_past x y l h = by (slice_get begun x) refl h
    where
      by : (o : Option (List ℕ)) → slice_get begun x ≡ o → Has (listed o) y → ⊥
      by None q g = no_element g.0 y g.1
      by (Some ns) q g = elim (get_joined (map (nodes_of objects of table) table.row.bricks) (replicate table.classes.count []) x ns q) [
        | inl k ↦ (let m = map_long table.row.bricks in let n = k.0 in omega arith)
        | inr k ↦ (let none : ns ≡ [] = get_replicate table.classes.count k.0 [] ns k.2 in let bad : Has [] y = subst (λ (l : List ℕ). Has l y) none g in no_element bad.0 y bad.1)
      ]

  pub row_below : (x : ℕ) (f : Proc) → slice_get row x ≡ Some f → x < total table
  row_below x f e = let l = slice_get_within row x f e in let t = total_is in omega arith

  -- an edge from a brick leads to one of its nodes
  edge_from : (x y : ℕ) (f : Proc) → slice_get row x ≡ Some f → Edge graph x y → Has (nodes_of objects of table f) y
  edge_from x y f e d = elim (grouped_from (total table) 0 table.classes.of begun x y d.listed) [
    | inl h ↦ subst (λ (l : List ℕ). Has l y) (begun_at x f e) h
    | inr h ↦ absurd (let l = row_below x f e in let c = h.3 in omega arith)
  ]

  edge_to : (x y : ℕ) (f : Proc) → slice_get row x ≡ Some f → Has (nodes_of objects of table f) y → y < length graph → Edge graph x y
  edge_to x y f e h l = record { listed = grouped_keeps (total table) 0 table.classes.of begun x y (subst (λ (l : List ℕ). Has l y) (sym (begun_at x f e)) h); there = l }

  -- an edge from the node of a class leads to a brick of it
  class_from : (c y : ℕ) → Edge graph (total table + c) y → slice_get table.classes.of y ≡ Some (Some c)
  class_from c y d = elim (grouped_from (total table) 0 table.classes.of begun (total table + c) y d.listed) [
    | inl h ↦ absurd (begun_past (total table + c) y (omega arith) h)
    | inr h ↦ (
        let same : h.1 ≡ c = (let e = h.3 in omega arith) in
        let at : h.0 ≡ y = (let e = h.4 in omega arith) in
        subst (λ (k : ℕ). slice_get table.classes.of k ≡ Some (Some c)) at (h.2 ∙ ap (λ (k : ℕ). Some (Some k)) same))
  ]

  class_to : (c y : ℕ) → c < table.classes.count → slice_get table.classes.of y ≡ Some (Some c) → y < length graph → Edge graph (total table + c) y
  class_to c y l e there = record {
    listed = subst (λ (k : ℕ). Has (successors graph (total table + c)) k) (let z : 0 + y ≡ y = omega arith in z) (grouped_all (total table) 0 table.classes.of begun y c e (let b = begun_long in omega arith));
    there = there;
  }

  pub place_there : (f : Proc) → IsProcedure objects f → place objects f < length graph
  place_there f p = let l = row_below (place objects f) f (procedure_row objects f p) in let g = graph_long in omega arith

  past_row : (c : ℕ) → slice_get row (total table + c) ≡ None
  past_row c = by (slice_get row (total table + c)) refl
    where
      by : (o : Option Proc) → slice_get row (total table + c) ≡ o → slice_get row (total table + c) ≡ None
      by None q = q
      by (Some f) q = absurd (let l = row_below (total table + c) f q in omega arith)

  near_by : (x y : ℕ) (a b : Proc) → slice_get row x ≡ Some a → Edge graph x y → slice_get row y ≡ Some b → Calls objects of a b
  near_by x y a b e d f = by (nodes_from a y (edge_from x y a e d))
    where
      by : (May : Proc → Type 0) × Leads May y × ((g : Proc) → May g → Calls objects of a g) → Calls objects of a b
      by (May, to_brick g p at may one, calls) = calls b (subst May (some_is g b (sym (procedure_row objects g p) ∙ subst (λ (k : ℕ). slice_get row k ≡ Some b) at f)) may)
      by (May, to_class t c q at to from, calls) = absurd (let l = row_below y b f in omega arith)

  far_by : (x c y : ℕ) (a : Proc) → slice_get row x ≡ Some a → Edge graph x c → slice_get row c ≡ None → Edge graph c y → (b : Proc) × (slice_get row y ≡ Some b) × Calls objects of a b
  far_by x c y a e d none f = by (nodes_from a c (edge_from x c a e d))
    where
      by : (May : Proc → Type 0) × Leads May c × ((g : Proc) → May g → Calls objects of a g) → (b : Proc) × (slice_get row y ≡ Some b) × Calls objects of a b
      by (May, to_brick g p at may one, calls) = absurd (let h : slice_get row c ≡ Some g = subst (λ (k : ℕ). slice_get row k ≡ Some g) (sym at) (procedure_row objects g p) in cc)
      by (May, to_class t k q at to from, calls) =
          let h = class_from k y (subst (λ (j : ℕ). Edge graph j y) at f) in
          let b = class_there objects of table.classes.map table.classes.of table.classes.count is.classes y k h in
          (b.0, b.1, calls b.0 (to b.0 (class_candidate objects of table.classes.map table.classes.of table.classes.count is.classes y t b.0 k b.1 h q)))

  all_by : (x : ℕ) (a b : Proc) → slice_get row x ≡ Some a → Calls objects of a b → (y : ℕ) × (slice_get row y ≡ Some b) × (Edge graph x y ⊎ ((c : ℕ) × (slice_get row c ≡ None) × Edge graph x c × Edge graph c y))
  all_by x a b e calls = by (nodes_to a b calls)
    where
      by : (y : ℕ) × Has (nodes_of objects of table a) y × (May : Proc → Type 0) × May b × Leads May y → (y : ℕ) × (slice_get row y ≡ Some b) × (Edge graph x y ⊎ ((c : ℕ) × (slice_get row c ≡ None) × Edge graph x c × Edge graph c y))
      by (y, has, May, may, to_brick g p at m one) =
          let same : g ≡ b = one b may in (
            y,
            subst (λ (k : ℕ). slice_get row k ≡ Some b) (sym at) (subst (λ (k : Proc). slice_get row (place objects g) ≡ Some k) same (procedure_row objects g p)),
            inl (edge_to x y a e has (subst (λ (k : ℕ). k < length graph) (sym at) (place_there g p))),
          )
      by (y, has, May, may, to_class t c q at to from) =
          let h : IsCandidate objects of t b = from b may in
          let p : IsProcedure objects b = (t, h.mode) in
          let k = candidate_class objects of table.classes.map table.classes.of table.classes.count is.classes t b h in
          let same : k.0 ≡ c = some_is k.0 c (sym k.1 ∙ q) in
          let below : c < table.classes.count = is.classes.apart.below t c q in
          let node : total table + c < length graph = (let g = graph_long in omega arith) in (
            place objects b,
            procedure_row objects b p,
            inr (
              total table + c,
              past_row c,
              edge_to x (total table + c) a e (subst (Has (nodes_of objects of table a)) at has) node,
              class_to c (place objects b) below (subst (λ (j : ℕ). slice_get table.classes.of (place objects b) ≡ Some (Some j)) same k.2) (place_there b p),
            ),
          )

  pub view : IsView row (Edge graph) (Calls objects of)
  view = record { near = near_by; far = far_by; all = all_by; single = single_at objects }
