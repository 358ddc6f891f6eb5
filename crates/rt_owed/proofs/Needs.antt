-- The needs of reached procedures, as the linker tells them.
use Rattle.std.specs.Prelude.{max, if◌then◌else◌}
use Rattle.std.specs.List.{All, list_any}
use Rattle.std.proofs.Common.{true, false, Bool, ◌≡◌, ℕ, zero, suc, ◌≤◌, ◌&&◌, ◌||◌, ◌==◌, List, [], ◌∷◌, length, drop, Option, Some, None, slice_get, refl, sym, ap, ◌∙◌, subst, arith}
use Rattle.std.proofs.lemmas.Bool.Decides.{nat_tests}
use Rattle.std.proofs.lemmas.Option.{slice_get_within}
use Rattle.rt_tree_nodes.specs.declared.store.Proc.{Proc}
use Rattle.rt_system.specs.declared.parts.Task.{Task}
use Rattle.rt_object.specs.declared.object.BrickKind.{BrickKind}
use Rattle.rt_object.specs.declared.object.ObjectParts.{ObjectParts}
use Rattle.rt_object.specs.Ranges.{HasObjectRanges, HasBrickRanges, HasKindRanges}
use Rattle.rt_match.specs.declared.bindings.Bound.{Bound}
use Rattle.rt_digraph.specs.Walks.{Has, root, next}
use Rattle.rt_sizes.proofs.Layers.{some_is}
use Rattle.rt_imaged.proofs.Resolving.{there_is}
use Rattle.rt_graph.specs.Calls.{brick, numbered, Calls, at_point, in_service}
use Rattle.rt_graph.specs.Laws.{NeedsSome, PointsFit, ServicesFit}
use Rattle.rt_graph.specs.Needs.{counted, HasNeed}
use Rattle.rt_graph.specs.Reach.{IsReached, IsRoot}
use Rattle.rt_graph.specs.Scans.{is_same, told_need}
use Rattle.rt_graph.specs.Tasks.{IsRootNamed, IsStackNamed}
use Rattle.rt_link.specs.Verdict.{IsDeep}
use Rattle.rt_imaged.specs.Whole.{need_in}
use Rattle.rt_imaged.proofs.Fitting.{all_at}
use Rattle.rt_lower_meaning.proofs.Standing.{each_is}

-- ---- one procedure

same_itself : (f : Proc) → is_same f f ≡ true
same_itself f = both (f.module == f.module) (f.brick == f.brick) (grind (arith, nat_tests)) (grind (arith, nat_tests))
  where
    both : (a b : Bool) → a ≡ true → b ≡ true → a && b ≡ true
    both true true x y = refl
    both true false x y = absurd cc
    both false b x y = absurd cc

same_is : (g f : Proc) → is_same g f ≡ true → g ≡ f
same_is g f e =
    let m : g.module ≡ f.module = number g.module f.module (left (g.module == f.module) (g.brick == f.brick) e) in
    let b : g.brick ≡ f.brick = number g.brick f.brick (right (g.module == f.module) (g.brick == f.brick) e) in
    ap (λ (z : ℕ). brick z g.brick) m ∙ ap (λ (z : ℕ). brick f.module z) b
  where
    number : (a b : ℕ) → (a == b) ≡ true → a ≡ b
    number a b e = grind (arith, nat_tests)

    left : (a b : Bool) → a && b ≡ true → a ≡ true
    left true b e = refl
    left false b e = absurd cc

    right : (a b : Bool) → a && b ≡ true → b ≡ true
    right true b e = e
    right false b e = absurd cc

-- what is in the order is told to be reached, and what is told so is in it
pub is_in : (fs : List Proc) (f : Proc) (i : ℕ) → slice_get fs i ≡ Some f → list_any (is_same f) fs ≡ true
is_in [] f i e = absurd cc
is_in (g ∷ fs) f zero e = first (is_same f g) (list_any (is_same f) fs) (ap (is_same f) (some_is g f e) ∙ same_itself f)
  where
    first : (a b : Bool) → a ≡ true → a || b ≡ true
    first true b e = refl
    first false b e = absurd cc
is_in (g ∷ fs) f (suc i) e = second (is_same f g) (list_any (is_same f) fs) (is_in fs f i e)
  where
    second : (a b : Bool) → b ≡ true → a || b ≡ true
    second true b e = refl
    second false b e = e

pub has_in : (fs : List Proc) (f : Proc) → list_any (is_same f) fs ≡ true → Has fs f
has_in [] f e = absurd cc
has_in (g ∷ fs) f e = by (is_same f g) (list_any (is_same f) fs) refl e (λ h. (let x = has_in fs f h in (suc x.0, x.1)))
  where
    by : (a b : Bool) → is_same f g ≡ a → a || b ≡ true → (b ≡ true → Has (g ∷ fs) f) → Has (g ∷ fs) f
    by true b same e go = (0, ap (λ (z : Proc). Some z) (sym (same_is f g same)))
    by false b other e go = go e

pub ranges_at : (objects : List ObjectParts) → All HasObjectRanges objects → (m : ℕ) (o : ObjectParts) → numbered objects m ≡ Some o → HasObjectRanges o
ranges_at objects ranges zero o e = absurd cc
ranges_at objects ranges (suc i) o e = all_at HasObjectRanges objects ranges i o e

module _ (objects : List ObjectParts) (tasks : List Task) (of : List (List Bound)) (roots order : List Proc) (needs : List ℕ) (deep : IsDeep objects tasks of roots order needs) (ranges : All HasObjectRanges objects) where
  -- the need that is told of a procedure is its own
  pub record Told (f : Proc) (o : Option ℕ) : Type 0 where
    pub need : ℕ
    pub has : HasNeed objects of f need
    pub is : o ≡ Some (counted need)

  abbrev AreEach : List Proc → List ℕ → Type 0
  AreEach fs ns = (i : ℕ) (g : Proc) → slice_get fs i ≡ Some g → (n : ℕ) × HasNeed objects of g n × (slice_get ns i ≡ Some (counted n))

  told_by : (b : Bool) (g f : Proc) (fs : List Proc) (ns : List ℕ) → is_same g f ≡ b → Told g (slice_get ns 0) → ((is_same g f ≡ false) → Told f (told_need fs (drop 1 ns) f)) → Told f (if b then slice_get ns 0 else told_need fs (drop 1 ns) f)
  told_by true g f fs ns e first rest = subst (λ (z : Proc). Told z (slice_get ns 0)) (same_is g f e) first
  told_by false g f fs ns e first rest = rest e

  -- behind the first, which is another
  later : (g f : Proc) (fs : List Proc) (o : Option ℕ) (j : ℕ) → slice_get (g ∷ fs) j ≡ Some f → is_same g f ≡ false → ((i : ℕ) → slice_get fs i ≡ Some f → Told f o) → Told f o
  later g f fs o zero at e go = absurd (let is : g ≡ f = some_is g f at in let bad : true ≡ false = sym (same_itself f) ∙ ap (λ (z : Proc). is_same z f) (sym is) ∙ e in cc)
  later g f fs o (suc i) at e go = go i at

  told : (fs : List Proc) (ns : List ℕ) (f : Proc) (j : ℕ) → slice_get fs j ≡ Some f → AreEach fs ns → Told f (told_need fs ns f)
  told [] ns f j at each = absurd cc
  told (g ∷ fs) [] f j at each = absurd (let bad : None ≡ Some (counted (each 0 g refl).0) = (each 0 g refl).2 in cc)
  told (g ∷ fs) (n ∷ ns) f j at each =
      let first = each 0 g refl in
      told_by (is_same g f) g f fs (n ∷ ns) refl (record { need = first.0; has = first.1; is = first.2 })
      (λ e. later g f fs (told_need fs ns f) j at e (λ i h. told fs ns f i h (λ k z x. each (suc k) z x)))

  pub told_of : (f : Proc) → Has order f → Told f (told_need order needs f)
  told_of f h = told order needs f h.0 h.1 (λ j g e. deep.ordered.are_needs.each j g e)

  -- ---- no need is greater than a stack

  stack_few : (name : List ℕ) (n : ℕ) → IsStackNamed objects name n → n ≤ 28672
  stack_few name n (f, first) =
      let it = first.entry in
      let r = ranges_at objects ranges f.module it.object it.of in
      let b = each_is (HasBrickRanges it.object.records.records (length it.object.strings) (length it.object.bricks)) it.object.bricks f.brick it.found r.each_brick it.at in
      (subst (λ (k : BrickKind). HasKindRanges it.object.records.records (length it.object.strings) (length it.object.bricks) it.found.name k) it.ent b.kind).1

  root_few : (f : Proc) (n : ℕ) → IsRoot objects of roots f → HasNeed objects of f n → n ≤ 28672
  root_few f n h need =
      let are = deep.ordered.rooted.are_roots in
      let i = h.listed.0 in
      let less = slice_get_within roots i f h.listed.1 in
      let many = are.one_each in
      let t = there_is tasks i (omega (arith, less, many)) in
      let good = are.each i t.0 t.1 in
      let same : good.0 ≡ f = some_is good.0 f (sym good.3 ∙ h.listed.1) in
      let enough : n ≤ good.1 = deep.enough i t.0 t.1 f good.1 n (subst (λ (z : Proc). IsRootNamed objects t.0.root z) same good.2.root) good.2.stack need in
      let few = stack_few t.0.stack good.1 good.2.stack in
      omega (arith, enough, few)

  module _ (points : PointsFit) (services : ServicesFit) where
    -- what is called needs less
    called_less : (f g : Proc) (n m : ℕ) → Calls objects of f g → HasNeed objects of f n → HasNeed objects of g m → m ≤ n
    called_less f g n m (at_point {o = o} {p = p} c body has may) a b = let l = points objects of f g o p c m n body has may a b in omega (arith, l)
    called_less _ g n m (in_service {k = k} meets candidate) a b = let l = services objects of k g m n meets candidate a b in omega (arith, l)

    pub few : (f : Proc) (n : ℕ) → IsReached objects of roots f → HasNeed objects of f n → n ≤ 28672
    few f n (root h) need = root_few f n h need
    few f n (next {a = a} reached edge) need =
        let t = told_of a (deep.ordered.is_order.order.all a reached) in
        let l = called_less a f t.need n edge t.has need in
        let up = few a t.need reached t.has in
        omega (arith, l, up)

    -- a reached procedure needs what the whole of the system says
    pub record Needed (f : Proc) : Type 0 where
      pub need : ℕ
      pub has : HasNeed objects of f need
      pub is : need_in (told_need order needs f) ≡ need

    pub needed : NeedsSome → (f : Proc) → Has order f → Needed f
    needed some f h =
        let t = told_of f h in
        let up = few f t.need (deep.ordered.is_order.order.reached f h) t.has in
        let low = some objects of f t.need t.has in
        record { need = t.need; has = t.has; is = ap need_in t.is ∙ exact t.need up low }
      where
        exact : (n : ℕ) → n ≤ 28672 → 1 ≤ n → max (counted n) 1 ≡ n
        exact n up low = omega (arith, up, low)
