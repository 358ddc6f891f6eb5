-- Each task's root is reached, and has room.
use Rattle.std.proofs.Common.{true, false, Bool, ◌≡◌, ℕ, zero, suc, ◌-◌, ◌*◌, ◌≤◌, ◌&&◌, ◌==◌, List, [], ◌∷◌, length, drop, Option, Some, None, slice_get, get_or, refl, sym, ap, ◌∙◌, subst, arith}
use Rattle.std.specs.Prelude.{max, if◌then◌else◌}
use Rattle.std.specs.List.{list_any, AllByRecursion}
use Rattle.std.proofs.lemmas.Bool.Decides.{nat_tests}
use Rattle.std.proofs.lemmas.List.Folds.{list_any_at}
use Rattle.std.proofs.lemmas.Option.{slice_get_within, slice_get-get_or}
use Rattle.rt_tree_nodes.specs.declared.store.Proc.{Proc}
use Rattle.rt_sizes.proofs.Layers.{some_is}
use Rattle.rt_system.specs.declared.parts.Task.{Task}
use Rattle.rt_image.specs.declared.image.ImageTask.{ImageTask}
use Rattle.rt_image.specs.Memory.{stack_words}
use Rattle.rt_image.specs.Ranges.{HasTaskRanges}
use Rattle.rt_meaning.specs.declared.begin.SourceTask.{SourceTask}
use Rattle.rt_meaning.specs.Roots.{root_of}
use Rattle.rt_object.specs.declared.object.Brick.{Brick}
use Rattle.rt_object.specs.declared.object.BrickKind.{BrickKind}
use Rattle.rt_object.specs.declared.object.ObjectParts.{ObjectParts}
use Rattle.rt_modes.specs.FullMode.{FullMode}
use Rattle.rt_match.specs.declared.bindings.Bound.{Bound}
use Rattle.rt_digraph.specs.Walks.{Has, root}
use Rattle.rt_graph.specs.Calls.{body_in, content_of, content_at, own, IsProcedure}
use Rattle.rt_graph.specs.Needs.{counted, HasNeed}
use Rattle.rt_graph.specs.Scans.{is_same, told_need}
use Rattle.rt_graph.specs.Tasks.{IsRootNamed, IsStackNamed}
use Rattle.rt_faithful.specs.Faithful.{home_of}
use Rattle.rt_imaged.specs.Whole.{need_in, source_task, source_tasks, whole_of}
use Rattle.rt_imaged.specs.Tasks.{HasRoom, TasksHaveRoom}

-- ---- one procedure

same_itself : (f : Proc) → is_same f f ≡ true
same_itself f = both (f.module == f.module) (f.brick == f.brick) (grind (arith, nat_tests)) (grind (arith, nat_tests))
  where
    both : (a b : Bool) → a ≡ true → b ≡ true → a && b ≡ true
    both true true x y = refl
    both true false x y = absurd cc
    both false b x y = absurd cc

same_is : (g f : Proc) → is_same g f ≡ true → g ≡ f
same_is g f e =
    let m : g.module ≡ f.module = number g.module f.module (left (g.module == f.module) (g.brick == f.brick) e) in
    let b : g.brick ≡ f.brick = number g.brick f.brick (right (g.module == f.module) (g.brick == f.brick) e) in
    ap (λ (z : ℕ). make z g.brick) m ∙ ap (λ (z : ℕ). make f.module z) b
  where
    make : ℕ → ℕ → Proc
    make x y = record { «module» = x; brick = y }

    number : (a b : ℕ) → (a == b) ≡ true → a ≡ b
    number a b e = grind (arith, nat_tests)

    left : (a b : Bool) → a && b ≡ true → a ≡ true
    left true b e = refl
    left false b e = absurd cc

    right : (a b : Bool) → a && b ≡ true → b ≡ true
    right true b e = e
    right false b e = absurd cc

is_in : (fs : List Proc) (f : Proc) → Has fs f → list_any (is_same f) fs ≡ true
is_in fs f (j, at) =
    let less = slice_get_within fs j f at in
    let here : get_or fs j f ≡ f = some_is (get_or fs j f) f (sym (slice_get-get_or fs j f less) ∙ at) in
    list_any_at (is_same f) fs j f less (ap (is_same f) here ∙ same_itself f)

module _ (objects : List ObjectParts) (of : List (List Bound)) where
  record Told (f : Proc) (o : Option ℕ) : Type 0 where
    pub need : ℕ
    pub has : HasNeed objects of f need
    pub is : o ≡ Some (counted need)

  abbrev AreEach : List Proc → List ℕ → Type 0
  AreEach fs ns = (i : ℕ) (g : Proc) → slice_get fs i ≡ Some g → (n : ℕ) × HasNeed objects of g n × (slice_get ns i ≡ Some (counted n))

  told_by : (b : Bool) (g f : Proc) (fs : List Proc) (ns : List ℕ) → is_same g f ≡ b → Told g (slice_get ns 0) → ((is_same g f ≡ false) → Told f (told_need fs (drop 1 ns) f)) → Told f (if b then slice_get ns 0 else told_need fs (drop 1 ns) f)
  told_by true g f fs ns e first rest = subst (λ (z : Proc). Told z (slice_get ns 0)) (same_is g f e) first
  told_by false g f fs ns e first rest = rest e

  -- behind the first, which is another
  later : (g f : Proc) (fs : List Proc) (o : Option ℕ) (j : ℕ) → slice_get (g ∷ fs) j ≡ Some f → is_same g f ≡ false → ((i : ℕ) → slice_get fs i ≡ Some f → Told f o) → Told f o
  later g f fs o zero at e go = absurd (let is : g ≡ f = some_is g f at in let bad : true ≡ false = sym (same_itself f) ∙ ap (λ (z : Proc). is_same z f) (sym is) ∙ e in cc)
  later g f fs o (suc i) at e go = go i at

  told : (fs : List Proc) (ns : List ℕ) (f : Proc) (j : ℕ) → slice_get fs j ≡ Some f → AreEach fs ns → Told f (told_need fs ns f)
  told [] ns f j at each = absurd cc
  told (g ∷ fs) [] f j at each = absurd (let bad : None ≡ Some (counted (each 0 g refl).0) = (each 0 g refl).2 in cc)
  told (g ∷ fs) (n ∷ ns) f j at each =
      let first = each 0 g refl in
      told_by (is_same g f) g f fs (n ∷ ns) refl (record { need = first.0; has = first.1; is = first.2 })
      (λ e. later g f fs (told_need fs ns f) j at e (λ i h. told fs ns f i h (λ k z x. each (suc k) z x)))

pub source_left : (ts : List Task) (fs : List Proc) (k : ℕ) (x : SourceTask) → slice_get (source_tasks ts fs) k ≡ Some x → (t : Task) × (f : Proc) × (slice_get ts k ≡ Some t) × (slice_get fs k ≡ Some f) × (source_task t f ≡ x)
source_left [] fs k x e = absurd cc
source_left (t ∷ ts) [] k x e = absurd cc
source_left (t ∷ ts) (f ∷ fs) zero x e = (t, f, refl, refl, some_is (source_task t f) x e)
source_left (t ∷ ts) (f ∷ fs) (suc k) x e = source_left ts fs k x e

each_is : {A : Type 0} (P : A → Type 0) (xs : List A) (k : ℕ) (x : A) → AllByRecursion P xs → slice_get xs k ≡ Some x → P x
each_is P [] k x h at = absurd cc
each_is P (y ∷ xs) zero x h at = let is : y ≡ x = cc in subst P is h.0
each_is P (y ∷ xs) (suc k) x h at = each_is P xs k x h.1 at

pub have_room : TasksHaveRoom
have_room lines ps ls os tasks image mapped s i t x some at has =
    let known = s.linked.known in
    let of = known.bindings.of in
    let k = i - 1 in
    let src = source_left tasks known.roots k x has in
    let T = src.0 in
    let f = src.1 in
    let deep = s.linked.judged.deep in
    let good = deep.ordered.rooted.are_roots.each k T src.2 in
    let same : good.0 ≡ f = some_is good.0 f (sym good.3 ∙ src.3) in
    let is_root : IsRootNamed os T.root f = subst (λ (z : Proc). IsRootNamed os T.root z) same good.2.root in
    let it = is_root.entry.entry in
    let body = ap (λ (z : Option Brick). body_in (content_at z)) it.at ∙ ap (λ (z : BrickKind). body_in (content_of z)) it.ent in
    let procedure : IsProcedure os f = (FullMode it.object.records is_root.body.mode, own (record { of = it.of; is = body })) in
    let in_order = deep.ordered.is_order.order.all f (root (record { listed = (k, src.3); procedure = procedure })) in
    let need = told os of known.order.procs known.needs f in_order.0 in_order.1 (λ j g e. deep.ordered.are_needs.each j g e) in
    let all = lines os tasks image mapped s.linked in
    let line = all.in_image.each k T src.2 in
    let made : line.0 ≡ t = some_is line.0 t (sym line.1 ∙ at) in
    let enough : need.need ≤ t.stack = deep.enough k T src.2 f t.stack need.need is_root (subst (λ (z : ImageTask). IsStackNamed os T.stack z.stack) made line.2.stack) need.has in
    let ranges = each_is (HasTaskRanges (2 * length image.code)) image.tasks k t s.image_ranges.each_task at in
    let some_stack : 1 ≤ t.stack = ranges.some_stack in
    let words : stack_words (slice_get image.tasks k) ≡ t.stack = ap stack_words at in
    let small : max (counted need.need) 1 ≤ t.stack = omega arith in
    let needs : need_in (told_need known.order.procs known.needs f) ≡ max (counted need.need) 1 = ap need_in need.is in
    let result : HasRoom (whole_of ps ls os known image) (home_of image i) f = record {
      reached = is_in known.order.procs f in_order;
      room = omega arith;
    } in
    subst (λ (z : SourceTask). HasRoom (whole_of ps ls os known image) (home_of image i) (root_of z)) src.4 result
