-- What is linked of objects of trees is a system, with a small bound.
use Rattle.std.specs.Prelude.{max}
use Rattle.std.specs.List.{AllByRecursion}
use Rattle.std.proofs.Common.{true, ◌≡◌, ℕ, zero, suc, ◌*◌, ◌≤◌, List, [], ◌∷◌, length, Option, Some, None, slice_get, refl, sym, ap, ◌∙◌, subst, arith}
use Rattle.std.proofs.lemmas.Option.{slice_get_within}
use Rattle.rt_modes.specs.declared.mode.Mode.{Mode}
use Rattle.rt_tree_nodes.specs.declared.brick.BrickSort.TheVariants as sort
use Rattle.rt_tree_nodes.specs.declared.brick.BrickSort.{BrickSort}
use Rattle.rt_tree_nodes.specs.declared.brick.Kind.{Kind}
use Rattle.rt_tree_nodes.specs.declared.brick.Kind.TheVariants as kind
use Rattle.rt_tree_nodes.specs.declared.brick.ModuleParts.{ModuleParts}
use Rattle.rt_tree_nodes.specs.declared.brick.ProcBody.{ProcBody}
use Rattle.rt_tree.specs.Modules.{is_here}
use Rattle.rt_tree.specs.Stored.{System, HasBrick}
use Rattle.rt_tree_nodes.specs.declared.store.Proc.{Proc}
use Rattle.rt_sizes.proofs.Layers.{some_is}
use Rattle.rt_meaning.specs.Roots.{root_of}
use Rattle.rt_meaning_laws.specs.Starting.{IsRoot}
use Rattle.rt_system.specs.declared.parts.Task.{Task}
use Rattle.rt_image.specs.declared.image.ImageParts.{ImageParts}
use Rattle.rt_image.specs.declared.map.Map.{Map}
use Rattle.rt_object.specs.declared.object.Brick.{Brick as Compiled}
use Rattle.rt_object.specs.declared.object.BrickKind.{BrickKind}
use Rattle.rt_object.specs.declared.object.BrickKind.TheVariants as whose
use Rattle.rt_object.specs.declared.object.Content.{Content}
use Rattle.rt_object.specs.declared.object.Content.TheVariants as content
use Rattle.rt_object.specs.declared.object.ObjectParts.{ObjectParts}
use Rattle.rt_object.specs.declared.object.ProcContent.{ProcContent}
use Rattle.rt_match.specs.Matching as matching
use Rattle.rt_match.specs.Matching.{Signature}
use Rattle.rt_match.specs.Signatures as sigs
use Rattle.rt_match.specs.Signatures.{content_form, form_of, sort_of as form_sort}
use Rattle.rt_frames.specs.declared.frame.Frame.{Frame}
use Rattle.rt_templates.specs.declared.code.ProcCode.{ProcCode}
use Rattle.rt_templates.specs.Expanded as expanded
use Rattle.rt_compile.specs.Objects.{IsObjectOf, procedure_of}
use Rattle.rt_graph.specs.Calls.{content_of}
use Rattle.rt_lower.specs.declared.layouts.Layouts.{Layouts}
use Rattle.rt_imaged.specs.Compiled.{lowered}
use Rattle.rt_imaged.specs.Whole.{source_tasks, items_in, brick_items, most_of, most_items, IsObjectBy, IsSystem}
use Rattle.rt_imaged.proofs.Compiling.{procs_are_compiled}
use Rattle.rt_imaged.proofs.Resolving.{there_is}
use Rattle.rt_imaged.proofs.Tasks.{bricks_long, map_long, roots_are_roots}
use Rattle.rt_bound.specs.Signed.{tree_kind, tree_form}
use Rattle.rt_bound.proofs.Signing.{compiles, signed_brick}
use Rattle.rt_owed.specs.Systems.{ObjectsMakeSystems, HaveAtMost, BoundsAreSmall, HasProcedure, SystemsHaveProcedures}

-- ---- layouts of all modules

record Laid (ps : System) (os : List ObjectParts) : Type 0 where
  pub layouts : List Layouts
  pub many : length layouts ≡ length ps
  pub each : (i : ℕ) (p : ModuleParts) (l : Layouts) (o : ObjectParts) → slice_get ps i ≡ Some p → slice_get layouts i ≡ Some l → slice_get os i ≡ Some o → IsObjectBy p l o

laid : (ps : System) (os : List ObjectParts) → length os ≡ length ps → ((i : ℕ) (p : ModuleParts) (o : ObjectParts) → slice_get ps i ≡ Some p → slice_get os i ≡ Some o → IsObjectOf p o) → Laid ps os
laid [] os same each = record { layouts = []; many = refl; each = λ i p l o e f g. none p i e }
  where
    none : (p : ModuleParts) (i : ℕ) {A : Type 0} → slice_get [] i ≡ Some p → A
    none p i e = absurd cc
laid (q ∷ ps) [] same each = absurd (omega (arith, same))
laid (q ∷ ps) (u ∷ os) same each =
    let first = each 0 q u refl refl in
    let rest = laid ps os (omega (arith, same)) (λ i p o e f. each (suc i) p o e f) in
    record {
      layouts = first.layouts ∷ rest.layouts;
      many = ap suc rest.many;
      each = λ i p l o e f g. at first rest i p l o e f g;
    }
  where
    at : (first : IsObjectOf q u) (rest : Laid ps os) (i : ℕ) (p : ModuleParts) (l : Layouts) (o : ObjectParts) → slice_get (q ∷ ps) i ≡ Some p → slice_get (first.layouts ∷ rest.layouts) i ≡ Some l → slice_get (u ∷ os) i ≡ Some o → IsObjectBy p l o
    at first rest zero p l o e f g =
        let one : IsObjectBy q first.layouts u = record { right = first.right; object = first.object } in
        subst (λ (z : ObjectParts). IsObjectBy p l z) (some_is u o g) (subst (λ (z : Layouts). IsObjectBy p z u) (some_is first.layouts l f) (subst (λ (z : ModuleParts). IsObjectBy z first.layouts u) (some_is q p e) one))
    at first rest (suc i) p l o e f g = rest.each i p l o e f g

pub objects_make_systems : ObjectsMakeSystems
objects_make_systems ps os tasks image mapped are ranges few linked image_ranges =
    let x = laid ps os are.same are.each in
    (x.layouts, record { linked = linked; layouts = x.many; same = are.same; trees = x.each; object_ranges = ranges; image_ranges = image_ranges; few = few }, refl)

-- ---- items

most_few : {A : Type 0} (f : A → ℕ) (xs : List A) (n : ℕ) → ((i : ℕ) (x : A) → slice_get xs i ≡ Some x → f x ≤ n) → most_of f xs ≤ n
most_few f [] n all = omega arith
most_few f (x ∷ xs) n all = let one = all 0 x refl in let rest = most_few f xs n (λ i y e. all (suc i) y e) in omega (arith, one, rest)

-- what holds a procedure is of an own or ENT procedure
here_by : (k : BrickKind) (x : ProcContent) (w : Kind) → content_of k ≡ Some (content.Proc x) → sigs.whose k ≡ tree_kind w → is_here w ≡ true
here_by (whose.Own c) x kind.Own e h = refl
here_by (whose.Own c) x kind.Ent e h = refl
here_by (whose.Own c) x kind.Ext e h = absurd cc
here_by (whose.Own c) x kind.Svc e h = absurd cc
here_by (whose.Ent c) x kind.Own e h = refl
here_by (whose.Ent c) x kind.Ent e h = refl
here_by (whose.Ent c) x kind.Ext e h = absurd cc
here_by (whose.Ent c) x kind.Svc e h = absurd cc
here_by (whose.Ext c) x w e h = absurd cc
here_by (whose.Svc c) x w e h = absurd cc

proc_form : (k : BrickKind) (x : ProcContent) → content_of k ≡ Some (content.Proc x) → form_sort (form_of k) ≡ matching.Proc
proc_form (whose.Own c) x e = ap (λ (z : Content). form_sort (content_form z)) (some_is c (content.Proc x) e)
proc_form (whose.Ent c) x e = ap (λ (z : Content). form_sort (content_form z)) (some_is c (content.Proc x) e)
proc_form (whose.Ext c) x e = absurd cc
proc_form (whose.Svc c) x e = absurd cc

-- the items of what is compiled, whatever its code
held_items : (its : Compiled) (mode : Mode) (n : ℕ) (f : Frame) (c : ProcCode) → content_of its.kind ≡ Some (content.Proc (procedure_of mode n f c)) → brick_items its ≡ n
held_items its mode n f c e = ap items_in e

proc_left : (z : BrickSort) → form_sort (tree_form z) ≡ matching.Proc → (mode : Mode) × (body : Option ProcBody) × (z ≡ sort.Proc mode body)
proc_left (sort.Proc m body) e = (m, body, refl)
proc_left (sort.Data fs ss) e = absurd cc
proc_left (sort.Stack n) e = absurd cc

module _ (ps : System) (ls : List Layouts) (os : List ObjectParts) (tasks : List Task) (image : ImageParts) (mapped : Map) (s : IsSystem ps ls os tasks image mapped) (n : ℕ) (most : HaveAtMost ps n) where
  proc_few : (i b : ℕ) (o : ObjectParts) (its : Compiled) (x : ProcContent) → slice_get os i ≡ Some o → slice_get o.bricks b ≡ Some its → content_of its.kind ≡ Some (content.Proc x) → brick_items its ≤ n
  proc_few i b o its x at there holds =
      let less = slice_get_within os i o at in
      let sames = s.same in
      let p = there_is ps i (omega (arith, less, sames)) in
      let k = compiles ps ls os tasks image mapped s (suc i) p.0 p.1 in
      let same : k.object ≡ o = some_is k.object o (sym k.its ∙ at) in
      let there_too : slice_get k.object.bricks b ≡ Some its = ap (λ (z : ObjectParts). slice_get z.bricks b) same ∙ there in
      let in_bricks = slice_get_within k.object.bricks b its there_too in
      let many : length k.object.bricks ≡ length p.0.bricks = sym (map_long (λ (c : Compiled). Some c) k.object.bricks) ∙ ap length k.is.object.bricks ∙ bricks_long k.layouts p.0 0 p.0.bricks in
      let d = there_is p.0.bricks b (omega (arith, in_bricks, many)) in
      let c = signed_brick k.layouts p.0 k.object b d.0 k.is d.1 in
      let one : c.its ≡ its = some_is c.its its (sym c.at ∙ there_too) in
      let held : content_of c.its.kind ≡ Some (content.Proc x) = ap (λ (z : Compiled). content_of z.kind) one ∙ holds in
      let here = here_by c.its.kind x d.0.kind held (ap (λ (z : Signature). z.kind) c.signed) in
      let sorts = proc_left d.0.sort (sym (ap (λ (z : Signature). z.sort) c.signed) ∙ proc_form c.its.kind x held) in
      let has : HasBrick ps (suc i) b p.0 d.0 = record { of = p.1; at = d.1 } in
      let made = procs_are_compiled ps ls os tasks image mapped s (suc i) b p.0 d.0 sorts.0 sorts.1 has here sorts.2 in
      let object_is : made.object ≡ o = some_is made.object o (sym made.of ∙ at) in
      let its_is : made.its ≡ its = some_is made.its its (sym made.there ∙ ap (λ (z : ObjectParts). slice_get z.bricks b) object_is ∙ there) in
      let items : brick_items its ≡ made.body.items = ap brick_items (sym its_is) ∙ held_items made.its sorts.0 made.body.items made.its_frame (expanded.code_of (lowered made.layouts p.0 b sorts.0 made.body)) made.holds in
      let few = most (suc i) b p.0 d.0 sorts.0 made.body has here (sorts.2 ∙ ap (λ (z : Option ProcBody). sort.Proc sorts.0 z) made.has_body) in
      omega (arith, items, few)

  none : (k : ℕ) → k ≡ 0 → k ≤ n
  none k e = omega (arith, e)

  brick_few : (i b : ℕ) (o : ObjectParts) (its : Compiled) → slice_get os i ≡ Some o → slice_get o.bricks b ≡ Some its → brick_items its ≤ n
  brick_few i b o its at there = by (content_of its.kind) refl
    where
      by : (q : Option Content) → content_of its.kind ≡ q → brick_items its ≤ n
      by None e = none (brick_items its) (ap items_in e)
      by (Some (content.Proc x)) e = proc_few i b o its x at there e
      by (Some (content.Data x)) e = none (brick_items its) (ap items_in e)
      by (Some (content.Stack k)) e = none (brick_items its) (ap items_in e)

  pub bound_small : 6 ≤ n → max 144 (24 * most_items os) ≤ 24 * n
  bound_small low = let few = most_few (λ (o : ObjectParts). most_of brick_items o.bricks) os n (λ i o at. most_few brick_items o.bricks n (λ b its there. brick_few i b o its at there)) in scaled (most_items os) few
    where
      scaled : (k : ℕ) → k ≤ n → max 144 (24 * k) ≤ 24 * n
      scaled k few = omega (arith, few, low)

pub bounds_are_small : BoundsAreSmall
bounds_are_small ps ls os tasks image mapped s n most low = bound_small ps ls os tasks image mapped s n most low

-- ---- a procedure

module _ (ps : System) (ls : List Layouts) (os : List ObjectParts) (tasks : List Task) (image : ImageParts) (mapped : Map) (s : IsSystem ps ls os tasks image mapped) where
  of_root : (f : Proc) → IsRoot ps f → HasProcedure ps
  of_root f r =
      let here : is_here r.brick_is.kind ≡ true = ap is_here r.enters in
      let c = procs_are_compiled ps ls os tasks image mapped s r.home r.number r.parts r.brick_is r.mode r.body r.has here r.sort_is in
      record {
        home = r.home;
        number = r.number;
        parts = r.parts;
        its = r.brick_is;
        mode = r.mode;
        body = c.body;
        has = r.has;
        here = here;
        sort_is = r.sort_is ∙ ap (λ (z : Option ProcBody). sort.Proc r.mode z) c.has_body;
      }

  of_roots : (ts : List Task) (fs : List Proc) → 1 ≤ length ts → length fs ≡ length ts → AllByRecursion (λ t. IsRoot ps (root_of t)) (source_tasks ts fs) → HasProcedure ps
  of_roots [] fs some same all = absurd (omega (arith, some))
  of_roots (t ∷ ts) [] some same all = absurd (omega (arith, same))
  of_roots (t ∷ ts) (f ∷ fs) some same all = of_root f all.0

pub systems_have_procedures : SystemsHaveProcedures
systems_have_procedures lines ps ls os tasks image mapped s =
    let roots = s.linked.judged.deep.ordered.rooted.are_roots in
    let all = (lines os tasks image mapped s.linked).in_image.one_each in
    let some = s.image_ranges.some_task in
    of_roots ps ls os tasks image mapped s tasks s.linked.known.roots (omega (arith, all, some)) roots.one_each (roots_are_roots ps ls os tasks image mapped s)
