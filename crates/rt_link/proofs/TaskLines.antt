-- The tasks of a linked system are those of its lines.
use Rattle.std.proofs.Common.{◌≡◌, ◌+◌, ℕ, zero, suc, List, [], ◌∷◌, length, Some, slice_get, refl, sym, ap, ◌∙◌, subst, arith}
use Rattle.rt_tree_nodes.specs.declared.store.Proc.{Proc}
use Rattle.rt_object.specs.declared.object.ObjectParts.{ObjectParts}
use Rattle.rt_system.specs.declared.parts.Task.{Task}
use Rattle.rt_image.specs.declared.image.ImageParts.{ImageParts}
use Rattle.rt_image.specs.declared.image.ImageTask.{ImageTask}
use Rattle.rt_image.specs.declared.map.Map.{Map}
use Rattle.rt_image.specs.declared.map.MapTask.{MapTask}
use Rattle.rt_digraph.proofs.Lists.{no_element, some_is}
use Rattle.rt_graph.specs.Tasks.{IsStackNamed}
use Rattle.rt_link.specs.declared.judged.Judged.{Judged}
use Rattle.rt_link.specs.VerdictLaws.{AreStacks, EachHasAStack}
use Rattle.rt_link.specs.Imaged.{image_task, image_tasks}
use Rattle.rt_link.specs.Mapped.{map_task, map_tasks}
use Rattle.rt_link.specs.Linked.{IsLinked}
use Rattle.rt_link.specs.Laws.{IsOfLine, IsMappedAs, AreOneByOne, HasTasksOfLines}
use Rattle.rt_link.proofs.Bricks.{fellow, the_roots, the_stacks}
use Rattle.rt_link.proofs.Rooted.{stack_has, served}

module _ (objects : List ObjectParts) where
  images_long : (n : ℕ) (ts : List Task) (fs : List Proc) → length fs ≡ length ts → length (image_tasks objects n ts fs) ≡ length ts
  images_long n [] fs e = refl
  images_long n (t ∷ ts) [] e = absurd (omega arith)
  images_long n (t ∷ ts) (f ∷ fs) e = ap suc (images_long (suc n) ts fs (omega arith))

  image_at : (n i : ℕ) (ts : List Task) (fs : List Proc) (t : Task) (f : Proc) → slice_get ts i ≡ Some t → slice_get fs i ≡ Some f → slice_get (image_tasks objects n ts fs) i ≡ Some (image_task objects (n + i) t f)
  image_at n i [] fs t f at is = absurd (no_element i t at)
  image_at n i (u ∷ ts) [] t f at is = absurd (no_element i f is)
  image_at n zero (u ∷ ts) (g ∷ fs) t f at is =
      ap (λ (x : Task). Some (image_task objects n x g)) (some_is u t at)
      ∙ ap (λ (x : Proc). Some (image_task objects n t x)) (some_is g f is)
      ∙ ap (λ (k : ℕ). Some (image_task objects k t f)) (let z : n ≡ n + 0 = omega arith in z)
  image_at n (suc i) (u ∷ ts) (g ∷ fs) t f at is = image_at (suc n) i ts fs t f at is ∙ ap (λ (k : ℕ). Some (image_task objects k t f)) (let z : suc n + i ≡ n + suc i = omega arith in z)

  module _ (stacks : List Proc) where
    maps_long : (n : ℕ) (ts : List Task) (fs : List Proc) (ws : List ℕ) → length fs ≡ length ts → length ws ≡ length ts → length (map_tasks objects stacks n ts fs ws) ≡ length ts
    maps_long n [] fs ws e h = refl
    maps_long n (t ∷ ts) [] ws e h = absurd (omega arith)
    maps_long n (t ∷ ts) (f ∷ fs) [] e h = absurd (omega arith)
    maps_long n (t ∷ ts) (f ∷ fs) (w ∷ ws) e h = ap suc (maps_long (suc n) ts fs ws (omega arith) (omega arith))

    map_at : (n i : ℕ) (ts : List Task) (fs : List Proc) (ws : List ℕ) (t : Task) (f : Proc) (w : ℕ) → slice_get ts i ≡ Some t → slice_get fs i ≡ Some f → slice_get ws i ≡ Some w
        → slice_get (map_tasks objects stacks n ts fs ws) i ≡ Some (map_task objects stacks (n + i) t f w)
    map_at n i [] fs ws t f w at is has = absurd (no_element i t at)
    map_at n i (u ∷ ts) [] ws t f w at is has = absurd (no_element i f is)
    map_at n i (u ∷ ts) (g ∷ fs) [] t f w at is has = absurd (no_element i w has)
    map_at n zero (u ∷ ts) (g ∷ fs) (v ∷ ws) t f w at is has =
        ap (λ (x : Task). Some (map_task objects stacks n x g v)) (some_is u t at)
        ∙ ap (λ (x : Proc). Some (map_task objects stacks n t x v)) (some_is g f is)
        ∙ ap (λ (x : ℕ). Some (map_task objects stacks n t f x)) (some_is v w has)
        ∙ ap (λ (k : ℕ). Some (map_task objects stacks k t f w)) (let z : n ≡ n + 0 = omega arith in z)
    map_at n (suc i) (u ∷ ts) (g ∷ fs) (v ∷ ws) t f w at is has = map_at (suc n) i ts fs ws t f w at is has ∙ ap (λ (k : ℕ). Some (map_task objects stacks k t f w)) (let z : suc n + i ≡ n + suc i = omega arith in z)

module _ (law : EachHasAStack) (objects : List ObjectParts) (tasks : List Task) (image : ImageParts) (map : Map) (linked : IsLinked objects tasks image map) where
  abbrev known : Judged
  known = linked.known

  stacks : AreStacks objects tasks known.stacks
  stacks = the_stacks objects tasks known linked.judged law

  rooted : length known.roots ≡ length tasks
  rooted = (the_roots objects tasks known linked.judged).one_each

  in_image : AreOneByOne (IsOfLine objects) tasks (image_tasks objects 0 tasks known.stacks)
  in_image = record { one_each = images_long objects 0 tasks known.stacks stacks.one_each; each = each }
    where
      each : (i : ℕ) (t : Task) → slice_get tasks i ≡ Some t → (made : ImageTask) × (slice_get (image_tasks objects 0 tasks known.stacks) i ≡ Some made) × IsOfLine objects t made
      each i t at =
          let s = stacks.each i t at in
          let words = stack_has objects t.stack s.0 s.1 s.3 in
          let named : IsStackNamed objects t.stack s.1 = (s.0, s.3) in
          (image_task objects (0 + i) t s.0, image_at objects 0 i tasks known.stacks t s.0 at s.2, record { name = refl; priority = refl; stack = subst (IsStackNamed objects t.stack) (sym words) named })

  in_map : AreOneByOne (IsMappedAs objects known.bindings.of) tasks (map_tasks objects known.stacks 0 tasks known.stacks linked.words)
  in_map = record { one_each = maps_long objects known.stacks 0 tasks known.stacks linked.words stacks.one_each (linked.root_needs.one_each ∙ rooted); each = each }
    where
      each : (i : ℕ) (t : Task) → slice_get tasks i ≡ Some t → (made : MapTask) × (slice_get (map_tasks objects known.stacks 0 tasks known.stacks linked.words) i ≡ Some made) × IsMappedAs objects known.bindings.of t made
      each i t at =
          let f = fellow tasks known.roots i t rooted at in
          let w = linked.root_needs.each i f.0 f.1 in
          let s = served law objects tasks known linked.judged i t f.0 at f.1 in
          let words = stack_has objects t.stack s.stack s.words s.first in
          let named : IsStackNamed objects t.stack s.words = (s.stack, s.first) in
          let fits = linked.judged.deep.enough i t at f.0 s.words w.0 s.is_root named w.2 in (
            map_task objects known.stacks (0 + i) t s.stack w.0,
            map_at objects known.stacks 0 i tasks known.stacks linked.words t s.stack w.0 at s.at w.1,
            record { name = refl; stack = subst (IsStackNamed objects t.stack) (sym words) named; root = f.0; is_root = s.is_root; need = w.2; fits = omega arith },
          )

  pub tasks_of_lines : HasTasksOfLines objects tasks image map
  tasks_of_lines = record {
    in_image = subst (λ (x : ImageParts). AreOneByOne (IsOfLine objects) tasks x.tasks) (sym linked.is_image) in_image;
    of = known.bindings.of;
    bound = linked.judged.deep.ordered.rooted.matched.bound;
    in_map = subst (λ (x : Map). AreOneByOne (IsMappedAs objects known.bindings.of) tasks x.tasks) (sym linked.is_map) in_map;
  }
