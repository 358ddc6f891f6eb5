-- A system has one verdict, and where it is linked one image and one map.
use Rattle.std.proofs.Common.{◌≡◌, ℕ, suc, List, [], ◌∷◌, length, Some, slice_get, refl, sym, ap, ◌∙◌, subst, arith}
use Rattle.rt_tree_nodes.specs.declared.store.Proc.{Proc}
use Rattle.rt_object.specs.declared.object.ObjectParts.{ObjectParts}
use Rattle.rt_match.specs.declared.bindings.Bound.{Bound}
use Rattle.rt_match.specs.Signatures.{system_of}
use Rattle.rt_match.proofs.Verdicts.{have_one_table, never_both}
use Rattle.rt_system.specs.declared.parts.Task.{Task}
use Rattle.rt_image.specs.declared.image.ImageParts.{ImageParts}
use Rattle.rt_image.specs.declared.map.Map.{Map}
use Rattle.rt_digraph.proofs.Lists.{some_is}
use Rattle.rt_graph.specs.declared.fault.GraphFault.{GraphFault}
use Rattle.rt_graph.specs.declared.fault.GraphFault.TheVariants as graph
use Rattle.rt_graph.specs.Needs.{HasNeed}
use Rattle.rt_graph.specs.Reach.{IsRightCycle}
use Rattle.rt_graph.specs.Tasks.{AreRoots}
use Rattle.rt_graph.proofs.Tasked.{root_to}
use Rattle.rt_graph.proofs.Unique.{one_need}
use Rattle.rt_link.specs.Room.{room}
use Rattle.rt_link.specs.declared.fault.LinkFault.{LinkFault}
use Rattle.rt_link.specs.declared.fault.LinkFault.TheVariants as fault
use Rattle.rt_link.specs.declared.judged.Judged.{Judged}
use Rattle.rt_link.specs.VerdictLaws.{EachHasAStack}
use Rattle.rt_link.specs.Verdict.{stack_bricks, IsMatched, IsJudged, IsRefusedBy, IsFault}
use Rattle.rt_link.specs.Imaged.{image_of}
use Rattle.rt_link.specs.Mapped.{map_of}
use Rattle.rt_link.specs.Laws.{EachIsLinked, IsGraphRefusal, IsRefusal}
use Rattle.rt_link.specs.Linked.{AreRootNeeds, IsLinked}
use Rattle.rt_link.specs.Needs.{root_words}
use Rattle.rt_link.proofs.Bricks.{fellow, the_roots}
use Rattle.rt_link.proofs.Rooted.{exact}

-- lists of one length that have the same elements
same_lists : {A : Type 0} (xs ys : List A) → length xs ≡ length ys → ((i : ℕ) (x y : A) → slice_get xs i ≡ Some x → slice_get ys i ≡ Some y → x ≡ y) → xs ≡ ys
same_lists [] [] e h = refl
same_lists [] (y ∷ ys) e h = absurd (omega arith)
same_lists (x ∷ xs) [] e h = absurd (omega arith)
same_lists {A = A} (x ∷ xs) (y ∷ ys) e h = ap (λ (z : A). z ∷ xs) (h 0 x y refl refl) ∙ ap (λ (zs : List A). y ∷ zs) (same_lists xs ys (omega arith) (λ i. h (suc i)))

module _ (objects : List ObjectParts) (tasks : List Task) where
  -- tasks have one list of roots
  one_roots : (roots others : List Proc) → AreRoots objects tasks roots → AreRoots objects tasks others → roots ≡ others
  one_roots roots others h k = same_lists roots others (h.one_each ∙ sym k.one_each) each
    where
      each : (i : ℕ) (f g : Proc) → slice_get roots i ≡ Some f → slice_get others i ≡ Some g → f ≡ g
      each i f g at is =
          let t = fellow roots tasks i f (sym h.one_each) at in
          let r = h.each i t.0 t.1 in
          let s = k.each i t.0 t.1 in
          let same : r.0 ≡ s.0 = some_is r.0 s.0 (sym (root_to objects t.0.root r.0 r.2.root) ∙ root_to objects t.0.root s.0 s.2.root) in
          some_is f r.0 (sym at ∙ r.3) ∙ (same ∙ some_is s.0 g (sym s.3 ∙ is))

  module _ (known : Judged) (judged : IsJudged objects tasks known) where
    the_match : IsMatched objects tasks known.bindings.of
    the_match = judged.deep.ordered.rooted.matched

    -- the bindings of a system that passes the tests are the only ones
    the_bindings : (of : List (List Bound)) → IsMatched objects tasks of → of ≡ known.bindings.of
    the_bindings of h = have_one_table (system_of objects) of known.bindings.of h.match h.bound the_match.bound

    no_cycle : (of : List (List Bound)) (roots cycle : List Proc) → of ≡ known.bindings.of → roots ≡ known.roots → IsRightCycle objects of roots cycle → ⊥
    no_cycle of roots cycle same rooted right =
        let moved : IsRightCycle objects known.bindings.of known.roots cycle = subst (λ (rs : List Proc). IsRightCycle objects known.bindings.of rs cycle) rooted (subst (λ (o : List (List Bound)). IsRightCycle objects o roots cycle) same right) in
        judged.deep.ordered.is_order.none moved.0 moved.1.reached moved.1.cycle

    not_refused : (f : GraphFault) → IsGraphRefusal f → IsRefusedBy objects tasks f → ⊥
    not_refused graph.Memory r h = r
    not_refused (graph.BadTask line) r h =
        let good = (the_roots objects tasks known judged).each h.bad.number h.bad.task h.bad.at in
        h.bad.bad good.0 good.1 good.2
    not_refused (graph.Recursion cycle) r h =
        no_cycle h.of h.roots cycle (the_bindings h.of h.rooted.matched) (one_roots h.roots known.roots h.rooted.are_roots (the_roots objects tasks known judged)) h.right
    not_refused (graph.SmallStack task need has) r h =
        let s = h.small in
        let same = the_bindings h.of h.ordered.rooted.matched in
        let needs : HasNeed objects known.bindings.of s.root s.need = subst (λ (o : List (List Bound)). HasNeed objects o s.root s.need) same s.needs in
        let fits = judged.deep.enough s.number s.task s.at s.root has s.need s.is_root s.stack needs in
        let small = s.small in
        omega arith

    pub no_fault : (f : LinkFault) → IsRefusal f → IsFault objects tasks f → ⊥
    no_fault fault.Memory r h = r
    no_fault (fault.Unmatched f) r h = never_both (system_of objects) f the_match.match r h
    no_fault (fault.Refused f) r h = not_refused f r h
    no_fault (fault.NoRoom bytes) r h =
        let same : room objects known.stacks ≡ room objects (stack_bricks objects tasks) = ap (λ (fs : List Proc). room objects fs) judged.stacks in
        let fits = judged.room in
        let sum = h.sum in
        let large = h.large in
        omega arith

  one_words : (of : List (List Bound)) (roots : List Proc) (ws vs : List ℕ) → AreRootNeeds objects of roots ws → AreRootNeeds objects of roots vs → ws ≡ vs
  one_words of roots ws vs h k = same_lists ws vs (h.one_each ∙ sym k.one_each) each
    where
      each : (i m n : ℕ) → slice_get ws i ≡ Some m → slice_get vs i ≡ Some n → m ≡ n
      each i m n at is =
          let f = fellow ws roots i m (sym h.one_each) at in
          let a = h.each i f.0 f.1 in
          let b = k.each i f.0 f.1 in
          some_is m a.0 (sym at ∙ a.1) ∙ (one_need objects of f.0 a.0 b.0 a.2 b.2 ∙ some_is b.0 n (sym b.1 ∙ is))

pub each_is_linked : EachHasAStack → EachIsLinked
each_is_linked law objects tasks known judged =
    let words = root_words known.order.procs known.needs known.roots in (
      image_of objects known.bindings.of tasks known.roots known.stacks,
      map_of objects known.stacks tasks words,
      record { known = known; judged = judged; words = words; root_needs = exact law objects tasks known judged; is_image = refl; is_map = refl },
    )

pub never_with_fault : (objects : List ObjectParts) (tasks : List Task) (image : ImageParts) (map : Map) (f : LinkFault) → IsLinked objects tasks image map → IsRefusal f → IsFault objects tasks f → ⊥
never_with_fault objects tasks image map f h r k = no_fault objects tasks h.known h.judged f r k

pub one_result : (objects : List ObjectParts) (tasks : List Task) (image other : ImageParts) (map its : Map) → IsLinked objects tasks image map → IsLinked objects tasks other its → (image ≡ other) × (map ≡ its)
one_result objects tasks image other map its h k =
    let a = h.known in
    let b = k.known in
    let bound : a.bindings.of ≡ b.bindings.of = the_bindings objects tasks b k.judged a.bindings.of (the_match objects tasks a h.judged) in
    let rooted : a.roots ≡ b.roots = one_roots objects tasks a.roots b.roots (the_roots objects tasks a h.judged) (the_roots objects tasks b k.judged) in
    let stacks : a.stacks ≡ b.stacks = h.judged.stacks ∙ sym k.judged.stacks in
    let moved : AreRootNeeds objects b.bindings.of b.roots h.words = subst (λ (rs : List Proc). AreRootNeeds objects b.bindings.of rs h.words) rooted (subst (λ (o : List (List Bound)). AreRootNeeds objects o a.roots h.words) bound h.root_needs) in
    let words : h.words ≡ k.words = one_words objects tasks b.bindings.of b.roots h.words k.words moved k.root_needs in (
      h.is_image
          ∙ ap (λ (o : List (List Bound)). image_of objects o tasks a.roots a.stacks) bound
          ∙ ap (λ (rs : List Proc). image_of objects b.bindings.of tasks rs a.stacks) rooted
          ∙ ap (λ (fs : List Proc). image_of objects b.bindings.of tasks b.roots fs) stacks
          ∙ sym k.is_image,
      h.is_map
          ∙ ap (λ (fs : List Proc). map_of objects fs tasks h.words) stacks
          ∙ ap (λ (ws : List ℕ). map_of objects b.stacks tasks ws) words
          ∙ sym k.is_map,
    )
