-- The roots and the stack bricks of a system that passes all tests.
use Rattle.std.proofs.Common.{◌≡◌, ℕ, List, length, Some, slice_get, sym, ◌∙◌, subst, arith}
use Rattle.rt_tree_nodes.specs.declared.store.Proc.{Proc}
use Rattle.rt_object.specs.declared.object.Content.TheVariants as content
use Rattle.rt_object.specs.declared.object.ObjectParts.{ObjectParts}
use Rattle.rt_system.specs.declared.parts.Task.{Task}
use Rattle.rt_digraph.proofs.Lists.{get_there, some_is}
use Rattle.std.proofs.lemmas.Option.{slice_get_within}
use Rattle.rt_graph.specs.Tasks.{IsFirstEntry, AreRoots}
use Rattle.rt_link.specs.declared.judged.Judged.{Judged}
use Rattle.rt_link.specs.VerdictLaws.{AreStacks, EachHasAStack}
use Rattle.rt_link.specs.Verdict.{IsJudged}
use Rattle.rt_link.specs.Imaged.{AreStackBricks}
use Rattle.rt_link.specs.ImageLaws.{EntriesAreStacks}

-- two lists of one length: what stands in one has its fellow in the other
pub fellow : {A B : Type 0} (xs : List A) (ys : List B) (i : ℕ) (x : A) → length ys ≡ length xs → slice_get xs i ≡ Some x → (y : B) × (slice_get ys i ≡ Some y)
fellow xs ys i x e at = get_there ys i (let l = slice_get_within xs i x at in omega arith)

module _ (objects : List ObjectParts) (tasks : List Task) (known : Judged) (judged : IsJudged objects tasks known) where
  pub the_roots : AreRoots objects tasks known.roots
  the_roots = judged.deep.ordered.rooted.are_roots

  pub the_stacks : EachHasAStack → AreStacks objects tasks known.stacks
  the_stacks law = subst (λ (fs : List Proc). AreStacks objects tasks fs) (sym judged.stacks) (law objects tasks known.roots the_roots)

  pub are_bricks : EachHasAStack → EntriesAreStacks → AreStackBricks objects known.stacks
  are_bricks law entries = entries objects known.stacks each
    where
      each : (i : ℕ) (f : Proc) → slice_get known.stacks i ≡ Some f → (name : List ℕ) × (n : ℕ) × IsFirstEntry objects name f (content.Stack n)
      each i f at =
          let have = the_stacks law in
          let t = fellow known.stacks tasks i f (sym have.one_each) at in
          let s = have.each i t.0 t.1 in
          let same : s.0 ≡ f = some_is s.0 f (sym s.2 ∙ at) in
          (t.0.stack, s.1, subst (λ (g : Proc). IsFirstEntry objects t.0.stack g (content.Stack s.1)) same s.3)
