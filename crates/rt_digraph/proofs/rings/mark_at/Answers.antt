use Rattle.std.proofs.Common.{◌≡◌, ℕ, List, Option, Some, sym, subst}
use Rattle.std.specs.Option.{MatchOption}
use Rattle.rt_digraph.specs.Walks.{IsOnCycle, IsCycleOf}
use Rattle.rt_digraph.specs.Digraph.{Edge}
use Rattle.rt_digraph.proofs.Cycles.{marked_cycle}
use Rattle.rt_digraph.proofs.rings.mark_at.Goals as goal

from_some : (N : Type 0) (P : List ℕ → Type 0) (o : Option (List ℕ)) (x : List ℕ) → o ≡ Some x → MatchOption o N P → P x
from_some N P o x e h = subst (λ (z : Option (List ℕ)). MatchOption z N P) e h

pub returns-in-Some : goal.returns-in-Some
returns-in-Some c =
    let graph = c.args.graph.now in
    let found : IsCycleOf (Edge graph) c.args.node c.in-Some.cycle = from_some (IsOnCycle (Edge graph) c.args.node → ⊥) (IsCycleOf (Edge graph) c.args.node) c.in_ok-cycle.field-0 c.in-Some.cycle c.in-Some.is c.in_ok-cycle.ensures in
    marked_cycle graph c.args.node c.as_slice.result.now c.args.marks.now c.mark.new.marks c.requires.there c.requires.marked (subst (IsCycleOf (Edge graph) c.args.node) (sym c.as_slice.ensures) found) c.mark.ensures
