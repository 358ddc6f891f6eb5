use Rattle.std.proofs.Common.{◌≡◌, ℕ, List, Option, Some, None, subst, arith}
use Rattle.std.specs.Option.{IfSome, IfNone}
use Rattle.rt_digraph.specs.Walks.{IsOnCycle, IsCycleOf}
use Rattle.rt_digraph.specs.Digraph.{Edge}
use Rattle.rt_digraph.specs.Going.{IsDone}
use Rattle.rt_digraph.proofs.Ends.{none_more, reached_done, first_right, some_cycle}
use Rattle.rt_digraph.proofs.sorting.first_cycle.Goals as goal

from_some : (P : List ℕ → Type 0) (o : Option (List ℕ)) (x : List ℕ) → o ≡ Some x → IfSome o P → P x
from_some P o x e h = subst (λ (z : Option (List ℕ)). IfSome z P) e h

from_none : (P : Type 0) (o : Option (List ℕ)) → o ≡ None → IfNone o P → P
from_none P o e h = subst (λ (z : Option (List ℕ)). IfNone z P) e h

pub returns-in-Some : goal.returns-in-Some
returns-in-Some c roots whole =
    let graph = c.args.graph.now in
    let walk = c.args.walk.now in
    let node = c.loop-node.node in
    let found = from_some (λ (xs : List ℕ). IsDone walk.states node × IsCycleOf (Edge graph) node xs) c.in_ok-cycle.field-0 c.in-Some.cycle c.in-Some.is c.in_ok-cycle.ensures.some in
    first_right graph roots walk node c.in-Some.cycle whole found.0 (c.loop-node.invariant roots whole) found.1

pub loop-node-preserved : goal.loop-node-preserved
loop-node-preserved c roots whole =
    let graph = c.args.graph.now in
    let walk = c.args.walk.now in
    let node = c.loop-node.node in
    none_more graph roots node (c.loop-node.invariant roots whole)
    (λ r cycle. from_none (IsDone walk.states node → IsOnCycle (Edge graph) node → ⊥) c.in_ok-cycle.field-0 c.in_default.is c.in_ok-cycle.ensures.none (reached_done graph roots walk whole node r) cycle)

pub returns : goal.returns
returns c roots whole = absurd (some_cycle c.args.graph.now roots c.args.walk.now c.loop-node.node whole c.requires (omega arith) (c.loop-node.invariant roots whole))
