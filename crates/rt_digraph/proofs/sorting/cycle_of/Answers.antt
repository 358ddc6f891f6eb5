use Rattle.std.proofs.Common.{[], ◌∷◌, sym, subst}
use Rattle.rt_digraph.specs.Digraph.{Edge}
use Rattle.rt_digraph.specs.Going.{IsGoing, IsMarked}
use Rattle.rt_digraph.specs.Walks.{IsCycleOf}
use Rattle.rt_digraph.specs.declared.walk.Walk.{Walk}
use Rattle.rt_digraph.proofs.Ends.{begun_alone, alone_here, cycle_met, none_met}
use Rattle.rt_digraph.proofs.Runs.{ended_met, ended_on}
use Rattle.rt_digraph.proofs.sorting.cycle_of.Goals as goal

pub returns-in_ok-push : goal.returns-in_ok-push
returns-in_ok-push c =
    let graph = c.args.graph.now in
    let node = c.args.node in
    subst (IsCycleOf (Edge graph) node) (sym c.in_ok-push.ensures.ok)
    (cycle_met graph node c.run.new.self (ended_met graph (node ∷ []) node c.in_ok-run.field-0 c.run.new.self c.if-branch.true
    (c.in_ok-run.ensures.ends (node ∷ []) (subst (IsGoing graph (node ∷ []) node) (sym c.in_ok-enter.ensures) (begun_alone graph node c.in_ok-walk.walk c.in_ok-walk.ensures c.requires)))))

pub returns-else-branch : goal.returns-else-branch
returns-else-branch c =
    let graph = c.args.graph.now in
    let node = c.args.node in
    none_met graph node c.run.new.self (ended_on graph (node ∷ []) node c.in_ok-run.field-0 c.run.new.self c.if-branch.false
    (c.in_ok-run.ensures.ends (node ∷ []) (subst (IsGoing graph (node ∷ []) node) (sym c.in_ok-enter.ensures) (begun_alone graph node c.in_ok-walk.walk c.in_ok-walk.ensures c.requires))))
    (c.in_ok-run.ensures.keeps node (subst (λ (w : Walk). IsMarked w.states node) (sym c.in_ok-enter.ensures) (alone_here graph node c.in_ok-walk.walk c.in_ok-walk.ensures c.requires)))
