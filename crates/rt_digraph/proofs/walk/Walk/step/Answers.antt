use Rattle.std.proofs.Common.{◌<◌, ◌+◌, [], Some, length, slice_get, sym, ap, ◌∙◌, subst}
use Rattle.rt_digraph.specs.Going.{IsGoing, KeepsMarks, left}
use Rattle.rt_digraph.specs.declared.walk.Walk.{Walk}
use Rattle.rt_digraph.proofs.Costs.{less_left}
use Rattle.rt_digraph.proofs.States.{rest_is}
use Rattle.rt_digraph.proofs.Turns.{left_behind, left_marks, taken_open}
use Rattle.rt_digraph.proofs.walk.Walk.step.Goals as goal

pub returns-in_ok-leave-in-Some-eq0-clause-goes : goal.returns-in_ok-leave-in-Some-eq0-clause-goes
returns-in_ok-leave-in-Some-eq0-clause-goes c roots g =
    subst (IsGoing c.args.graph.now roots c.args.stop) (sym c.in_ok-leave-in-Some-eq0.ensures)
    (left_behind c.args.graph.now roots c.args.stop c.args.self.now c.args.node
    (rest_is (slice_get c.args.self.now.states c.args.node) 0 (sym c.rest.ensures ∙ c.in-Some-eq0.is ∙ ap (λ (s : _). Some s) c.in-Some-eq0.field-0-test)) g)

pub returns-in_ok-leave-in-Some-eq0-clause-keeps : goal.returns-in_ok-leave-in-Some-eq0-clause-keeps
returns-in_ok-leave-in-Some-eq0-clause-keeps c =
    subst (λ (w : Walk). KeepsMarks c.args.self.now.states w.states) (sym c.in_ok-leave-in-Some-eq0.ensures)
    (left_marks c.args.graph.now [] c.args.stop c.args.self.now c.args.node
    (rest_is (slice_get c.args.self.now.states c.args.node) 0 (sym c.rest.ensures ∙ c.in-Some-eq0.is ∙ ap (λ (s : _). Some s) c.in-Some-eq0.field-0-test)))

pub returns-in_ok-leave-in-Some-eq0-clause-less : goal.returns-in_ok-leave-in-Some-eq0-clause-less
returns-in_ok-leave-in-Some-eq0-clause-less c _ =
    subst (λ (w : Walk). left c.args.graph.now w.states + length w.path < left c.args.graph.now c.args.self.now.states + length c.args.self.now.path + 1) (sym c.in_ok-leave-in-Some-eq0.ensures)
    (less_left c.args.graph.now c.args.self.now c.args.node 0
    (rest_is (slice_get c.args.self.now.states c.args.node) 0 (sym c.rest.ensures ∙ c.in-Some-eq0.is ∙ ap (λ (s : _). Some s) c.in-Some-eq0.field-0-test)))

pub returns-in-None-clause-goes : goal.returns-in-None-clause-goes
returns-in-None-clause-goes c roots g =
    absurd (taken_open c.args.graph.now roots c.args.stop c.args.self.now c.args.node (sym c.rest.ensures ∙ c.in-None.is) g)
