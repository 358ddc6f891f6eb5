use Rattle.std.proofs.Common.{◌<◌, ◌+◌, [], Some, length, sym, ap, ◌∙◌, subst}
use Rattle.std.proofs.lemmas.Option.{slice_get_within}
use Rattle.rt_digraph.specs.Going.{IsGoing, KeepsMarks, left}
use Rattle.rt_digraph.specs.declared.walk.State.TheVariants as state
use Rattle.rt_digraph.specs.declared.walk.Walk.{Walk}
use Rattle.rt_digraph.proofs.Costs.{less_entered, less_passed}
use Rattle.rt_digraph.proofs.Moves.{passed_marks}
use Rattle.rt_digraph.proofs.Turns.{entered_marks, meet_none, meet_done, meet_open, meet_new, meet_stop}
use Rattle.rt_digraph.proofs.walk.Walk.meet.Goals as goal

pub pass-requires : goal.pass-requires
pass-requires c = slice_get_within c.args.self.now.states c.args.node (state.Open (c.args.place + 1)) c.requires

pub pass-requires-in-Some-Done : goal.pass-requires-in-Some-Done
pass-requires-in-Some-Done c = slice_get_within c.args.self.now.states c.args.node (state.Open (c.args.place + 1)) c.requires

pub note-requires : goal.note-requires
note-requires c = slice_get_within c.args.self.now.states c.args.node (state.Open (c.args.place + 1)) c.requires

pub enter-requires : goal.enter-requires
enter-requires c = slice_get_within c.args.self.now.states c.successor-next.result c.in-Some.field-0 (sym c.state.ensures ∙ c.in-Some.is)

pub returns-in-Some-clause-goes : goal.returns-in-Some-clause-goes
returns-in-Some-clause-goes c roots last g =
    meet_stop c.args.graph.now roots c.args.stop c.args.self.now c.args.node c.args.place c.successor-next.result c.in-Some.field-0 c.successor-next.ensures (sym c.state.ensures ∙ c.in-Some.is) c.if-next-stop.true last g

pub returns-in-None-clause-goes : goal.returns-in-None-clause-goes
returns-in-None-clause-goes c roots last g =
    subst (IsGoing c.args.graph.now roots c.args.stop) (sym c.pass.ensures)
    (meet_none c.args.graph.now roots c.args.stop c.args.self.now c.args.node c.args.place c.successor-next.result c.requires c.successor-next.ensures (sym c.state.ensures ∙ c.in-None.is) g)

pub returns-in-None-clause-keeps : goal.returns-in-None-clause-keeps
returns-in-None-clause-keeps c =
    subst (λ (w : Walk). KeepsMarks c.args.self.now.states w.states) (sym c.pass.ensures)
    (passed_marks c.args.graph.now [] c.args.stop c.args.self.now c.args.node c.args.place c.args.self.now.is_cyclic c.requires)

pub returns-in-None-clause-less : goal.returns-in-None-clause-less
returns-in-None-clause-less c _ =
    subst (λ (w : Walk). left c.args.graph.now w.states + length w.path < left c.args.graph.now c.args.self.now.states + length c.args.self.now.path) (sym c.pass.ensures)
    (less_passed c.args.graph.now c.args.self.now c.args.node c.args.place c.requires)

pub returns-in-Some-Done-clause-goes : goal.returns-in-Some-Done-clause-goes
returns-in-Some-Done-clause-goes c roots last g =
    subst (IsGoing c.args.graph.now roots c.args.stop) (sym c.pass-in-Some-Done.ensures)
    (meet_done c.args.graph.now roots c.args.stop c.args.self.now c.args.node c.args.place c.successor-next.result c.requires c.successor-next.ensures
    (sym c.state.ensures ∙ c.in-Some.is ∙ ap (λ (s : _). Some s) c.in-Some-Done.field-0-is) c.if-next-stop.false g)

pub returns-in-Some-Done-clause-keeps : goal.returns-in-Some-Done-clause-keeps
returns-in-Some-Done-clause-keeps c =
    subst (λ (w : Walk). KeepsMarks c.args.self.now.states w.states) (sym c.pass-in-Some-Done.ensures)
    (passed_marks c.args.graph.now [] c.args.stop c.args.self.now c.args.node c.args.place c.args.self.now.is_cyclic c.requires)

pub returns-in-Some-Done-clause-less : goal.returns-in-Some-Done-clause-less
returns-in-Some-Done-clause-less c _ =
    subst (λ (w : Walk). left c.args.graph.now w.states + length w.path < left c.args.graph.now c.args.self.now.states + length c.args.self.now.path) (sym c.pass-in-Some-Done.ensures)
    (less_passed c.args.graph.now c.args.self.now c.args.node c.args.place c.requires)

pub returns-in-Some-Open-clause-goes : goal.returns-in-Some-Open-clause-goes
returns-in-Some-Open-clause-goes c roots last g =
    subst (IsGoing c.args.graph.now roots c.args.stop) (sym c.note.ensures)
    (meet_open c.args.graph.now roots c.args.stop c.args.self.now c.args.node c.args.place c.successor-next.result c.in-Some-Open.field-0-0 c.requires c.successor-next.ensures
    (sym c.state.ensures ∙ c.in-Some.is ∙ ap (λ (s : _). Some s) c.in-Some-Open.field-0-is) c.if-next-stop.false last g)

pub returns-in-Some-Open-clause-keeps : goal.returns-in-Some-Open-clause-keeps
returns-in-Some-Open-clause-keeps c =
    subst (λ (w : Walk). KeepsMarks c.args.self.now.states w.states) (sym c.note.ensures)
    (passed_marks c.args.graph.now [] c.args.stop c.args.self.now c.args.node c.args.place c.args.self.now.is_cyclic c.requires)

pub returns-in-Some-Open-clause-less : goal.returns-in-Some-Open-clause-less
returns-in-Some-Open-clause-less c _ =
    subst (λ (w : Walk). left c.args.graph.now w.states + length w.path < left c.args.graph.now c.args.self.now.states + length c.args.self.now.path) (sym c.note.ensures)
    (less_passed c.args.graph.now c.args.self.now c.args.node c.args.place c.requires)

pub returns-in_ok-enter-in-Some-New-clause-goes : goal.returns-in_ok-enter-in-Some-New-clause-goes
returns-in_ok-enter-in-Some-New-clause-goes c roots last g =
    subst (IsGoing c.args.graph.now roots c.args.stop) (sym c.in_ok-enter-in-Some-New.ensures)
    (meet_new c.args.graph.now roots c.args.stop c.args.self.now c.args.node c.args.place c.successor-next.result c.successor-next.ensures
    (sym c.state.ensures ∙ c.in-Some.is ∙ ap (λ (s : _). Some s) c.in-Some-New.field-0-is) last g)

pub returns-in_ok-enter-in-Some-New-clause-keeps : goal.returns-in_ok-enter-in-Some-New-clause-keeps
returns-in_ok-enter-in-Some-New-clause-keeps c =
    subst (λ (w : Walk). KeepsMarks c.args.self.now.states w.states) (sym c.in_ok-enter-in-Some-New.ensures)
    (entered_marks c.args.graph.now [] c.args.stop c.args.self.now c.successor-next.result (sym c.state.ensures ∙ c.in-Some.is ∙ ap (λ (s : _). Some s) c.in-Some-New.field-0-is))

pub returns-in_ok-enter-in-Some-New-clause-less : goal.returns-in_ok-enter-in-Some-New-clause-less
returns-in_ok-enter-in-Some-New-clause-less c _ =
    subst (λ (w : Walk). left c.args.graph.now w.states + length w.path < left c.args.graph.now c.args.self.now.states + length c.args.self.now.path) (sym c.in_ok-enter-in-Some-New.ensures)
    (less_entered c.args.graph.now c.args.self.now c.successor-next.result (sym c.state.ensures ∙ c.in-Some.is ∙ ap (λ (s : _). Some s) c.in-Some-New.field-0-is))
