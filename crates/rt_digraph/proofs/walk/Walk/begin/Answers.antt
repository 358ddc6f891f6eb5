use Rattle.std.proofs.Common.{inl, inr, [], Some, length, sym, ap, ◌∙◌, subst}
use Rattle.rt_digraph.specs.Going.{IsGoing, IsMarked}
use Rattle.rt_digraph.specs.declared.walk.State.{State}
use Rattle.rt_digraph.specs.declared.walk.Walk.{Walk}
use Rattle.rt_digraph.proofs.Ends.{begun, ended_over}
use Rattle.rt_digraph.proofs.Lists.{not_there}
use Rattle.rt_digraph.proofs.Turns.{entered_here, entered_marks}
use Rattle.rt_digraph.proofs.walk.Walk.begin.Goals as goal

pub returns-in_ok-_met-in-Some-New-clause-goes : goal.returns-in_ok-_met-in-Some-New-clause-goes
returns-in_ok-_met-in-Some-New-clause-goes c roots has over =
    ended_over c.args.graph.now roots c.in_ok-_met-in-Some-New._met c.run.new.self
    (c.in_ok-_met-in-Some-New.ensures.ends roots (subst (IsGoing c.args.graph.now roots (length c.args.graph.now)) (sym c.in_ok-enter-in-Some-New.ensures)
    (begun c.args.graph.now roots c.args.self.now c.args.root (sym c.state.ensures ∙ c.in-Some-New.is ∙ ap (λ (s : State). Some s) c.in-Some-New.field-0-is) has over)))

pub returns-in_ok-_met-in-Some-New-clause-here : goal.returns-in_ok-_met-in-Some-New-clause-here
returns-in_ok-_met-in-Some-New-clause-here c _ =
    c.in_ok-_met-in-Some-New.ensures.keeps c.args.root (subst (λ (w : Walk). IsMarked w.states c.args.root) (sym c.in_ok-enter-in-Some-New.ensures)
    (entered_here c.args.graph.now [] 0 c.args.self.now c.args.root (sym c.state.ensures ∙ c.in-Some-New.is ∙ ap (λ (s : State). Some s) c.in-Some-New.field-0-is)))

pub returns-in_ok-_met-in-Some-New-clause-keeps : goal.returns-in_ok-_met-in-Some-New-clause-keeps
returns-in_ok-_met-in-Some-New-clause-keeps c n m =
    c.in_ok-_met-in-Some-New.ensures.keeps n (subst (λ (w : Walk). IsMarked w.states n) (sym c.in_ok-enter-in-Some-New.ensures)
    (entered_marks c.args.graph.now [] 0 c.args.self.now c.args.root (sym c.state.ensures ∙ c.in-Some-New.is ∙ ap (λ (s : State). Some s) c.in-Some-New.field-0-is) n m))

pub returns-in-Some-Open-clause-here : goal.returns-in-Some-Open-clause-here
returns-in-Some-Open-clause-here c l = inl (c.in-Some-Open.field-0-0, sym c.state.ensures ∙ c.in-Some-Open.is ∙ ap (λ (s : State). Some s) c.in-Some-Open.field-0-is)

pub returns-in-Some-Done-clause-here : goal.returns-in-Some-Done-clause-here
returns-in-Some-Done-clause-here c l = inr (sym c.state.ensures ∙ c.in-Some-Done.is ∙ ap (λ (s : State). Some s) c.in-Some-Done.field-0-is)

pub returns-in-None-clause-here : goal.returns-in-None-clause-here
returns-in-None-clause-here c l = absurd (not_there c.args.self.now.states c.args.root (sym c.state.ensures ∙ c.in-None.is) l)
