use Rattle.rt_work_state.specs.Nodes.{seq}
use Rattle.rt_work.specs.Steps.{Does}
use Rattle.rt_work_state.specs.Items.{Do}
use Rattle.rt_work_state.specs.declared.scene.Env.{Env}
use Rattle.rt_work.proofs.Calls.{after_ok}
use Rattle.rt_work.proofs.trees.seq.Goals as goal

pub returns-in_ok-then_do-in-Then-clause-does : goal.returns-in_ok-then_do-in-Then-clause-does
returns-in_ok-then_do-in-Then-clause-does c =
    after_ok _ _ (λ o. (e : Env) → Does e (Do (seq c.args.q.now)) c.args.scene.now c.stmt.new.scene o) c.stmt.ensures.does (λ o does e. rw (c.in-Then.is, ← c.deref.ensures) (rw (c.in_ok-then_do-in-Then.ensures.todo, c.in_ok-then_do-in-Then.ensures.values, c.in_ok-then_do-in-Then.ensures.locals) at (does e)))
