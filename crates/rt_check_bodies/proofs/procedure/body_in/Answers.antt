use Rattle.std.proofs.Common.{IfOk, subst}
use Rattle.rt_tree_nodes.specs.declared.statement.Body.{Body as BodyMade}
use Rattle.rt_check_bodies.specs.declared.tally.Tally.{Tally}
use Rattle.rt_check_bodies.specs.Parts.{Gave}
use Rattle.rt_check_bodies.proofs.Wholes.{body_in_is}
use Rattle.rt_check_bodies.proofs.procedure.body_in.Goals as goal

pub returns-clause-made : goal.returns-clause-made
returns-clause-made c =
    subst (λ (p : BodyMade × Tally). IfOk c.closed_body.result (λ x. Gave x c.closed_body.new.tally p))
    (body_in_is c.args.names.now c.head_in.new.names c.args.brick.now c.in_ok-answer.answer c.args.tally.now c.head_in.new.tally c.in_ok-answer.ensures)
    c.closed_body.ensures.made
