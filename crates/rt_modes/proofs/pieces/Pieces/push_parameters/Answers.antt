use Rattle.std.proofs.Common.{ap, ◌∙◌, ◌++◌, refl, append_assoc}
use Rattle.rt_modes.specs.Left.{words_left, stacked}
use Rattle.rt_modes.proofs.Stack.{one_more, two_more, no_parameters, first_parameter}
use Rattle.rt_modes.proofs.pieces.Pieces.push_parameters.Goals as goal

pub returns-in_ok-push-in-None-clause-words : goal.returns-in_ok-push-in-None-clause-words
returns-in_ok-push-in-None-clause-words c =
    ap (words_left c.args.self.now.table.now c.args.self.now.order.keys c.args.self.now.place)
    (one_more _ _ _ c.in_ok-push-in-None.ensures.ok ∙ ap (λ ws. ws ++ stacked c.args.self.now.todo) (no_parameters c.args.parameters.now _ c.args.answer.now c.in-None.ensures.cases refl))

pub returns-in_ok-push-in-Some-2-clause-words : goal.returns-in_ok-push-in-Some-2-clause-words
returns-in_ok-push-in-Some-2-clause-words c =
    ap (words_left c.args.self.now.table.now c.args.self.now.order.keys c.args.self.now.place)
    (two_more _ _ _ _ _ c.in_ok-push-in-Some.ensures.ok c.in_ok-push-in-Some-2.ensures.ok ∙ rw (first_parameter c.args.parameters.now _ _ c.args.answer.now c.in-Some.ensures.cases.0) (simp append_assoc))
