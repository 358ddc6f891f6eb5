use Rattle.std.proofs.Common.{ap, ◌∙◌, ◌++◌, refl, append_assoc}
use Rattle.rt_modes.specs.Left.{words_left, stacked}
use Rattle.rt_modes.proofs.Stack.{one_more, three_more, no_fields, first_field}
use Rattle.rt_modes.proofs.pieces.Pieces.push_fields.Goals as goal

pub returns-in_ok-push-in-None-clause-words : goal.returns-in_ok-push-in-None-clause-words
returns-in_ok-push-in-None-clause-words c =
    ap (words_left c.args.self.now.table.now c.args.self.now.order.keys c.args.self.now.place)
    (one_more _ _ _ c.in_ok-push-in-None.ensures.ok ∙ ap (λ ws. ws ++ stacked c.args.self.now.todo) (no_fields c.args.fields.now _ c.in-None.ensures.cases refl))

pub returns-in_ok-push-in-Some-3-clause-words : goal.returns-in_ok-push-in-Some-3-clause-words
returns-in_ok-push-in-Some-3-clause-words c =
    ap (words_left c.args.self.now.table.now c.args.self.now.order.keys c.args.self.now.place)
    (three_more _ _ _ _ _ _ _ c.in_ok-push-in-Some.ensures.ok c.in_ok-push-in-Some-2.ensures.ok c.in_ok-push-in-Some-3.ensures.ok ∙ rw (first_field c.args.fields.now _ _ c.in-Some.ensures.cases.0) (simp append_assoc))
