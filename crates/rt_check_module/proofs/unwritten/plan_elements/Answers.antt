use Rattle.std.proofs.Common.{ℕ, [], ◌∷◌, ◌++◌, ap, ◌∙◌}
use Rattle.rt_check_module.specs.declared.unwritten.Pending.TheVariants as pending
use Rattle.rt_check_module.proofs.Pendings.{planned_none, one_element}
use Rattle.rt_check_module.proofs.unwritten.plan_elements.Goals as goal

pub loop-element-init : goal.loop-element-init
loop-element-init c = planned_none c.args.pending.now c.push.new.self c.args.length (c.in_ok-push.ensures.ok ∙ ap (λ (n : ℕ). c.args.pending.now ++ pending.Parts n ∷ []) c.from.ensures)

pub loop-element-preserved : goal.loop-element-preserved
loop-element-preserved c =
    one_element c.args.pending.now c.loop-element.pending c.push-in-loop-element.new.self c.args.levels c.loop-element._element c.args.length c.args.of.now c.element-each.result c.loop-element.invariant c.element-each.ensures c.in_ok-push-2.ensures.ok
