use Rattle.std.proofs.Common.{arith, ◌∙◌}
use Rattle.rt_check_declared.specs.Naming.{state}
use Rattle.rt_check_declared.proofs.Walks.{items_step, items_end}
use Rattle.rt_check_declared.proofs.names.add_items.Goals as goal

pub loop-item-preserved : goal.loop-item-preserved
loop-item-preserved c =
    let kept = c.loop-item.invariant in
    (omega (arith, c.in_ok-number.ensures, kept.0), items_step (state c.loop-item.names) (state c.add_name.new.names) c.args.brick c.loop-item.number c.in_ok-number.number c.args.items.now c.loop-item.item-index c.item-item.result c.in_ok-add_name.ensures c.in_ok-number.ensures c.loop-item-test.true c.item-item.is ∙ kept.1)

pub returns-clause-names : goal.returns-clause-names
returns-clause-names c = items_end (state c.loop-item.names) c.args.brick c.loop-item.number c.args.items.now c.loop-item.item-index c.loop-item-test.false ∙ c.loop-item.invariant.1
