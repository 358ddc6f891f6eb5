use Rattle.std.proofs.Common.{◌∙◌}
use Rattle.rt_check_declared.specs.Naming.{state}
use Rattle.rt_check_declared.proofs.Walks.{fields_step, fields_end}
use Rattle.rt_check_declared.proofs.names.add_fields.Goals as goal

pub loop-line-preserved : goal.loop-line-preserved
loop-line-preserved c =
    fields_step (state c.loop-line.names) (state c.add_items.new.names) c.args.brick c.loop-line.number c.in_ok-number.number c.args.lines.now c.loop-line.line-index c.line-item.result c.as_slice.result.now c.as_slice.ensures c.in_ok-number.ensures.names c.in_ok-number.ensures.number c.loop-line-test.true c.line-item.is ∙ c.loop-line.invariant

pub returns : goal.returns
returns c = fields_end (state c.loop-line.names) c.args.brick c.loop-line.number c.args.lines.now c.loop-line.line-index c.loop-line-test.false ∙ c.loop-line.invariant
