use Rattle.std.proofs.Common.{◌∙◌}
use Rattle.rt_check_bodies.specs.Statements.{declared_by}
use Rattle.rt_check_bodies.proofs.Declaring.{line_step}
use Rattle.rt_check_bodies.proofs.locals.declarations.Goals as goal

pub loop-line-preserved : goal.loop-line-preserved
loop-line-preserved c = (
  line_step (declared_by c.loop-line.names c.loop-line.starts) c.args.declared.now c.loop-line.line-index c.line-item.result c.add_line.new.names c.add_line.new.starts c.loop-line.tally c.add_line.new.tally
      c.loop-line-test.true c.line-item.is c.in_ok-add_line.ensures.made
      ∙ c.loop-line.invariant.0,
  c.in_ok-add_line.ensures.kept ∙ c.loop-line.invariant.1,
)
