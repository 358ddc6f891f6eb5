use Rattle.std.proofs.Common.{arith, ◌∙◌}
use Rattle.rt_check_declared.specs.Naming.{state}
use Rattle.rt_check_declared.proofs.Walks.{bricks_step, bricks_end}
use Rattle.rt_check_declared.proofs.names.add_bricks.Goals as goal

pub loop-brick-preserved : goal.loop-brick-preserved
loop-brick-preserved c =
    let kept = c.loop-brick.invariant in
    (omega (arith, c.in_ok-number.ensures, kept.0), bricks_step (state c.loop-brick.names) (state c.add_name.new.names) c.loop-brick.number c.in_ok-number.number c.args.bricks.now c.loop-brick.brick-index c.brick-item.result c.in_ok-add_name.ensures c.in_ok-number.ensures c.loop-brick-test.true c.brick-item.is ∙ kept.1)

pub returns-clause-names : goal.returns-clause-names
returns-clause-names c = bricks_end (state c.loop-brick.names) c.loop-brick.number c.args.bricks.now c.loop-brick.brick-index c.loop-brick-test.false ∙ c.loop-brick.invariant.1
