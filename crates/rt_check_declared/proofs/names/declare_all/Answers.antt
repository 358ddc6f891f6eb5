use Rattle.std.proofs.Common.{◌∙◌}
use Rattle.rt_check_declared.specs.Naming.{state}
use Rattle.rt_check_declared.proofs.Walks.{declarations_step, declarations_end}
use Rattle.rt_check_declared.proofs.names.declare_all.Goals as goal

pub loop-declaration-preserved : goal.loop-declaration-preserved
loop-declaration-preserved c =
    declarations_step (state c.loop-declaration.names) (state c.declare.new.names) c.loop-declaration.numbers c.in_ok-numbers.numbers c.args.declarations.now c.loop-declaration.declaration-index c.declaration-item.result c.in_ok-numbers.ensures.names c.in_ok-numbers.ensures.numbers c.loop-declaration-test.true c.declaration-item.is ∙ c.loop-declaration.invariant

pub returns : goal.returns
returns c = declarations_end (state c.loop-declaration.names) c.loop-declaration.numbers c.args.declarations.now c.loop-declaration.declaration-index c.loop-declaration-test.false ∙ c.loop-declaration.invariant
