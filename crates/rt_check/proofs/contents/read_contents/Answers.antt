use Rattle.std.proofs.Common.{◌≡◌, drop, ◌∙◌}
use Rattle.std.proofs.lemmas.List.{drop_all}
use Rattle.std.specs.Option.{option_copied}
use Rattle.rt_check.proofs.Walking.{both_next, both_last, judged_keeps}
use Rattle.rt_check.proofs.contents.read_contents.Goals as goal

pub loop-declaration-preserved : goal.loop-declaration-preserved
loop-declaration-preserved c = (
  judged_keeps (c.filling_of-found.new.names ≡ c.loop-declaration.names) c.filling_of-found.result c.in_ok-add.ensures.judged c.filling_of-found.ensures.kept_ok c.filling_of-found.ensures.kept ∙ c.loop-declaration.invariant.0,
  λ t sizes.
      both_next c.args.is_fit c.args.names.now c.loop-declaration.names c.loop-declaration.invariant.0 t c.args.bricks.now c.args.declarations.now c.loop-declaration.declaration-index c.declaration-item.result c.loop-declaration.left.now c.behind-left.result.now (option_copied c.first.result) c.bricks_in.result c.loop-declaration.contents c.add.new.self c.filling_of-found.result c.loop-declaration-test.true
      c.declaration-item.is c.behind-left.ensures c.in_ok-add.ensures.added c.bricks_in.ensures c.first.ensures c.in_ok-add.ensures.judged (c.filling_of-found.ensures.held t sizes) (c.filling_of-found.ensures.fit t sizes) (c.filling_of-found.ensures.fault t sizes) (c.loop-declaration.invariant.1 t sizes),
)

pub returns-clause-fault : goal.returns-clause-fault
returns-clause-fault c = λ t sizes.
    both_last c.args.is_fit c.args.names.now t c.args.bricks.now c.args.declarations.now c.loop-declaration.left.now (drop c.loop-declaration.declaration-index c.args.declarations.now) c.loop-declaration.contents (drop_all c.loop-declaration.declaration-index c.args.declarations.now c.loop-declaration-test.false)
    (c.loop-declaration.invariant.1 t sizes)
