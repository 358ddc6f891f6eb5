use Rattle.std.proofs.Common.{◌≡◌, subst}
use Rattle.rt_exprs.specs.Sights.{Sight}
use Rattle.rt_check_declared.specs.Records.{Counts}
use Rattle.rt_check_module.specs.Faults.{Inside}
use Rattle.rt_check_module.specs.Tree.{Somewhere, gathered, fillings_in}
use Rattle.rt_check.proofs.Reading.{names_see}
use Rattle.rt_check.proofs.module.read_inside.Goals as goal

pub returns-clause-fillings : goal.returns-clause-fillings
returns-clause-fillings c = λ t s rise is_fit none.
    let names = names_see c.args.declarations.now c.table.result.now c.args.modes.now c.args.bricks.now c.args.level c.in_ok-texts.texts c.as_slice.result.now c.in_ok-items.items.keys c.in_ok-names.names c.table.ensures c.in_ok-texts.ensures c.as_slice.ensures c.in_ok-items.ensures c.in_ok-names.ensures rise in
    subst (λ (n : Sight). c.in_ok-fillings.field-0.fillings ≡ gathered (fillings_in n) c.args.bricks.now c.args.declarations.now) names (c.in_ok-fillings.ensures.fillings t s is_fit none)

pub returns-clause-fault : goal.returns-clause-fault
returns-clause-fault c = λ t s rise.
    let names = names_see c.args.declarations.now c.table.result.now c.args.modes.now c.args.bricks.now c.args.level c.in_ok-texts.texts c.as_slice.result.now c.in_ok-items.items.keys c.in_ok-names.names c.table.ensures c.in_ok-texts.ensures c.as_slice.ensures c.in_ok-items.ensures c.in_ok-names.ensures rise in
    subst (λ (n : Sight). Counts (λ g. Somewhere (Inside n t g) c.args.bricks.now c.args.declarations.now) c.in_ok-fillings.field-0.fault) names (c.in_ok-fillings.ensures.fault t s)
