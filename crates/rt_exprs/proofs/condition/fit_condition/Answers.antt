use Rattle.rt_exprs.proofs.Others.{test_fits, test_only, test_settles}
use Rattle.rt_exprs.proofs.condition.fit_condition.Goals as goal

pub returns-clause-fits : goal.returns-clause-fits
returns-clause-fits c = test_fits c.args.scope.now c.args.condition.now c.test.result c.test.ensures

pub returns-clause-only : goal.returns-clause-only
returns-clause-only c = test_only c.args.scope.now c.args.condition.now c.test.result c.test.ensures

pub returns-clause-fault : goal.returns-clause-fault
returns-clause-fault c = test_settles c.args.scope.now c.args.condition.now c.test.result c.test.ensures
