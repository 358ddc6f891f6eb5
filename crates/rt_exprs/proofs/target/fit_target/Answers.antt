use Rattle.rt_exprs.proofs.Others.{target_fits, target_only, target_settles}
use Rattle.rt_exprs.proofs.target.fit_target.Goals as goal

pub returns-clause-fits : goal.returns-clause-fits
returns-clause-fits c = target_fits c.args.scope.now c.args.chain.now (λ y. (y.0, y.1.now)) c.target.result c.target.ensures

pub returns-clause-only : goal.returns-clause-only
returns-clause-only c = target_only c.args.scope.now c.args.chain.now (λ y. (y.0, y.1.now)) c.target.result c.target.ensures

pub returns-clause-fault : goal.returns-clause-fault
returns-clause-fault c = target_settles c.args.scope.now c.args.chain.now (λ y. (y.0, y.1.now)) c.target.result c.target.ensures
