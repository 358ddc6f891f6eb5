use Rattle.rt_exprs.proofs.Others.{val_fits, val_only, val_settles}
use Rattle.rt_exprs.proofs.target.fit_val_target.Goals as goal

pub returns-clause-fits : goal.returns-clause-fits
returns-clause-fits c = val_fits c.args.scope.now c.args.at c.args.chain.now (λ y. (y.0, y.1.now)) c.val_target.result c.val_target.ensures

pub returns-clause-only : goal.returns-clause-only
returns-clause-only c = val_only c.args.scope.now c.args.at c.args.chain.now (λ y. (y.0, y.1.now)) c.val_target.result c.val_target.ensures

pub returns-clause-fault : goal.returns-clause-fault
returns-clause-fault c = val_settles c.args.scope.now c.args.at c.args.chain.now (λ y. (y.0, y.1.now)) c.val_target.result c.val_target.ensures
