use Rattle.rt_exprs.specs.Modes.{want}
use Rattle.rt_exprs.proofs.Judged.{fit_fits, fit_only, fit_settles}
use Rattle.rt_exprs.proofs.expression.fit.Goals as goal

pub returns-clause-fits : goal.returns-clause-fits
returns-clause-fits c = fit_fits c.args.scope.now c.args.expr.now (want c.args.wanted.now) c.fit_wanted.result (rw (← c.wanted.ensures) c.fit_wanted.ensures)

pub returns-clause-only : goal.returns-clause-only
returns-clause-only c = fit_only c.args.scope.now c.args.expr.now (want c.args.wanted.now) c.fit_wanted.result (rw (← c.wanted.ensures) c.fit_wanted.ensures)

pub returns-clause-fault : goal.returns-clause-fault
returns-clause-fault c = fit_settles c.args.scope.now c.args.expr.now (want c.args.wanted.now) c.fit_wanted.result (rw (← c.wanted.ensures) c.fit_wanted.ensures)
