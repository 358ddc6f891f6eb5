use Rattle.rt_exprs.proofs.Others.{call_fits, call_only, call_settles}
use Rattle.rt_exprs.proofs.target.fit_call.Goals as goal

pub returns-clause-fits : goal.returns-clause-fits
returns-clause-fits c = call_fits c.args.scope.now c.args.chain.now c.call_alone.result c.call_alone.ensures

pub returns-clause-only : goal.returns-clause-only
returns-clause-only c = call_only c.args.scope.now c.args.chain.now c.call_alone.result c.call_alone.ensures

pub returns-clause-fault : goal.returns-clause-fault
returns-clause-fault c = call_settles c.args.scope.now c.args.chain.now c.call_alone.result c.call_alone.ensures
