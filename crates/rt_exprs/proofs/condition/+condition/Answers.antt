use Rattle.rt_exprs.proofs.Trees.{tested_compare, or_ok, or_err, and_ok, and_err}
use Rattle.rt_exprs.proofs.condition.+condition.Goals as goal

pub test-returns-in-Compare : goal.test-returns-in-Compare
test-returns-in-Compare t c = rw (tested_compare c.args.scope.now c.args.condition.now _ _ _ _ c.in-Compare.is) c.compare.ensures

pub test-returns-in-Ok : goal.test-returns-in-Ok
test-returns-in-Ok t c = or_ok c.args.scope.now c.args.condition.now _ _ _ c.as_slice.ensures c.in-Or.is c.in-Ok.tests c.in-Ok.ensures

pub test-returns-in-Err : goal.test-returns-in-Err
test-returns-in-Err t c = or_err c.args.scope.now c.args.condition.now _ _ _ c.as_slice.ensures c.in-Or.is c.in-Err.fault c.in-Err.ensures

pub test-returns-in-Ok-fit_all : goal.test-returns-in-Ok-fit_all
test-returns-in-Ok-fit_all t c = and_ok c.args.scope.now c.args.condition.now _ _ _ c.as_slice-in-And.ensures c.in-And.is c.in-Ok-fit_all.tests c.in-Ok-fit_all.ensures

pub test-returns-in-Err-fit_all : goal.test-returns-in-Err-fit_all
test-returns-in-Err-fit_all t c = and_err c.args.scope.now c.args.condition.now _ _ _ c.as_slice-in-And.ensures c.in-And.is c.in-Err-fit_all.fault c.in-Err-fit_all.ensures
