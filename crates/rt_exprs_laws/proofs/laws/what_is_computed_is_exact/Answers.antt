use Rattle.rt_exprs_laws.proofs.Exact.{expressions_exact, targets_exact, val_targets_exact, calls_exact, tests_exact, alone_exact}
use Rattle.rt_exprs_laws.proofs.laws.what_is_computed_is_exact.Goals as goal

pub returns-clause-expressions : goal.returns-clause-expressions
returns-clause-expressions c = expressions_exact

pub returns-clause-targets : goal.returns-clause-targets
returns-clause-targets c = targets_exact

pub returns-clause-val_targets : goal.returns-clause-val_targets
returns-clause-val_targets c = val_targets_exact

pub returns-clause-calls : goal.returns-clause-calls
returns-clause-calls c = calls_exact

pub returns-clause-tests : goal.returns-clause-tests
returns-clause-tests c = tests_exact

pub returns-clause-alone : goal.returns-clause-alone
returns-clause-alone c = alone_exact
