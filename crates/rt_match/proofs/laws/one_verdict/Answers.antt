use Rattle.rt_match.proofs.Letters.{differences_show}
use Rattle.rt_match.proofs.Verdicts.{never_both, have_one_fault}
use Rattle.rt_match.proofs.laws.one_verdict.Goals as goal

pub returns-clause-apart : goal.returns-clause-apart
returns-clause-apart c = never_both

pub returns-clause-one : goal.returns-clause-one
returns-clause-one c = have_one_fault

pub returns-clause-shown : goal.returns-clause-shown
returns-clause-shown c = differences_show
