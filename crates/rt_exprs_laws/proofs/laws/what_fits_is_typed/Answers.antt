use Rattle.std.proofs.Common.{refl}
use Rattle.rt_exprs_laws.proofs.Fitted.{fits_suit}
use Rattle.rt_exprs_laws.proofs.Targets.{target_assigned, val_assigned, call_stands}
use Rattle.rt_exprs_laws.proofs.Tests.{test_fits}
use Rattle.rt_exprs_laws.proofs.laws.what_fits_is_typed.Goals as goal

pub returns-clause-values : goal.returns-clause-values
returns-clause-values c s n e m x agree v h = fits_suit s n agree h m refl v

pub returns-clause-targets : goal.returns-clause-targets
returns-clause-targets c s n h p m agree a = target_assigned s n agree a

pub returns-clause-val_targets : goal.returns-clause-val_targets
returns-clause-val_targets c s n at h p m agree a = val_assigned s n agree a

pub returns-clause-calls : goal.returns-clause-calls
returns-clause-calls c s n h x agree a = call_stands s n agree a

pub returns-clause-tests : goal.returns-clause-tests
returns-clause-tests c s n d t agree j h = test_fits s n agree h j
