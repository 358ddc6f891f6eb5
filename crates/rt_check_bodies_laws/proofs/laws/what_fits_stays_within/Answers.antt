use Rattle.std.proofs.Common.{refl}
use Rattle.rt_check_bodies_laws.proofs.Conditions.{assigns_within, assigns_val_within, call_is_within, test_within}
use Rattle.rt_check_bodies_laws.proofs.FittingWeights.{fits_within}
use Rattle.rt_check_bodies_laws.proofs.laws.what_fits_stays_within.Goals as goal

pub returns-clause-values : goal.returns-clause-values
returns-clause-values g s c e m x agree few h = fits_within c s agree few h m refl

pub returns-clause-targets : goal.returns-clause-targets
returns-clause-targets g s c h p m agree few a = assigns_within c s agree few a

pub returns-clause-val_targets : goal.returns-clause-val_targets
returns-clause-val_targets g s c at h p m agree few a = assigns_val_within c s agree few a

pub returns-clause-calls : goal.returns-clause-calls
returns-clause-calls g s c h x agree few a = call_is_within c s agree few a

pub returns-clause-tests : goal.returns-clause-tests
returns-clause-tests g s c d t agree few j h = test_within c s agree few h j
