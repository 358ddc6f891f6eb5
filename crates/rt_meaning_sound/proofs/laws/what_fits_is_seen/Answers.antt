use Rattle.rt_meaning_sound.proofs.Fitting.{fits_seen, alone_seen}
use Rattle.rt_meaning_sound.proofs.Conditions.{targets_named, val_targets_named, test_named}
use Rattle.rt_meaning_sound.proofs.laws.what_fits_is_seen.Goals as goal

pub returns-clause-values : goal.returns-clause-values
returns-clause-values g s c k e m x short locals w h = (fits_seen s c k short locals h w).tree

pub returns-clause-targets : goal.returns-clause-targets
returns-clause-targets g s c k h p m agree short locals w a = targets_named s c k short locals agree a w

pub returns-clause-val_targets : goal.returns-clause-val_targets
returns-clause-val_targets g s c k at h p m agree short locals w a = val_targets_named s c k short locals agree a w

pub returns-clause-calls : goal.returns-clause-calls
returns-clause-calls g s c k h x short locals w a = (alone_seen s c k short locals a w).tree

pub returns-clause-tests : goal.returns-clause-tests
returns-clause-tests g s c k d t short locals w h = test_named s c k short locals h w
