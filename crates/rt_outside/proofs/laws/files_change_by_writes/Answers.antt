use Rattle.rt_outside.proofs.Changes.{all_applied, kept}
use Rattle.rt_outside.proofs.laws.files_change_by_writes.Goals as goal

pub returns-clause-applied : goal.returns-clause-applied
returns-clause-applied c = all_applied

pub returns-clause-kept : goal.returns-clause-kept
returns-clause-kept c = kept
