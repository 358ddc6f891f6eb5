use Rattle.rt_guards_laws.proofs.Ways.{entries_follow, labels_follow}
use Rattle.rt_guards_laws.proofs.laws.activations_follow_points.Goals as goal

pub returns-clause-entries : goal.returns-clause-entries
returns-clause-entries c = entries_follow

pub returns-clause-labels : goal.returns-clause-labels
returns-clause-labels c = labels_follow
