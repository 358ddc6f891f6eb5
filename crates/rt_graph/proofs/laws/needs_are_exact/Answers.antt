use Rattle.rt_graph.proofs.GraphLaws as laws
use Rattle.rt_graph.proofs.laws.needs_are_exact.Goals as goal

pub returns-clause-one : goal.returns-clause-one
returns-clause-one c = laws.needs_are_one

pub returns-clause-some : goal.returns-clause-some
returns-clause-some c = laws.needs_some

pub returns-clause-points : goal.returns-clause-points
returns-clause-points c = laws.points_fit

pub returns-clause-bare : goal.returns-clause-bare
returns-clause-bare c = laws.bare_points_fit

pub returns-clause-depths : goal.returns-clause-depths
returns-clause-depths c = laws.depths_fit

pub returns-clause-services : goal.returns-clause-services
returns-clause-services c = laws.services_fit
