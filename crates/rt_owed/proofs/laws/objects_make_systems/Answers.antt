use Rattle.rt_owed.proofs.laws.objects_make_systems.Goals as goal
use Rattle.rt_owed.proofs.Systems.{objects_make_systems, bounds_are_small, systems_have_procedures}

pub returns : goal.returns
returns c = record { made = objects_make_systems; bound = bounds_are_small; some = systems_have_procedures }
