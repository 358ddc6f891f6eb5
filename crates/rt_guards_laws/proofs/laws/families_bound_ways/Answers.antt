use Rattle.rt_guards_laws.proofs.Moves.{comes_to_points, held_drops, may_grows}
use Rattle.rt_guards_laws.proofs.Steps.{acts_stay_on}
use Rattle.rt_guards_laws.proofs.laws.families_bound_ways.Goals as goal

pub returns-clause-points : goal.returns-clause-points
returns-clause-points c = comes_to_points

pub returns-clause-held : goal.returns-clause-held
returns-clause-held c = held_drops

pub returns-clause-may : goal.returns-clause-may
returns-clause-may c = may_grows

pub returns-clause-acts : goal.returns-clause-acts
returns-clause-acts c = acts_stay_on
