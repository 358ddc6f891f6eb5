use Rattle.rt_guards_laws.proofs.Whole.{starts_all_stand, runs_stand, runs_have_no_ring}
use Rattle.rt_guards_laws.proofs.laws.runs_keep_what_steps_keep.Goals as goal

pub returns-clause-starts : goal.returns-clause-starts
returns-clause-starts c = starts_all_stand

pub returns-clause-stand : goal.returns-clause-stand
returns-clause-stand c = runs_stand

pub returns-clause-rings : goal.returns-clause-rings
returns-clause-rings c = runs_have_no_ring
