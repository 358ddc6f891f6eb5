use Rattle.rt_bound.proofs.laws.procs_are_led.Goals as goal
use Rattle.rt_bound.proofs.Leads.{procs_are_led}

pub returns : goal.returns
returns c = procs_are_led c.full_modes_open.ensures
