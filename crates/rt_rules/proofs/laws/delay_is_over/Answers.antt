use Rattle.rt_rules.proofs.Delays.{delay_begins, delay_goes_on, delay_is_over}
use Rattle.rt_rules.proofs.laws.delay_is_over.Goals as goal

pub returns : goal.returns
returns c = record { begins = delay_begins; goes_on = delay_goes_on; over = delay_is_over }
