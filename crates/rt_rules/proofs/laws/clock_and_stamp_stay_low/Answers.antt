use Rattle.rt_rules.proofs.Raises.{tick_raises, service_raises, stays_low}
use Rattle.rt_rules.proofs.laws.clock_and_stamp_stay_low.Goals as goal

pub returns : goal.returns
returns c = record { tick = tick_raises; service = service_raises; run = stays_low }
