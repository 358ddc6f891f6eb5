use Rattle.rt_system.proofs.TickReading.{one_tick_reading, some_tick_reading}
use Rattle.rt_system.proofs.laws.tick_texts_have_one_reading.Goals as goal

pub returns-clause-one : goal.returns-clause-one
returns-clause-one c = one_tick_reading

pub returns-clause-some : goal.returns-clause-some
returns-clause-some c = some_tick_reading
