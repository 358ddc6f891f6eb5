use Rattle.rt_replay.proofs.Readings.{one_reading, some_reading}
use Rattle.rt_replay.proofs.laws.texts_have_one_reading.Goals as goal

pub returns-clause-one : goal.returns-clause-one
returns-clause-one c = one_reading

pub returns-clause-some : goal.returns-clause-some
returns-clause-some c = some_reading
