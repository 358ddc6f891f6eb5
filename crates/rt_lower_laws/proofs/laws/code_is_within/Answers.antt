use Rattle.rt_lower_laws.proofs.Whole.{all_within, none_recovers}
use Rattle.rt_lower_laws.proofs.laws.code_is_within.Goals as goal

pub returns : goal.returns
returns c = record { within = all_within; recovers = none_recovers }
