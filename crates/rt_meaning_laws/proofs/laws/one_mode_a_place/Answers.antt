use Rattle.rt_meaning_laws.proofs.Alone.{one_mode_a_place, one_mode_an_own}
use Rattle.rt_meaning_laws.proofs.laws.one_mode_a_place.Goals as goal

pub returns-clause-shared : goal.returns-clause-shared
returns-clause-shared c = one_mode_a_place

pub returns-clause-own : goal.returns-clause-own
returns-clause-own c = one_mode_an_own
