use Rattle.rt_meaning_laws.proofs.Whole.{stores_stay_typed}
use Rattle.rt_meaning_laws.proofs.laws.stores_stay_typed.Goals as goal

pub returns : goal.returns
returns c = stores_stay_typed c.parts_suit_their_modes.ensures c.writes_keep_modes.ensures c.full_modes_open.ensures
