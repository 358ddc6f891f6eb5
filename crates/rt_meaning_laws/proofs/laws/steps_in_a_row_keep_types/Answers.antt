use Rattle.rt_meaning_laws.proofs.Making.{makes_keep}
use Rattle.rt_meaning_laws.proofs.laws.steps_in_a_row_keep_types.Goals as goal

pub returns : goal.returns
returns c = makes_keep c.parts_suit_their_modes.ensures c.writes_keep_modes.ensures
