use Rattle.rt_meaning_laws.proofs.Steps.{steps_keep}
use Rattle.rt_meaning_laws.proofs.laws.steps_keep_types.Goals as goal

pub returns : goal.returns
returns c = steps_keep c.parts_suit_their_modes.ensures c.writes_keep_modes.ensures
