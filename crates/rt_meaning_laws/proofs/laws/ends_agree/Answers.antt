use Rattle.rt_meaning_laws.proofs.Ending.{ends_agree, runners_go_on}
use Rattle.rt_meaning_laws.proofs.laws.ends_agree.Goals as goal

pub returns : goal.returns
returns c = record { agree = ends_agree c.parts_suit_their_modes.ensures c.writes_keep_modes.ensures c.full_modes_open.ensures; runners = runners_go_on c.parts_suit_their_modes.ensures c.writes_keep_modes.ensures c.full_modes_open.ensures }
