use Rattle.rt_modes.proofs.ReadAt.{one_spelling, read_back, stand_or_refused, never_both}
use Rattle.rt_modes.proofs.laws.one_spelling.Goals as goal

pub returns : goal.returns
returns c = record { one = one_spelling; back = read_back; either = stand_or_refused; apart = never_both }
