use Rattle.rt_meaning_laws.proofs.Passing.{value_passes}
use Rattle.rt_meaning_laws.proofs.laws.values_pass.Goals as goal

pub returns : goal.returns
returns c ps t u m n d so kt ku sm sn f h = value_passes ps so t u kt ku m n d sm sn f h
