use Rattle.rt_meaning_sound.proofs.Procedures.{procedures_named}
use Rattle.rt_meaning_sound.proofs.laws.procedures_are_named.Goals as goal

pub returns : goal.returns
returns c = procedures_named
