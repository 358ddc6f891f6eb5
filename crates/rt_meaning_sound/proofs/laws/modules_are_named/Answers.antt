use Rattle.rt_meaning_sound.proofs.Modules.{modules_named}
use Rattle.rt_meaning_sound.proofs.laws.modules_are_named.Goals as goal

pub returns : goal.returns
returns c = modules_named
