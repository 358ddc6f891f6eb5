use Rattle.std.proofs.Common.{refl}
use Rattle.rt_meaning.proofs.Others.{others_left}
use Rattle.rt_meaning.proofs.laws.steps_leave_other_tasks.Goals as goal

pub returns : goal.returns
returns c = record { steps = others_left; ticks = λ s. (refl, refl) }
