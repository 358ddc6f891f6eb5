use Rattle.std.proofs.Common.{refl}
use Rattle.rt_tasks.proofs.Beside.{side_by_side}
use Rattle.rt_tasks.proofs.laws.parts_make_one_memory.Goals as goal

pub returns : goal.returns
returns c = record { parked = λ s t. (refl, refl); side_by_side = side_by_side }
