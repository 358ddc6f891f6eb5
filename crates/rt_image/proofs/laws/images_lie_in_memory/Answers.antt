use Rattle.rt_image.proofs.Lies.{in_order, in_memory}
use Rattle.rt_image.proofs.laws.images_lie_in_memory.Goals as goal

pub returns : goal.returns
returns c = record { order = in_order; memory = in_memory }
