use Rattle.rt_faithful.proofs.Owning.{others_may_not, none_may}
use Rattle.rt_faithful.proofs.laws.tasks_own_their_parts.Goals as goal

pub returns : goal.returns
returns c = record {
  own = λ image i j a ranges there is_one ne low high. others_may_not image (c.images_lie_in_memory.ensures.order image ranges) i j a there is_one ne low high;
  code = λ image i a ranges less. none_may image (c.images_lie_in_memory.ensures.order image ranges) i a less;
}
