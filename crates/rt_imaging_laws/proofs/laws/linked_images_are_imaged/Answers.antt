use Rattle.rt_imaging_laws.proofs.laws.linked_images_are_imaged.Goals as goal
use Rattle.rt_imaging_laws.proofs.Joining.{joined}

pub returns : goal.returns
returns c = joined c.images_are_spelled.ensures.in_range c.lists_have_texts.ensures c.texts_promise.ensures c.linked_are_imaged.ensures
