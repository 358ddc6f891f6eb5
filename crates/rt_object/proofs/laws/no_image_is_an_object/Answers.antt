use Rattle.rt_object.proofs.Apart.{no_image_is_object}
use Rattle.rt_object.proofs.laws.no_image_is_an_object.Goals as goal

pub returns : goal.returns
returns c = no_image_is_object
