use Rattle.rt_link.proofs.Placed.{lies_as_laid}
use Rattle.rt_link.proofs.image_laws.images_lie_as_laid.Goals as goal

pub returns : goal.returns
returns c = lies_as_laid
