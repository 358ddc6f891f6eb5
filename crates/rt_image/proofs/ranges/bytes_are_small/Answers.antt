use Rattle.rt_words.proofs.Spelled.{fit_bytes}
use Rattle.rt_image.proofs.ranges.bytes_are_small.Goals as goal

pub returns : goal.returns
returns c = fit_bytes c.args._bytes.now c.type_inv._bytes
