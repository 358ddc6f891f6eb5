use Rattle.rt_words.proofs.Spelled.{fit_words}
use Rattle.rt_image.proofs.ranges.words_are_small.Goals as goal

pub returns : goal.returns
returns c = fit_words c.args._words.now c.type_inv._words
