use Rattle.rt_bricks_laws.proofs.RangedBricks.{numbers_are_words}
use Rattle.rt_bricks_laws.proofs.laws.numbers_are_words.Goals as goal

pub returns : goal.returns
returns c = numbers_are_words
