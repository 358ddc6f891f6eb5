use Rattle.rt_bricks_laws.proofs.SpelledItems.{names_are_words}
use Rattle.rt_bricks_laws.proofs.laws.names_are_words.Goals as goal

pub returns : goal.returns
returns c = names_are_words
