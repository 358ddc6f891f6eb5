use Rattle.rt_text_laws.proofs.Ranges.{items_are_ranged}
use Rattle.rt_text_laws.proofs.trees.items_are_ranged.Goals as goal

pub returns : goal.returns
returns c = items_are_ranged c.names_are_words.ensures
