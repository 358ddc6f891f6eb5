use Rattle.rt_words.proofs.Numbers.{exact_product}
use Rattle.rt_words.proofs.laws.words_are_exact.Goals as goal

-- src/laws.rt:22:1
pub returns-clause-product : goal.returns-clause-product
returns-clause-product c = exact_product
