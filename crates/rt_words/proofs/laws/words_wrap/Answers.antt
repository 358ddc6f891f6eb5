use Rattle.rt_words.proofs.Numbers.{product}
use Rattle.rt_words.proofs.laws.words_wrap.Goals as goal

-- src/laws.rt:22:1
pub returns-clause-product : goal.returns-clause-product
returns-clause-product c = product
