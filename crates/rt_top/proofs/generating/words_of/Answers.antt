use Rattle.rt_top.proofs.Generated.{words_are}
use Rattle.rt_top.proofs.generating.words_of.Goals as goal

pub returns-clause-words : goal.returns-clause-words
returns-clause-words c = λ n are. words_are n c.args.name.now c.as_str.result.now c.as_str-2.result.now c.args.texts.now c.as_str.ensures.value c.as_str-2.ensures.value are
