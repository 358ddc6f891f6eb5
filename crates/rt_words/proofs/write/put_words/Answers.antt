use Rattle.std.proofs.Common.{◌++◌, drop, ap, ◌∙◌}
use Rattle.rt_words.specs.Spelling.{words_bytes}
use Rattle.rt_words.proofs.Growing.{grown}
use Rattle.rt_words.proofs.write.put_words.Goals as goal

pub returns-in_err-put_word-clause-err : goal.returns-in_err-put_word-clause-err
returns-in_err-put_word-clause-err c =
    grown _ (words_bytes c.args.words.now) (words_bytes (drop c.loop-word.word-index c.args.words.now)) c.args.out.now.items _
    (ap (λ t. t ++ words_bytes (drop c.loop-word.word-index c.args.words.now)) c.in_err-put_word.ensures.err ∙ c.loop-word.invariant)
