use Rattle.std.proofs.Common.{◌≡◌, ◌++◌, drop}
use Rattle.rt_words.specs.Spelling.{words_bytes}
use Rattle.rt_words.proofs.write.put_words.Given as goal

-- What is written and what is left are all of it.
abbrev pub invariant-loop-word : goal.invariant-loop-word
invariant-loop-word l = l.out.items ++ words_bytes (drop l.word-index l.words) ≡ l.initial.out.items ++ words_bytes l.words
