use Rattle.std.proofs.Common.{◌≡◌, ◌++◌, drop}
use Rattle.rt_words.specs.Spelling.{spell_all}
use Rattle.rt_object.specs.Spelling.{block_spelling}
use Rattle.rt_object.proofs.write.put_each_string.Given as goal

-- What is written and what is left are all of them.
abbrev pub invariant-loop-string : goal.invariant-loop-string
invariant-loop-string l = l.out.items ++ spell_all block_spelling (drop l.string-index l.strings) ≡ l.initial.out.items ++ spell_all block_spelling l.strings
