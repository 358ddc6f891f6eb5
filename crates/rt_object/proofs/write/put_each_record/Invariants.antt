use Rattle.std.proofs.Common.{◌≡◌, ◌++◌, drop}
use Rattle.rt_words.specs.Spelling.{spell_all}
use Rattle.rt_object.specs.Spelling.{record_spelling}
use Rattle.rt_object.proofs.write.put_each_record.Given as goal

-- What is written and what is left are all of them.
abbrev pub invariant-loop-definition : goal.invariant-loop-definition
invariant-loop-definition l = l.out.items ++ spell_all record_spelling (drop l.definition-index l.records) ≡ l.initial.out.items ++ spell_all record_spelling l.records
