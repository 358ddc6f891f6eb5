use Rattle.std.proofs.Common.{◌≡◌, ◌++◌, drop}
use Rattle.rt_words.specs.Spelling.{spell_all}
use Rattle.rt_object.specs.Spelling.{field_spelling}
use Rattle.rt_object.proofs.write.put_each_field.Given as goal

-- What is written and what is left are all of them.
abbrev pub invariant-loop-field : goal.invariant-loop-field
invariant-loop-field l = l.out.items ++ spell_all field_spelling (drop l.field-index l.fields) ≡ l.initial.out.items ++ spell_all field_spelling l.fields
