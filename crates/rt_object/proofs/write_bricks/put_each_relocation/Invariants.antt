use Rattle.std.proofs.Common.{◌≡◌, ◌++◌, drop}
use Rattle.rt_words.specs.Spelling.{spell_all}
use Rattle.rt_object.specs.Spelling.{relocation_spelling}
use Rattle.rt_object.proofs.write_bricks.put_each_relocation.Given as goal

-- What is written and what is left are all of them.
abbrev pub invariant-loop-relocation : goal.invariant-loop-relocation
invariant-loop-relocation l = l.out.items ++ spell_all relocation_spelling (drop l.relocation-index l.relocations) ≡ l.initial.out.items ++ spell_all relocation_spelling l.relocations
