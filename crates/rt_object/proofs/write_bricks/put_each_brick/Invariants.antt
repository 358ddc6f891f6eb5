use Rattle.std.proofs.Common.{◌≡◌, ◌++◌, drop}
use Rattle.rt_words.specs.Spelling.{spell_all}
use Rattle.rt_object.specs.Spelling.{brick_spelling}
use Rattle.rt_object.proofs.write_bricks.put_each_brick.Given as goal

-- What is written and what is left are all of them.
abbrev pub invariant-loop-brick : goal.invariant-loop-brick
invariant-loop-brick l = l.out.items ++ spell_all brick_spelling (drop l.brick-index l.bricks) ≡ l.initial.out.items ++ spell_all brick_spelling l.bricks
