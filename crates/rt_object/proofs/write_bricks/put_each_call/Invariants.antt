use Rattle.std.proofs.Common.{◌≡◌, ◌++◌, drop}
use Rattle.rt_words.specs.Spelling.{spell_all}
use Rattle.rt_object.specs.Spelling.{call_spelling}
use Rattle.rt_object.proofs.write_bricks.put_each_call.Given as goal

-- What is written and what is left are all of them.
abbrev pub invariant-loop-call : goal.invariant-loop-call
invariant-loop-call l = l.out.items ++ spell_all call_spelling (drop l.call-index l.calls) ≡ l.initial.out.items ++ spell_all call_spelling l.calls
