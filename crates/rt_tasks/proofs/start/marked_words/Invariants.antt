use Rattle.std.proofs.Common.{◌≡◌, ◌++◌, drop}
use Rattle.rt_tasks.specs.Words.{code_words, code_marks}
use Rattle.rt_tasks.proofs.start.marked_words.Given as goal

abbrev pub invariant-loop-n : goal.invariant-loop-n
invariant-loop-n l = record {
  words : code_words l.words.items ++ drop l.n l.code ≡ l.code;
  marks : code_marks l.words.items ++ drop l.n l.marks ≡ l.marks;
}
