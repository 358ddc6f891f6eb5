use Rattle.std.proofs.Common.{◌≡◌, ◌++◌, ◌+◌, ◌≤◌, drop, length}
use Rattle.rt_report.specs.Lines.{behind, texts_of}
use Rattle.rt_report.proofs.line.put_line.Given as goal

-- What is written and what is left are all of it, and no more room than that was taken.
abbrev pub invariant-loop-word : goal.invariant-loop-word
invariant-loop-word l =
    (l.out.items ++ behind (texts_of (drop l.word-index l.rest)) ≡ l.initial.out.items ++ behind (texts_of l.rest))
    × (l.initial.out.spare + length (behind (texts_of (drop l.word-index l.rest))) ≤ l.out.spare + length (behind (texts_of l.rest)))
