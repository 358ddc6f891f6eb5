use Rattle.std.proofs.Common.{◌≡◌, ◌++◌, drop, map}
use Rattle.rt_templates.proofs.code.ProcCode.put_words.Given as goal

-- What is written and what is left are all of them, with a mark of 0 each.
abbrev pub invariant-loop-word : goal.invariant-loop-word
invariant-loop-word l =
    (l.self.words ++ drop l.word-index l.words ≡ l.initial.self.words ++ l.words)
    × (l.self.marks ++ map (λ _. 0) (drop l.word-index l.words) ≡ l.initial.self.marks ++ map (λ _. 0) l.words)
    × (l.self.relocations ≡ l.initial.self.relocations)
