use Rattle.std.proofs.Common.{◌≡◌, ◌+◌, ◌≤◌, length, drop}
use Rattle.rt_templates.specs.Expanded.{most}
use Rattle.rt_templates.specs.Lines.{after, words, AreCodable}
use Rattle.rt_templates.proofs.code.ProcCode.put.Given as goal

-- The lines that are left, behind what is written, are all lines behind what was there.
abbrev pub invariant-loop-line : goal.invariant-loop-line
invariant-loop-line l =
    (after l.self (drop l.line-index l.lines) ≡ after l.initial.self l.lines)
    × (length l.self.words + length (words (drop l.line-index l.lines)) ≤ most)
    × AreCodable (drop l.line-index l.lines)
