use Rattle.std.proofs.Common.{◌≡◌, ◌+◌, ◌≤◌, length, sum, map, drop}
use Rattle.rt_icode.specs.Weights.{words_of}
use Rattle.rt_templates.specs.Expanded.{most}
use Rattle.rt_templates.specs.Lines.{after}
use Rattle.rt_templates.specs.Templates.{templates}
use Rattle.rt_templates.proofs.expansion.put_templates.Given as goal

-- The templates of what is left, behind what is written, are all.
abbrev pub invariant-loop-number : goal.invariant-loop-number
invariant-loop-number l =
    (after l.out (templates l.layout l.number (drop l.number l.code)) ≡ after l.initial.out (templates l.layout 0 l.code))
    × (length l.out.words + sum (map words_of (drop l.number l.code)) ≤ most) × (l.number ≤ length l.code)
