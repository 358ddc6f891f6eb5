use Rattle.std.proofs.Common.{◌≡◌, ◌+◌, ◌≤◌, sum, map, drop}
use Rattle.rt_icode.specs.Weights.{words_of}
use Rattle.rt_templates.specs.Expanded.{most}
use Rattle.rt_templates.proofs.expansion.is_too_long.Given as goal

-- The size so far and that of what is left are the whole.
abbrev pub invariant-loop-i : goal.invariant-loop-i
invariant-loop-i l = (l.size + sum (map words_of (drop l.i-index l.code)) ≡ sum (map words_of l.code)) × (l.size ≤ most)
