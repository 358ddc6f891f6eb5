use Rattle.std.proofs.Common.{◌≡◌, ◌+◌, ◌*◌, ◌≤◌, ◌++◌, sum, map, drop}
use Rattle.rt_icode.specs.Weights.{words_of}
use Rattle.rt_templates.specs.Layouts.{starts}
use Rattle.rt_templates.proofs.layout.starts_of.Given as goal

-- The starts so far, and those of what is left from here on, are all.
abbrev pub invariant-loop-i : goal.invariant-loop-i
invariant-loop-i l = (l.starts ++ starts l.at (drop l.i-index l.code) ≡ starts 0 l.code) × (l.at + 2 * sum (map words_of (drop l.i-index l.code)) ≤ 65535)
