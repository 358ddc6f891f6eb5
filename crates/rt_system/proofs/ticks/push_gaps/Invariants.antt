use Rattle.std.proofs.Common.{◌≡◌, ◌++◌, replicate}
use Rattle.rt_system.proofs.ticks.push_gaps.Given as goal

abbrev pub invariant-loop-turn : goal.invariant-loop-turn
invariant-loop-turn l = l.gaps ≡ l.fn.gaps ++ replicate l._turn l.gap
