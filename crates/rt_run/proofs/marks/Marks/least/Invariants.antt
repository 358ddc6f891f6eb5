use Rattle.std.proofs.Common.{◌≡◌, ℕ, ◌*◌, ◌<◌}
use Rattle.rt_run.specs.Marks.{mark_of}
use Rattle.rt_run.proofs.marks.Marks.least.Given as goal

-- no priority of the words before is marked
abbrev pub invariant-loop-at : goal.invariant-loop-at
invariant-loop-at l = (q : ℕ) → q < l.at * 64 → mark_of l.self.words q ≡ 0
