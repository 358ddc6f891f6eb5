use Rattle.std.proofs.Common.{◌≡◌, ◌++◌, drop}
use Rattle.rt_resolve.specs.Bindings.{bounds_from}
use Rattle.rt_resolve.proofs.bindings.bounds.Given as goal

abbrev pub invariant-loop-at : goal.invariant-loop-at
invariant-loop-at l = l.all ++ bounds_from l.modules l.number l.at (drop l.at l.bricks) ≡ bounds_from l.modules l.number 0 l.bricks
