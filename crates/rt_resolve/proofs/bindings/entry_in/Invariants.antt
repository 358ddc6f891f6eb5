use Rattle.std.proofs.Common.{◌≡◌, drop}
use Rattle.rt_resolve.specs.Bindings.{entry_from}
use Rattle.rt_resolve.proofs.bindings.entry_in.Given as goal

abbrev pub invariant-loop-at : goal.invariant-loop-at
invariant-loop-at l = entry_from l.name l.number l.at (drop l.at l.bricks) ≡ entry_from l.name l.number 0 l.bricks
