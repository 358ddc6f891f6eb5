use Rattle.std.proofs.Common.{◌≡◌, ◌∷◌, take}
use Rattle.rt_resolve.proofs.starting.with_path.Given as goal

abbrev pub invariant-loop-number : goal.invariant-loop-number
invariant-loop-number l = l.whole ≡ l.item ∷ take l.number-index l.path
