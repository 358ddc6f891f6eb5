use Rattle.std.proofs.Common.{◌≡◌, length, take}
use Rattle.rt_meaning.specs.Conditions.{conditions_of}
use Rattle.rt_meaning.proofs.kept.renew.Given as goal

abbrev pub invariant-loop-at : goal.invariant-loop-at
invariant-loop-at l = (length l.ends ≡ length l.rows) × (take l.at l.ends ≡ take l.at (conditions_of l.rows))
