use Rattle.std.proofs.Common.{◌≡◌, take}
use Rattle.rt_meaning.specs.Conditions.{conditions_of}
use Rattle.rt_meaning.proofs.kept.conditions_now.Given as goal

abbrev pub invariant-loop-row : goal.invariant-loop-row
invariant-loop-row l = l.ends ≡ conditions_of (take l.row-index l.rows)
