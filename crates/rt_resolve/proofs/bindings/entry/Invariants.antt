use Rattle.std.proofs.Common.{◌≡◌, suc, drop}
use Rattle.rt_resolve.specs.Bindings.{entry}
use Rattle.rt_resolve.proofs.bindings.entry.Given as goal

abbrev pub invariant-loop-at : goal.invariant-loop-at
invariant-loop-at l = entry l.name (suc l.at) (drop l.at l.modules) ≡ entry l.name 1 l.modules
