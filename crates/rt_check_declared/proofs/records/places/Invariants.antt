use Rattle.std.proofs.Common.{◌≡◌, ◌++◌, drop, map}
use Rattle.rt_check_declared.specs.Fields.{idents}
use Rattle.rt_check_declared.proofs.records.places.Given as goal

abbrev pub invariant-loop-line : goal.invariant-loop-line
invariant-loop-line l = l.ats ++ map (λ i. i.at) (idents (drop l.line-index l.lines)) ≡ map (λ i. i.at) (idents l.lines)
