use Rattle.std.proofs.Common.{◌≡◌, ◌++◌, drop, map}
use Rattle.rt_check_declared.proofs.records.add_places.Given as goal

abbrev pub invariant-loop-name : goal.invariant-loop-name
invariant-loop-name l = l.ats ++ map (λ i. i.at) (drop l.name-index l.names) ≡ l.initial.ats ++ map (λ i. i.at) l.names
