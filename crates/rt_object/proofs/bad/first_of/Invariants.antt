use Rattle.rt_object.proofs.Decided.{NoneBad}
use Rattle.rt_object.proofs.bad.first_of.Given as goal

-- No record before this one is bad.
abbrev pub invariant-loop-number : goal.invariant-loop-number
invariant-loop-number l = NoneBad l.records l.number
