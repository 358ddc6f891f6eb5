use Rattle.std.proofs.Common.{◌≡◌, None, drop}
use Rattle.rt_check_declared.specs.Verdicts.{with_faults}
use Rattle.rt_check_bodies.proofs.faults.first_of.Given as goal

abbrev pub invariant-loop-fault : goal.invariant-loop-fault
invariant-loop-fault l = with_faults l.first (drop l.fault-index l.faults) ≡ with_faults None l.faults
