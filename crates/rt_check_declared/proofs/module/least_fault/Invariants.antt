use Rattle.std.proofs.Common.{◌≡◌, None, drop}
use Rattle.rt_check_declared.specs.Heads.{all_noted}
use Rattle.rt_check_declared.proofs.module.least_fault.Given as goal

abbrev pub invariant-loop-fault : goal.invariant-loop-fault
invariant-loop-fault l = all_noted l.least (drop l.fault-index l.faults) ≡ all_noted None l.faults
