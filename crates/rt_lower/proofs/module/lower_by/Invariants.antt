use Rattle.std.proofs.Common.{◌≡◌, ◌++◌, drop}
use Rattle.rt_lower.specs.Code as code
use Rattle.rt_lower.proofs.module.lower_by.Given as goal

abbrev pub invariant-loop-number : goal.invariant-loop-number
invariant-loop-number l = l.procs ++ code.procedures l.layouts l.module l.number (drop l.number l.module.bricks) ≡ code.procedures l.layouts l.module 0 l.module.bricks
