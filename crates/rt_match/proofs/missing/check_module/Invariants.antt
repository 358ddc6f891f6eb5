use Rattle.std.proofs.Common.{suc}
use Rattle.rt_match.specs.Matching.{Lacks}
use Rattle.rt_match.specs.Signatures.{system_of}
use Rattle.rt_match.specs.Walking.{Clear}
use Rattle.rt_match.proofs.missing.check_module.Given as goal

-- No brick so far is a case.
abbrev pub invariant-loop-number : goal.invariant-loop-number
invariant-loop-number l = Clear (system_of l.objects) (Lacks (system_of l.objects)) (suc l.at) l.number
