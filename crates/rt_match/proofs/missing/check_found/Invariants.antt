use Rattle.std.proofs.Common.{suc}
use Rattle.rt_match.specs.Matching.{Lacks}
use Rattle.rt_match.specs.Signatures.{system_of}
use Rattle.rt_match.specs.Walking.{Clear}
use Rattle.rt_match.proofs.missing.check_found.Given as goal

-- No brick of the modules so far is a case.
abbrev pub invariant-loop-at : goal.invariant-loop-at
invariant-loop-at l = Clear (system_of l.objects) (Lacks (system_of l.objects)) (suc l.at) 0
