use Rattle.std.proofs.Common.{suc, take}
use Rattle.rt_match.specs.Matching.{IsUnsupplied, IsBound, Correspond}
use Rattle.rt_match.specs.Signatures.{system_of}
use Rattle.rt_match.specs.Walking.{Clear}
use Rattle.rt_match.proofs.bind.bind_all.Given as goal

-- The bricks of the modules so far are bound, and none isn't supplied.
abbrev pub invariant-loop-at : goal.invariant-loop-at
invariant-loop-at l = record {
  bound : Correspond (Correspond (IsBound (system_of l.objects))) (take l.at (system_of l.objects)) l.of;
  clear : Clear (system_of l.objects) (IsUnsupplied (system_of l.objects)) (suc l.at) 0;
}
