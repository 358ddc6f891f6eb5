use Rattle.std.proofs.Common.{◌≡◌, suc, List, Some, take}
use Rattle.rt_match.specs.Matching.{Signature, module_of, IsUnsupplied, IsBound, Correspond}
use Rattle.rt_match.specs.Signatures.{system_of}
use Rattle.rt_match.specs.Walking.{Clear}
use Rattle.rt_match.proofs.bind.bind_module.Given as goal

-- The bricks so far are bound, and none isn't supplied.
abbrev pub invariant-loop-number : goal.invariant-loop-number
invariant-loop-number l = record {
  bound : (ss : List Signature) → module_of (system_of l.objects) (suc l.at) ≡ Some ss → Correspond (IsBound (system_of l.objects)) (take l.number ss) l.bound;
  clear : Clear (system_of l.objects) (IsUnsupplied (system_of l.objects)) (suc l.at) l.number;
}
