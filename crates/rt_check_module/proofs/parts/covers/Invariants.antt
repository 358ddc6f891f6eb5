use Rattle.std.proofs.Common.{◌≡◌, drop, map}
use Rattle.rt_check_module.specs.Starts as spec
use Rattle.rt_check_module.proofs.parts.covers.Given as goal

abbrev pub invariant-loop-part : goal.invariant-loop-part
invariant-loop-part l = spec.covers l.left (map spec.copies (drop l.part-index l.parts)) ≡ spec.covers l.fn.count (map spec.copies l.parts)
