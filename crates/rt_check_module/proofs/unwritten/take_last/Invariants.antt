use Rattle.std.proofs.Common.{reverse}
use Rattle.rt_check_module.proofs.Pendings.{Taken}
use Rattle.rt_check_module.proofs.unwritten.take_last.Given as goal

abbrev pub invariant-loop-part : goal.invariant-loop-part
invariant-loop-part l = Taken (reverse l.fn.made) l.made l._part l.parts
