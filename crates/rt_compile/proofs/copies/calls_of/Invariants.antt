use Rattle.std.proofs.Common.{◌≡◌, ◌++◌, map}
use Rattle.rt_compile.specs.Objects.{call_of}
use Rattle.rt_compile.proofs.copies.calls_of.Given as goal

abbrev pub invariant-loop-point : goal.invariant-loop-point
invariant-loop-point l = l.calls ++ map call_of l.point-iterator.rest.items ≡ map call_of l.fn.points
