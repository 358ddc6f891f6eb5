use Rattle.std.proofs.Common.{◌≤◌, ◌+◌, length}
use Rattle.rt_system.proofs.SystemReads.{IsRead}
use Rattle.rt_system.proofs.system.read_system.Given as goal

abbrev pub invariant-loop-rest : goal.invariant-loop-rest
invariant-loop-rest l = record { read : IsRead l.objects l.bytes l.rest l.number l.parts; room : l.number + length l.rest ≤ length l.bytes }

abbrev pub decreases-loop-rest : goal.decreases-loop-rest
decreases-loop-rest l = length l.rest
