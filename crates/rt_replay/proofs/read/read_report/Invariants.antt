use Rattle.std.proofs.Common.{◌≤◌, ◌+◌, length}
use Rattle.rt_replay.proofs.ReportReads.{IsRead}
use Rattle.rt_replay.proofs.read.read_report.Given as goal

abbrev pub invariant-loop-rest : goal.invariant-loop-rest
invariant-loop-rest l = record { read : IsRead l.bytes l.rest l.number l.draft; room : l.number + length l.rest ≤ length l.bytes }

abbrev pub decreases-loop-rest : goal.decreases-loop-rest
decreases-loop-rest l = length l.rest
