use Rattle.std.proofs.Common.{suc}
use Rattle.rt_match.specs.Signatures.{system_of}
use Rattle.rt_match.specs.Walking.{Noted}
use Rattle.rt_match.proofs.entries.note_all.Given as goal

-- The ENT bricks of the modules so far are noted.
abbrev pub invariant-loop-at : goal.invariant-loop-at
invariant-loop-at l = Noted (system_of l.objects) l.entries (suc l.at) 0
