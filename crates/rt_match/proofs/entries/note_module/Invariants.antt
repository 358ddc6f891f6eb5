use Rattle.std.proofs.Common.{suc}
use Rattle.rt_match.specs.Signatures.{system_of}
use Rattle.rt_match.specs.Walking.{Noted}
use Rattle.rt_match.proofs.entries.note_module.Given as goal

-- The ENT bricks so far are noted.
abbrev pub invariant-loop-number : goal.invariant-loop-number
invariant-loop-number l = Noted (system_of l.objects) l.entries (suc l.at) l.number
