use Rattle.std.proofs.Common.{◌≡◌, length, take, map}
use Rattle.rt_pieces.specs.Bytes.{upper}
use Rattle.rt_system.proofs.fields.upper_case.Given as goal

abbrev pub invariant-loop-i : goal.invariant-loop-i
invariant-loop-i l = record { all : length l.upper_case ≡ 32; front : take l.i l.upper_case ≡ map upper (take l.i l.text) }
