use Rattle.std.proofs.Common.{◌≡◌, take, min}
use Rattle.rt_pieces.specs.Bytes.{number_of}
use Rattle.rt_pieces.proofs.number.value_of.Given as goal

abbrev pub invariant-loop-b : goal.invariant-loop-b
invariant-loop-b l = l.value ≡ min (number_of l.base (take l.b-index l.text)) 65536
