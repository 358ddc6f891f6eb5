use Rattle.std.proofs.Common.{◌≡◌, map, take}
use Rattle.rt_resolve.specs.Starting as starting
use Rattle.rt_resolve.proofs.starting.text_contents.Given as goal

abbrev pub invariant-loop-byte : goal.invariant-loop-byte
invariant-loop-byte l = l.made ≡ map starting.byte_contents (take l.byte-index l.bytes)
