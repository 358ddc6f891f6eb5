use Rattle.std.proofs.Common.{◌≡◌, map, take}
use Rattle.rt_resolve.specs.Starting as starting
use Rattle.rt_resolve.proofs.starting.texts_contents.Given as goal

abbrev pub invariant-loop-bytes : goal.invariant-loop-bytes
invariant-loop-bytes l = l.made ≡ map starting.text_contents (take l.bytes-index l.strings)
