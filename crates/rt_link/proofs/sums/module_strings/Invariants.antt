use Rattle.std.proofs.Common.{◌≡◌, take}
use Rattle.std.specs.List.{sum_by}
use Rattle.rt_link.specs.Room.{string_bytes}
use Rattle.rt_link.proofs.sums.module_strings.Given as goal

abbrev pub invariant-loop-string : goal.invariant-loop-string
invariant-loop-string l = l.total ≡ sum_by string_bytes (take l.string-index l.string-items)
