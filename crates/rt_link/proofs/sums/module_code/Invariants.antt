use Rattle.std.proofs.Common.{◌≡◌, take}
use Rattle.std.specs.List.{sum_by}
use Rattle.rt_link.specs.Room.{code_bytes}
use Rattle.rt_link.proofs.sums.module_code.Given as goal

abbrev pub invariant-loop-brick : goal.invariant-loop-brick
invariant-loop-brick l = l.total ≡ sum_by code_bytes (take l.brick-index l.brick-items)
