use Rattle.std.proofs.Common.{◌≡◌, take}
use Rattle.std.specs.List.{sum_by}
use Rattle.rt_link.specs.Room.{data_bytes}
use Rattle.rt_link.proofs.sums.module_data.Given as goal

abbrev pub invariant-loop-brick : goal.invariant-loop-brick
invariant-loop-brick l = l.total ≡ sum_by data_bytes (take l.brick-index l.brick-items)
