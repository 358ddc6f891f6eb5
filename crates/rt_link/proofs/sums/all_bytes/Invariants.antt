use Rattle.std.proofs.Common.{◌≡◌, ◌*◌, ◌≤◌, take}
use Rattle.std.specs.List.{sum_by}
use Rattle.rt_link.specs.Room.{module_bytes}
use Rattle.rt_link.proofs.sums.all_bytes.Given as goal

abbrev pub invariant-loop-object : goal.invariant-loop-object
invariant-loop-object l = record { sum : l.total ≡ sum_by module_bytes (take l.object-index l.objects); small : l.total ≤ 7516078080 * l.object-index }
