use Rattle.std.proofs.Common.{take}
use Rattle.std.specs.List.{AllByRecursion}
use Rattle.rt_object.specs.Ranges.{HasObjectRanges}
use Rattle.rt_top.proofs.accepting.objects_are_in_range.Given as goal

abbrev pub invariant-loop-object : goal.invariant-loop-object
invariant-loop-object l = AllByRecursion HasObjectRanges (take l.object-index l.objects)
