use Rattle.std.proofs.Common.{ℕ, ◌<◌, get_or}
use Rattle.rt_object.specs.Ranges.{HasObjectRanges}
use Rattle.rt_object.specs.declared.object.ObjectParts.{ObjectParts}
use Rattle.rt_link.proofs.whole.objects_are_in_range.Given as goal

abbrev pub invariant-loop-object : goal.invariant-loop-object
invariant-loop-object l = (k : ℕ) (d : ObjectParts) → k < l.object-index → HasObjectRanges (get_or l.objects k d)
