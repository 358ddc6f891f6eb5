use Rattle.std.proofs.Common.{ℕ, ◌<◌, get_or}
use Rattle.rt_object.specs.declared.object.Relocation.{Relocation}
use Rattle.rt_object_ranges.specs.Parts.{HasRelocationRanges}
use Rattle.rt_object_ranges.proofs.relocations.is_each_relocation.Given as goal

abbrev pub invariant-loop-relocation : goal.invariant-loop-relocation
invariant-loop-relocation l = (k : ℕ) (d : Relocation) → k < l.relocation-index → HasRelocationRanges l.known.strings l.known.bricks l.step l.places (get_or l.relocations k d)
