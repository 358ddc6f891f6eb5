use Rattle.std.proofs.Common.{map, take}
use Rattle.rt_object_ranges.proofs.Rising.{RiseTo}
use Rattle.rt_object_ranges.proofs.relocations.places_rise.Given as goal

abbrev pub invariant-loop-relocation : goal.invariant-loop-relocation
invariant-loop-relocation l = RiseTo (take l.relocation-index (map (λ r. r.place) l.relocations)) l.least
