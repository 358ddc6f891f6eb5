-- Whether the parts of an object keep its ranges.
use Rattle.std.specs.Prelude.{Option, Some, None}
use Rattle.rt_object.specs.Ranges.{HasObjectRanges}
use Rattle.rt_object.specs.declared.object.ObjectParts.{ObjectParts}

-- the object of these parts, or none where they don't keep the ranges
pub data IsWithin (parts : ObjectParts) : Option ObjectParts → Type 0 where
  within : IsWithin parts (Some parts)
  beyond : (HasObjectRanges parts → ⊥) → IsWithin parts None
