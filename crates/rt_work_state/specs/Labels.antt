-- Where the labels of a body lead, as the code keeps it.
use Rattle.std.specs.Prelude.{ℕ, List, Option, option_map, nat_eq}
use Rattle.indexmap.specs.IndexMap.{IndexMap, get}
use Rattle.rt_work_state.specs.declared.scene.Item.{Item as ItemNode}
use Rattle.rt_work_state.specs.Nodes.{items}
use Rattle.rt_work_state.specs.Items.{Item}

-- what is to be done from a label on
abbrev pub lead_from : {S : Type 0} → IndexMap ℕ (List ItemNode) S → ℕ → Option (List Item)
lead_from m label = option_map items (get nat_eq m label)
