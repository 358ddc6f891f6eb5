-- Where fixed places lie, by the records of the module that names them.
use Rattle.std.specs.Prelude.{◌≡◌, ℕ, ◌+◌, true, List, Some, slice_get}
use Rattle.rt_modes.specs.declared.mode.Field.{Field}
use Rattle.rt_modes.specs.declared.mode.Mode.{Mode}
use Rattle.rt_modes.specs.declared.mode.ModeTable.{ModeTable}
use Rattle.rt_tree_nodes.specs.declared.brick.Brick.{Brick}
use Rattle.rt_tree_nodes.specs.declared.brick.BrickSort.TheVariants as sort
use Rattle.rt_tree_nodes.specs.declared.brick.DataStart.{DataStart}
use Rattle.rt_tree_nodes.specs.declared.brick.ModuleParts.{ModuleParts}
use Rattle.rt_tree_nodes.specs.declared.store.Origin.TheVariants.{Brick as AtBrick}
use Rattle.rt_tree_nodes.specs.Scopes.{Face, faces, fields_of}
use Rattle.rt_tree.specs.Modules.{is_here}
use Rattle.rt_tree.specs.Opened.{IsTable}
use Rattle.rt_tree.specs.Stored.{System, HasBrick, module_of, brick}
use Rattle.rt_sizes_laws.specs.Laws.{LieAlike}
use Rattle.rt_resolve.specs.Systems.{world}
use Rattle.rt_icode.specs.declared.ins.Fixed.{Fixed}
use Rattle.rt_icode_meaning.specs.Move.{place_of}
use Rattle.rt_icode_meaning.specs.Typed.{IsFixed}
use Rattle.rt_meaning_laws.specs.Levels.{IsTableOf}
use Rattle.rt_compile.specs.DataLaws.{BytesAreCounted}
use Rattle.rt_object.specs.declared.object.ObjectParts.{ObjectParts}
use Rattle.rt_system.specs.declared.parts.Task.{Task}
use Rattle.rt_image.specs.declared.image.ImageParts.{ImageParts}
use Rattle.rt_image.specs.declared.map.Map.{Map}
use Rattle.rt_lower.specs.declared.layouts.Layouts.{Layouts}
use Rattle.rt_follows.specs.Whole.{Whole, meaning}
use Rattle.rt_imaged.specs.Whole.{whole_of, IsSystem}
use Rattle.rt_imaged.specs.Trees.{TreesAre}

-- The items of a data brick as a module has them, and those of the brick to which it leads, lie alike: the brick is its own, or it is EXT and
-- the modules match (rt_meaning_laws, FullDataTell; rt_sizes_laws, fields_lie_alike).
abbrev pub FacesAlike : System → Type 0
FacesAlike ps = (m b n c : ℕ) (p q : ModuleParts) (face : Face) (fields gs : List Field) (d : Brick) (ss : List DataStart) → module_of ps m ≡ Some p → slice_get (faces p.bricks) b ≡ Some face → fields_of face ≡ Some fields
    → ((world ps).env m).leads b ≡ brick n c → HasBrick ps n c q d → is_here d.kind ≡ true → d.sort ≡ sort.Data gs ss → LieAlike p.modes q.modes fields gs

-- the field `fixed` of Lays
abbrev pub FixedLie : Whole → Type 0
FixedLie w = (m : ℕ) (p : ModuleParts) (f : Fixed) (v : Mode) → module_of w.ps m ≡ Some p → IsFixed w.ps p ((meaning w).env m) f v
    → w.address (place_of ((meaning w).env m) f) ≡ w.base (AtBrick (((meaning w).env m).leads f.brick).module (((meaning w).env m).leads f.brick).brick) + f.offset

abbrev pub FixedAreLaid : Type 0
FixedAreLaid =
    BytesAreCounted → (ps : System) (ls : List Layouts) (objects : List ObjectParts) (tasks : List Task) (image : ImageParts) (map : Map) (s : IsSystem ps ls objects tasks image map) → TreesAre ps → ((t : ModeTable) → IsTableOf ps t → IsTable t) → FacesAlike ps
    → FixedLie (whole_of ps ls objects s.linked.known image)
