-- All that Lays asks (with the tables of fields, elements and rows known), of the whole of an accepted system.
use Rattle.std.specs.Prelude.{◌≡◌, ℕ, ◌%◌, ◌<◌, ◌≤◌, List, length, Some}
use Rattle.rt_modes.specs.declared.mode.ModeTable.{ModeTable}
use Rattle.rt_tree_nodes.specs.declared.store.Proc.{Proc}
use Rattle.rt_tree.specs.Opened.{IsTable}
use Rattle.rt_tree.specs.Stored.{System}
use Rattle.rt_object.specs.declared.object.Content.TheVariants as content
use Rattle.rt_object.specs.declared.object.ObjectParts.{ObjectParts}
use Rattle.rt_object.specs.declared.object.ProcContent.{ProcContent}
use Rattle.rt_system.specs.declared.parts.Task.{Task}
use Rattle.rt_image.specs.declared.image.ImageParts.{ImageParts}
use Rattle.rt_image.specs.declared.map.Map.{Map}
use Rattle.rt_lower.specs.declared.layouts.Layouts.{Layouts}
use Rattle.rt_meaning_laws.specs.Grounds.{Sound}
use Rattle.rt_meaning_laws.specs.Levels.{IsTableOf}
use Rattle.rt_compile.specs.DataLaws.{BytesAreCounted}
use Rattle.rt_link.specs.Room.{held}
use Rattle.rt_laid.specs.Laid.{PlacesLie}
use Rattle.rt_follows.specs.Whole.{Whole}
use Rattle.rt_imaged.specs.Whole.{whole_of, IsSystem}
use Rattle.rt_imaged.specs.Trees.{TreesAre}
use Rattle.rt_imaged.specs.Fixed.{FacesAlike, FixedLie}

pub record LaysAll (w : Whole) : Type 0 where
  pub order : w.code_end ≤ w.data_end
  pub top : w.data_end ≤ 57344
  pub room : 144 ≤ w.bound
  pub even_code : w.code_end % 2 ≡ 0
  pub places : PlacesLie w
  pub fixed : FixedLie w
  pub entries : (f : Proc) → w.entry f < w.code_end
  pub supports : (n : ℕ) → w.support n < w.code_end
  pub least : (live : ℕ) (f : Proc) → 1 ≤ w.needs live f

-- each procedure of the objects has a word of code
abbrev pub HaveWords : List ObjectParts → Type 0
HaveWords objects = (f : Proc) (p : ProcContent) → held objects f ≡ Some (content.Proc p) → 1 ≤ length p.words

abbrev pub SystemsAreLaid : Type 0
SystemsAreLaid =
    BytesAreCounted → (ps : System) (ls : List Layouts) (objects : List ObjectParts) (tasks : List Task) (image : ImageParts) (map : Map) (s : IsSystem ps ls objects tasks image map) → TreesAre ps → Sound ps → ((t : ModeTable) → IsTableOf ps t → IsTable t) → FacesAlike ps → HaveWords objects
    → LaysAll (whole_of ps ls objects s.linked.known image)
