-- What the object of a tree has of each of its procedures.
use Rattle.std.specs.Prelude.{◌≡◌, ℕ, ◌-◌, true, List, length, map, Option, Some, slice_get}
use Rattle.rt_modes.specs.declared.mode.Mode.{Mode}
use Rattle.rt_tree_nodes.specs.declared.brick.Brick.{Brick}
use Rattle.rt_tree_nodes.specs.declared.brick.BrickSort.TheVariants as sort
use Rattle.rt_tree_nodes.specs.declared.brick.ModuleParts.{ModuleParts}
use Rattle.rt_tree_nodes.specs.declared.brick.ProcBody.{ProcBody}
use Rattle.rt_tree.specs.Modules.{is_here}
use Rattle.rt_tree.specs.Stored.{System, HasBrick}
use Rattle.rt_tree.specs.Within.{tree_of, parameters_of}
use Rattle.rt_system.specs.declared.parts.Task.{Task}
use Rattle.rt_image.specs.declared.image.ImageParts.{ImageParts}
use Rattle.rt_image.specs.declared.map.Map.{Map}
use Rattle.rt_object.specs.declared.object.Brick.{Brick as Compiled}
use Rattle.rt_object.specs.declared.object.Content.TheVariants as content
use Rattle.rt_object.specs.declared.object.ObjectParts.{ObjectParts}
use Rattle.rt_frames.specs.declared.frame.Frame.{Frame}
use Rattle.rt_frames.specs.Frames.{frame}
use Rattle.rt_graph.specs.Calls.{numbered, content_of}
use Rattle.rt_icode.specs.declared.ins.Ins.{Ins}
use Rattle.rt_lower.specs.Code.{code_of}
use Rattle.rt_lower.specs.Layouts.{AreLayouts}
use Rattle.rt_lower.specs.declared.layouts.Layouts.{Layouts}
use Rattle.rt_templates.specs.Expanded as expanded
use Rattle.rt_compile.specs.Objects.{procedure_of}
use Rattle.rt_link.specs.Named.{relocated_word}
use Rattle.rt_link.specs.Relocated.{patched}
use Rattle.rt_follows.specs.Whole.{Home}
use Rattle.rt_imaged.specs.Laws.{Landed}
use Rattle.rt_imaged.specs.Coded.{ProcStands}
use Rattle.rt_imaged.specs.Whole.{whole_of, layouts_at, IsSystem}

-- the intermediate code of procedure b
abbrev pub lowered : Layouts → ModuleParts → ℕ → Mode → ProcBody → List Ins
lowered l p b mode body = code_of l b (parameters_of mode) (length body.locals - parameters_of mode) (tree_of p body)

-- An own or ENT procedure of a tree has a body; its object has it with its frame and the machine's code of what lowering makes of it.
pub record ProcCompiled (ls : List Layouts) (objects : List ObjectParts) (m b : ℕ) (p : ModuleParts) (mode : Mode) (some_body : Option ProcBody) : Type 0 where
  pub body : ProcBody
  pub has_body : some_body ≡ Some body
  pub layouts : Layouts
  pub at : layouts_at ls m ≡ Some layouts
  pub right : AreLayouts p layouts
  pub object : ObjectParts
  pub of : numbered objects m ≡ Some object
  pub its : Compiled
  pub there : slice_get object.bricks b ≡ Some its
  pub its_frame : Frame
  pub framed : frame p b ≡ Some its_frame
  pub holds : content_of its.kind ≡ Some (content.Proc (procedure_of mode body.items its_frame (expanded.code_of (lowered layouts p b mode body))))

abbrev pub ProcsAreCompiled : Type 0
ProcsAreCompiled =
    (ps : System) (ls : List Layouts) (objects : List ObjectParts) (tasks : List Task) (image : ImageParts) (map : Map) → IsSystem ps ls objects tasks image map
    → (m b : ℕ) (p : ModuleParts) (d : Brick) (mode : Mode) (body : Option ProcBody) → HasBrick ps m b p d → is_here d.kind ≡ true → d.sort ≡ sort.Proc mode body → ProcCompiled ls objects m b p mode body

-- the compiler's and the linker's work together: each own or ENT procedure of the trees stands in the image as it is lowered
abbrev pub ProcsAreBuilt : Type 0
ProcsAreBuilt =
    Landed → (ps : System) (ls : List Layouts) (objects : List ObjectParts) (tasks : List Task) (image : ImageParts) (map : Map) (s : IsSystem ps ls objects tasks image map)
    → (h : Home) (m b : ℕ) (p : ModuleParts) (d : Brick) (mode : Mode) (body : Option ProcBody) → HasBrick ps m b p d → is_here d.kind ≡ true → d.sort ≡ sort.Proc mode body
    → let known = s.linked.known in
    (c : ProcCompiled ls objects m b p mode body) × (let code = expanded.code_of (lowered c.layouts p b mode c.body) in ProcStands (whole_of ps ls objects known image) h (patched (relocated_word objects known.stacks known.bindings.of m) code.relocations code.words) code.marks m b)
