-- The values that the code of a procedure holds are those that its frame counts.
use Rattle.std.specs.Prelude.{◌≡◌, ℕ, ◌≤◌, true, List, map, Some, slice_get}
use Rattle.std.specs.List.{AllByRecursion}
use Rattle.rt_tree_nodes.specs.declared.brick.Brick.{Brick}
use Rattle.rt_tree_nodes.specs.declared.brick.ModuleParts.{ModuleParts}
use Rattle.rt_tree_nodes.specs.Tree.{Seq}
use Rattle.rt_tree.specs.Modules.{every_node_fits}
use Rattle.rt_frames.specs.declared.frame.Frame.{Frame}
use Rattle.rt_frames.specs.Frames as frames
use Rattle.rt_frames_laws.specs.Laws.{plain_tree}
use Rattle.rt_icode.specs.declared.ins.Ins.{Ins}
use Rattle.rt_icode.specs.declared.procedure.IProc.{IProc}
use Rattle.rt_icode.specs.declared.procedure.IModule.{IModule}
use Rattle.rt_lower.specs.declared.layouts.Layouts.{Layouts}
use Rattle.rt_lower.specs.Code.{IsIntermediate, code_of}
use Rattle.rt_lower_frames_laws.specs.Heights.{heights, Holds, points_of, told}

-- the values held by whichever way, the points with those that wait below them, and the greatest number
pub record IsFramed (code : List Ins) (f : Frame) : Type 0 where
  pub held : Holds code (heights 0 code)
  pub points : points_of code (heights 0 code) ≡ map told f.calls
  pub deep : AllByRecursion (λ h. h ≤ f.deep) (heights 0 code)

-- So it is for each own or ENT procedure, where every node of its module fits.
abbrev pub ValuesAreThoseOfFrames : Type 0
ValuesAreThoseOfFrames = (l : Layouts) (p : ModuleParts) (b parameters locals : ℕ) (f : Frame) (q : Seq) → every_node_fits p ≡ true → frames.frame p b ≡ Some f → plain_tree p b ≡ Some q → IsFramed (code_of l b parameters locals q) f

-- The code of a procedure of a module is that of the brick with its name, and measured by that brick's frame.
pub record IsMeasured (p : ModuleParts) (c : IProc) : Type 0 where
  pub number : ℕ
  pub brick : Brick
  pub frame : Frame
  pub at : slice_get p.bricks number ≡ Some brick
  pub named : c.name ≡ brick.name
  pub counted : frames.frame p number ≡ Some frame
  pub framed : IsFramed c.code frame

-- So it is for each procedure of the intermediate code of a module.
abbrev pub IntermediateCodeIsMeasured : Type 0
IntermediateCodeIsMeasured = (p : ModuleParts) (m : IModule) → every_node_fits p ≡ true → IsIntermediate p m → AllByRecursion (IsMeasured p) m.procs
