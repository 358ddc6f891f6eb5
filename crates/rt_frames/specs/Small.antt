-- Frames whose numbers have 16 bits: those of the procedures of a module that is within what a procedure may take.
use Rattle.std.specs.Prelude.{◌≡◌, ℕ, ◌<◌, true, Some}
use Rattle.std.specs.List.{AllByRecursion}
use Rattle.rt_tree_nodes.specs.declared.brick.ModuleParts.{ModuleParts}
use Rattle.rt_tree.specs.Modules.{every_node_fits}
use Rattle.rt_tree.specs.Within.{Within}
use Rattle.rt_frames.specs.declared.frame.CallPoint.{CallPoint}
use Rattle.rt_frames.specs.declared.frame.Frame.{Frame}
use Rattle.rt_frames.specs.Frames.{frame}

pub record IsSmallPoint (p : CallPoint) : Type 0 where
  pub depth : p.depth < 65536
  pub args : p.args < 65536

pub record IsSmall (f : Frame) : Type 0 where
  pub params : f.params < 65536
  pub locals : f.locals < 65536
  pub deep : f.deep < 65536
  pub calls : AllByRecursion IsSmallPoint f.calls

-- The numbers of the frame of an own or ENT procedure are small, where every node of its module fits and the module is
-- within.
abbrev pub NumbersAreSmall : Type 0
NumbersAreSmall = (p : ModuleParts) (b : ℕ) (f : Frame) → every_node_fits p ≡ true → Within p → frame p b ≡ Some f → IsSmall f
