-- Laws of frames.
use Rattle.std.specs.Prelude.{◌≡◌, ℕ, true, Option, Some, None, option_map, slice_get}
use Rattle.rt_tree_nodes.specs.declared.brick.BrickSort.{BrickSort}
use Rattle.rt_tree_nodes.specs.declared.brick.BrickSort.TheVariants as sort
use Rattle.rt_tree_nodes.specs.declared.brick.ModuleParts.{ModuleParts}
use Rattle.rt_tree_nodes.specs.Scopes.{with}
use Rattle.rt_tree_nodes.specs.Tree.{Seq}
use Rattle.rt_tree.specs.Depth.{sequence_depth}
use Rattle.rt_tree.specs.Modules.{every_node_fits}
use Rattle.rt_tree.specs.Within.{tree_of}
use Rattle.rt_frames.specs.declared.frame.Frame.{Frame}
use Rattle.rt_frames.specs.Frames.{frame}
use Rattle.rt_frames_laws.specs.Plain.{sequence_points}

abbrev pub tree_in : ModuleParts → BrickSort → Option Seq
tree_in p (sort.Proc m body) = option_map (tree_of p) body
tree_in p _ = None

-- the plain tree of brick b, where it is an own or ENT procedure
abbrev pub plain_tree : ModuleParts → ℕ → Option Seq
plain_tree p b = with (slice_get p.bricks b) (λ d. tree_in p d.sort)

-- the points and the greatest depth of a frame are those of the plain tree
pub record IsPlain (f : Frame) (q : Seq) : Type 0 where
  pub calls : f.calls ≡ sequence_points q
  pub deep : f.deep ≡ sequence_depth q

-- So it is for each own or ENT procedure, where every node of its module fits.
abbrev pub PointsArePlain : Type 0
PointsArePlain = (p : ModuleParts) (b : ℕ) (f : Frame) (q : Seq) → every_node_fits p ≡ true → frame p b ≡ Some f → plain_tree p b ≡ Some q → IsPlain f q
