-- The frame of an own or ENT procedure of a module: its parameters, its locals, its greatest depth and its points.
use Rattle.std.specs.Prelude.{ℕ, ◌+◌, ◌-◌, Bool, if◌then◌else◌, Option, Some, None, slice_get}
use Rattle.rt_modes.specs.declared.mode.Mode.{Mode}
use Rattle.rt_tree_nodes.specs.declared.brick.BrickSort.{BrickSort}
use Rattle.rt_tree_nodes.specs.declared.brick.BrickSort.TheVariants as sort
use Rattle.rt_tree_nodes.specs.declared.brick.ModuleParts.{ModuleParts}
use Rattle.rt_tree_nodes.specs.declared.brick.ProcBody.{ProcBody}
use Rattle.rt_tree.specs.Depth.{sequence_depth, local_words}
use Rattle.rt_tree_nodes.specs.Scopes.{scope_of, with_locals}
use Rattle.rt_tree_nodes.specs.Scopes.{with}
use Rattle.rt_tree.specs.Within.{tree_of, parameters_of}
use Rattle.rt_frames.specs.declared.frame.Frame.{Frame}
use Rattle.rt_frames.specs.Points.{body_points}

-- one word for each local behind the parameters, and four where it recovers
abbrev pub words_of : ℕ → ℕ → Bool → ℕ
words_of parameters locals recovers = (locals - parameters) + (if recovers then 4 else 0)

abbrev pub body_frame : ModuleParts → ℕ → ProcBody → Frame
body_frame p count b = record {
  params = count;
  locals = local_words count b (tree_of p b);
  deep = sequence_depth (tree_of p b);
  calls = body_points (with_locals (scope_of p) b.locals) b.body;
}

abbrev pub frame_by : ModuleParts → Mode → Option ProcBody → Option Frame
frame_by p m None = None
frame_by p m (Some b) = Some (body_frame p (parameters_of m) b)

abbrev pub frame_in : ModuleParts → BrickSort → Option Frame
frame_in p (sort.Proc m body) = frame_by p m body
frame_in p _ = None

-- the frame of brick b, where it is an own or ENT procedure
abbrev pub frame : ModuleParts → ℕ → Option Frame
frame p b = with (slice_get p.bricks b) (λ d. frame_in p d.sort)
