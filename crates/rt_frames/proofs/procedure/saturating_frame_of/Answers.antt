use Rattle.std.proofs.Common.{ℕ, List, slice_get, ap, ◌∙◌}
use Rattle.rt_tree_nodes.specs.declared.brick.Brick.{Brick}
use Rattle.rt_frames.proofs.Framed.{frame_here}
use Rattle.rt_frames.proofs.procedure.saturating_frame_of.Goals as goal

pub returns : goal.returns
returns c =
    frame_here c.args.«module».now c.args.brick c.in-Some.found.now c.in-Proc.mode c.in-Proc.body c.in_ok-frame-in-Proc.frame
    (c.in-Some.ensures.value ∙ ap (λ (bs : List Brick). slice_get bs c.from.result) c.bricks.ensures ∙ ap (λ (k : ℕ). slice_get c.args.«module».now.bricks k) c.from.ensures) c.in-Proc.is c.in_ok-frame-in-Proc.ensures
