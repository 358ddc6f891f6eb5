use Rattle.rt_frames.proofs.Framed.{each_kept}
use Rattle.rt_frames.proofs.procedure.frame_of.Goals as goal

pub returns : goal.returns
returns c =
    each_kept c.numbers_are_small.ensures c.args.«module».now c.args.brick c.saturating_frame_of.result c.parts-fitting.ensures.fits c.requires.within c.saturating_frame_of.ensures
