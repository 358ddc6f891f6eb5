use Rattle.std.proofs.Common.{arith}
use Rattle.rt_object_ranges.specs.Parts.{HasRelocationRanges}
use Rattle.rt_object_ranges.proofs.Whole.{each_next}
use Rattle.rt_object_ranges.proofs.relocations.is_each_relocation.Goals as goal

pub loop-relocation-preserved : goal.loop-relocation-preserved
loop-relocation-preserved c = each_next (HasRelocationRanges c.args.known.now.strings c.args.known.now.bricks c.args.step c.args.places) c.args.relocations.now c.loop-relocation.relocation-index _ (omega arith)
    (c.is_relocation.ensures.0 c.if-not-is_relocation.false) c.loop-relocation.invariant
