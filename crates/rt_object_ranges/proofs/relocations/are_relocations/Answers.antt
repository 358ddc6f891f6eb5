use Rattle.std.proofs.Common.{arith}
use Rattle.rt_object_ranges.proofs.Each.{all_relocations, each_relocation}
use Rattle.rt_object_ranges.proofs.relocations.are_relocations.Goals as goal

pub returns : goal.returns
returns c =
    let strings = c.args.known.now.strings in
    let bricks = c.args.known.now.bricks in (
      λ e. all_relocations strings bricks c.args.step c.args.places c.args.relocations.now (omega arith) (c.places_rise.ensures.0 c.if-not-places_rise.false) (c.is_each_relocation.ensures.0 e),
      λ h. c.is_each_relocation.ensures.1 (each_relocation strings bricks c.args.step c.args.places c.args.relocations.now h),
    )
