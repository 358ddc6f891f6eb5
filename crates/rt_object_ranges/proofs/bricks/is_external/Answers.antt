use Rattle.std.proofs.Common.{false, subst}
use Rattle.rt_object.specs.Ranges.{HaveOutsideRanges, IsNoLabel}
use Rattle.rt_object_ranges.specs.Parts.{MayBe}
use Rattle.rt_object_ranges.proofs.Each.{no_labels, not_labels}
use Rattle.rt_object_ranges.proofs.Whole.{Tells, tells_outside}
use Rattle.rt_object_ranges.proofs.bricks.is_external.Goals as goal

pub returns-in-Data : goal.returns-in-Data
returns-in-Data c =
    let records = c.args.known.now.records.now in
    let strings = c.args.known.now.strings in
    let bricks = c.args.known.now.bricks in
    let told = subst (λ fs. Tells c.are_outside.result (HaveOutsideRanges records strings bricks (MayBe false) fs)) c.as_slice.ensures c.are_outside.ensures in
    rw c.in-Data.is (tells_outside c.are_outside.result records strings bricks (MayBe false) IsNoLabel c.in-Data.fields no_labels not_labels told)
