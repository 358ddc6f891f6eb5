use Rattle.std.proofs.Common.{subst}
use Rattle.rt_object.specs.Grammar.{is_rrerr}
use Rattle.rt_object.specs.Ranges.{HaveOutsideRanges}
use Rattle.rt_object_ranges.specs.Parts.{MayBe}
use Rattle.rt_object_ranges.proofs.Whole.{IsInRrerr, Tells, rrerr_back, rrerr_is, tells_outside}
use Rattle.rt_object_ranges.proofs.bricks.is_supplied.Goals as goal

pub returns-in-Data : goal.returns-in-Data
returns-in-Data c =
    let records = c.args.known.now.records.now in
    let strings = c.args.known.now.strings in
    let bricks = c.args.known.now.bricks in
    let name = c.args.name.now in
    let given = subst (λ fs. Tells c.are_outside.result (HaveOutsideRanges records strings bricks (MayBe c.is_rrerr.result) fs)) c.as_slice.ensures c.are_outside.ensures in
    let told = subst (λ b. Tells c.are_outside.result (HaveOutsideRanges records strings bricks (MayBe b) c.in-Data.fields)) c.is_rrerr.ensures given in
    rw c.in-Data.is (tells_outside c.are_outside.result records strings bricks (MayBe (is_rrerr name)) (IsInRrerr name) c.in-Data.fields (rrerr_is name) (rrerr_back name) told)
