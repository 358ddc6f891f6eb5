use Rattle.std.proofs.Common.{◌≡◌, length, arith}
use Rattle.rt_report.proofs.ListingLines.{puts_all}
use Rattle.rt_report.proofs.listing_code.put_code.Goals as goal

pub returns : goal.returns
returns c =
    let h = c.loop-at.invariant.within in
    let is_end : c.loop-at.at ≡ length c.args.words.now = omega (arith, h) in
    puts_all c.args.words.now c.args.marks.now c.loop-at.at c.args.out.now.items c.loop-at.out.items is_end c.loop-at.invariant
