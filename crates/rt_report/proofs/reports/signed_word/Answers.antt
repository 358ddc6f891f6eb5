use Rattle.std.proofs.Common.{◌-◌, arith}
use Rattle.rt_report.proofs.Rooms.{word_short}
use Rattle.rt_report.proofs.reports.signed_word.Goals as goal

pub returns-then-number-lt32768-clause-short : goal.returns-then-number-lt32768-clause-short
returns-then-number-lt32768-clause-short c = omega (arith, word_short c.from.result (omega (arith, c.from.ensures, c.ranges.number.fits)))

pub returns-else-number-lt32768-clause-short : goal.returns-else-number-lt32768-clause-short
returns-else-number-lt32768-clause-short c =
    let short = word_short (65536 - c.from-else-number-lt32768.result) (omega (arith, c.from-else-number-lt32768.ensures, c.if-number-lt32768.false)) in
    omega (arith, short)
