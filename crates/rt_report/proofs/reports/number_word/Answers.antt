use Rattle.std.proofs.Common.{arith}
use Rattle.rt_report.proofs.Rooms.{word_short}
use Rattle.rt_report.proofs.reports.number_word.Goals as goal

pub returns-clause-short : goal.returns-clause-short
returns-clause-short c = omega (arith, word_short c.from.result (omega (arith, c.from.ensures, c.ranges.number.fits)))
