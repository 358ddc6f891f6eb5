use Rattle.std.proofs.Common.{arith}
use Rattle.rt_report.proofs.Rooms.{count_room}
use Rattle.rt_report.proofs.reports.write_count.Goals as goal

pub write_line-requires : goal.write_line-requires
write_line-requires c = omega (arith, count_room c.args.word.now c.as_bytes.result.now c.args.number c.as_bytes.ensures.value c.ranges.number.fits, c.requires)

pub returns-clause-spare : goal.returns-clause-spare
returns-clause-spare c = omega (arith, count_room c.args.word.now c.as_bytes.result.now c.args.number c.as_bytes.ensures.value c.ranges.number.fits, c.write_line.ensures.spare)
