use Rattle.std.proofs.Common.{◌+◌}
use Rattle.rt_items.specs.Table.{lets_of}
use Rattle.rt_pieces.proofs.Fronts.{tail_is}
use Rattle.rt_items.proofs.Strings.{insert_ends, insert_stops, insert_goes}
use Rattle.rt_items.proofs.texts.one_insert.Goals as goal

pub returns-then-len-bytes : goal.returns-then-len-bytes
returns-then-len-bytes c =
    insert_ends (lets_of c.args.table.now) c.args.line c.args.closed c.args.bytes.now c.args.out.now.items c.open_insert.new.out.items c.part_len-len.result c.part_len-len.ensures.part c.open_insert.result _ c.if-len-bytes.true c.open_insert.ensures c.ended.ensures

pub returns-in-Err : goal.returns-in-Err
returns-in-Err c =
    insert_stops (lets_of c.args.table.now) c.args.line c.args.closed c.args.bytes.now c.args.out.now.items c.values.new.out.items c.part_len-len.result c.part_len-len.ensures.part c.in-Err.fault c.if-len-bytes.false c.in-Err.ensures

pub returns-in-Ok : goal.returns-in-Ok
returns-in-Ok c =
    insert_goes (lets_of c.args.table.now) c.args.line c.args.closed c.args.bytes.now c.args.out.now.items c.values.new.out.items c.part_len-len.result c.part_len-len.ensures.part _ (tail_is c.args.bytes.now (c.part_len-len.result + 1)) c.if-len-bytes.false c.in-Ok.ensures
