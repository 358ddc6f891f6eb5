use Rattle.std.proofs.Common.{◌+◌}
use Rattle.rt_items.specs.Table.{lets_of}
use Rattle.rt_pieces.proofs.Fronts.{tail_is}
use Rattle.rt_items.proofs.Strings.{pair_ends, pair_stops, pair_goes}
use Rattle.rt_items.proofs.texts.one_pair.Goals as goal

pub returns-then-len-bytes : goal.returns-then-len-bytes
returns-then-len-bytes c =
    pair_ends (lets_of c.args.table.now) c.args.line c.args.closed c.args.bytes.now c.args.out.now.items c.last_characters.new.out.items c.part_len-len.result c.part_len-len.ensures.part c.last_characters.result _ c.if-len-bytes.true c.last_characters.ensures c.ended.ensures

pub returns-in-Err : goal.returns-in-Err
returns-in-Err c =
    pair_stops (lets_of c.args.table.now) c.args.line c.args.closed c.args.bytes.now c.args.out.now.items c.characters.new.out.items c.part_len-len.result c.part_len-len.ensures.part c.in-Err.fault c.if-len-bytes.false c.in-Err.ensures

pub returns-in-Ok : goal.returns-in-Ok
returns-in-Ok c =
    pair_goes (lets_of c.args.table.now) c.args.line c.args.closed c.args.bytes.now c.args.out.now.items c.characters.new.out.items c.one_insert.new.out.items c.part_len-len.result c.part_len-len.ensures.part c.if-len-bytes.false
    _ _ (tail_is c.args.bytes.now (c.part_len-len.result + 1)) c.in-Ok.ensures c.one_insert.ensures
