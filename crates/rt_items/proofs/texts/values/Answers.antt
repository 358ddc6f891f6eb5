use Rattle.std.proofs.Common.{◌+◌, ap, length, length-drop, arith}
use Rattle.rt_items.specs.Table.{lets_of}
use Rattle.rt_pieces.proofs.Fronts.{tail_is}
use Rattle.rt_items.proofs.Strings.{values_end, values_stop, values_go}
use Rattle.rt_items.proofs.texts.values.Goals as goal

pub returns-then-len-rest : goal.returns-then-len-rest
returns-then-len-rest c =
    values_end (lets_of c.args.table.now) c.args.line c.args.closed c.args.out.now.items c.loop-rest.out.items c.value.new.out.items c.args.inside.now c.loop-rest.rest.now c.part_len-len.result c.part_len-len.ensures.part
    c.loop-rest.invariant.0 c.value.result c.if-len-rest.true c.value.ensures

pub returns-in-Err : goal.returns-in-Err
returns-in-Err c =
    values_stop (lets_of c.args.table.now) c.args.line c.args.closed c.args.out.now.items c.loop-rest.out.items c.value-in-loop-rest.new.out.items c.args.inside.now c.loop-rest.rest.now c.part_len-len.result c.part_len-len.ensures.part
    c.loop-rest.invariant.0 c.in-Err.fault c.if-len-rest.false c.in-Err.ensures

pub loop-rest-preserved : goal.loop-rest-preserved
loop-rest-preserved c =
    let rest = c.loop-rest.rest.now in
    let after = tail_is rest (c.part_len-len.result + 1) in
    let shorter = length-drop (c.part_len-len.result + 1) rest in
    let least = c.loop-rest.invariant.1 in (
      values_go (lets_of c.args.table.now) c.args.line c.args.closed c.args.out.now.items c.loop-rest.out.items c.value-in-loop-rest.new.out.items c.args.inside.now rest c.part_len-len.result c.part_len-len.ensures.part
          c.loop-rest.invariant.0 _ after c.if-len-rest.false c.in-Ok.ensures,
      omega (arith, ap length after),
    )
