use Rattle.std.proofs.Common.{refl}
use Rattle.rt_items.specs.Table.{lets_of}
use Rattle.rt_items.proofs.Strings.{string_is}
use Rattle.rt_items.proofs.texts.string_of.Goals as goal

pub returns : goal.returns
returns c =
    string_is (lets_of c.args.table.now) c.args.line c.args.bytes.now c.string_len-len.result _ c.in_ok-out.out.items c.in_turn-done.new.out.items c.in_turn-done.result c.limited.result
    c.string_len-len.ensures refl c.in_ok-out.ensures.empty c.in_turn-done.ensures c.limited.ensures
