use Rattle.rt_match.proofs.Walking.{entry_below, entry_here}
use Rattle.rt_match.proofs.alike.brick_at.Goals as goal

pub bounds-as_slice-from : goal.bounds-as_slice-from
bounds-as_slice-from c =
    entry_below c.args.objects.now c.args.entry.module c.args.entry.brick c.requires.0 c.requires.1.is c.index-objects-from.result c.parts-parts.result.now c.parts-parts.ensures.parts c.as_slice.result.now c.as_slice.ensures
    c.from.result c.from-2.result c.from.ensures c.from-2.ensures c.index-objects-from.is

pub returns : goal.returns
returns c =
    entry_here c.args.objects.now c.args.entry.module c.args.entry.brick c.requires.0 c.requires.1.is c.index-objects-from.result c.parts-parts.result.now c.parts-parts.ensures.parts c.as_slice.result.now c.as_slice.ensures
    c.from.result c.from-2.result c.from.ensures c.from-2.ensures c.index-objects-from.is c.index-as_slice-from.result c.index-as_slice-from.is
