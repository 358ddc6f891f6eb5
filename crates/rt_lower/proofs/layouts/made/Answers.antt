use Rattle.rt_lower.specs.Layouts.{table_of}
use Rattle.rt_lower.proofs.Listing.{sized}
use Rattle.rt_lower.proofs.layouts.made.Goals as goal

pub returns-clause-items : goal.returns-clause-items
returns-clause-items c = rw (c.items-2.view_is) (c.in_ok-items.ensures (table_of c.args.records.now) c.requires)

pub returns-clause-sizes : goal.returns-clause-sizes
returns-clause-sizes c = sized c.args.records.now c.args.sizes.now c.in_ok-known_sizes.field-0 c.requires c.in_ok-known_sizes.ensures.each c.in_ok-known_sizes.ensures.same
