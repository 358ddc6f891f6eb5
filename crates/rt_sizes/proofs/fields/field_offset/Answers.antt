use Rattle.std.proofs.Common.{sym, ◌∙◌}
use Rattle.rt_sizes.specs.Sizes.{within, offset}
use Rattle.rt_sizes.proofs.Kept.{kept_offset, found_offset, some_counted}
use Rattle.rt_sizes.proofs.fields.field_offset.Goals as goal

pub returns-clause-place : goal.returns-clause-place
returns-clause-place c t sizes s is =
    let found = some_counted (offset (within t sizes.right.0) c.args.fields.now c.args.index) s (found_offset (within t sizes.right.0) c.args.sizes.now sizes.right.1 c.args.fields.now c.args.index s (sym c.offset.ensures ∙ is)) in
    (found.0, (sizes.right.0, found.1), found.2)

pub returns-clause-only : goal.returns-clause-only
returns-clause-only c t sizes n begins = c.offset.ensures ∙ kept_offset (within t begins.0) c.args.sizes.now (λ k. sizes.all k begins.0) c.args.fields.now c.args.index n begins.1
