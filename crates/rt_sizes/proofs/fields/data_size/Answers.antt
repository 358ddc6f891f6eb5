use Rattle.std.proofs.Common.{sym, ◌∙◌}
use Rattle.rt_sizes.specs.Sizes.{within, fields_end}
use Rattle.rt_sizes.proofs.Kept.{kept_fields_end, found_fields_end, some_counted}
use Rattle.rt_sizes.proofs.fields.data_size.Goals as goal

pub returns-clause-size : goal.returns-clause-size
returns-clause-size c t sizes s is =
    let found = some_counted (fields_end (within t sizes.right.0) c.args.fields.now 0) s (found_fields_end (within t sizes.right.0) c.args.sizes.now sizes.right.1 c.args.fields.now 0 s (sym c.fields_end.ensures ∙ is)) in
    (found.0, (sizes.right.0, found.1), found.2)

pub returns-clause-only : goal.returns-clause-only
returns-clause-only c t sizes n end = c.fields_end.ensures ∙ kept_fields_end (within t end.0) c.args.sizes.now (λ k. sizes.all k end.0) c.args.fields.now 0 n end.1
