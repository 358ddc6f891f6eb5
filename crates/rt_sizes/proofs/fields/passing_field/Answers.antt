use Rattle.std.proofs.Common.{sym, ◌∙◌}
use Rattle.rt_sizes.specs.Sizes.{within}
use Rattle.rt_sizes.proofs.Kept.{kept_passes, found_passes}
use Rattle.rt_sizes.proofs.fields.passing_field.Goals as goal

pub returns-clause-passes : goal.returns-clause-passes
returns-clause-passes c t sizes i is = (sizes.right.0, found_passes (within t sizes.right.0) c.args.sizes.now sizes.right.1 c.args.fields.now 0 0 i (sym c.passes_in.ensures ∙ is))

pub returns-clause-only : goal.returns-clause-only
returns-clause-only c t sizes i passes = c.passes_in.ensures ∙ kept_passes (within t passes.0) c.args.sizes.now (λ k. sizes.all k passes.0) c.args.fields.now 0 0 i passes.1
