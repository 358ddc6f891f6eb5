use Rattle.std.proofs.Common.{sym, ◌∙◌}
use Rattle.rt_sizes.specs.Capped.{table}
use Rattle.rt_sizes.proofs.Rings.{sized_no_ring}
use Rattle.rt_sizes.proofs.contain.contains_itself.Goals as goal

pub returns-in-Some : goal.returns-in-Some
returns-in-Some c known sizes = (λ h. absurd cc, λ way. absurd (sized_no_ring (table c.args.records.now known) c.args.sizes.now c.args.number c.in-Some.field-0 sizes (sym c.size_in.ensures ∙ c.in-Some.is) way))
