use Rattle.std.proofs.Common.{ℕ, List, ap, ◌∙◌}
use Rattle.rt_check_module.specs.Strings as spec
use Rattle.rt_check_module.proofs.Sets.{one_more}
use Rattle.rt_check_module.proofs.strings.insert.Goals as goal

pub returns-in-Ok : goal.returns-in-Ok
returns-in-Ok c k = ap (λ (xs : List ℕ). spec.is_in xs k) c.in-Ok.ensures.keys ∙ one_more c.args.set.now.keys c.args.item k
