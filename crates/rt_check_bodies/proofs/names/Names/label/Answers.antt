use Rattle.std.proofs.Common.{ℕ, List, Option, subst, ap, ◌∙◌}
use Rattle.rt_exprs.specs.declared.scope.Meaning.{Meaning}
use Rattle.rt_exprs.specs.Names.{find}
use Rattle.rt_check_faults.specs.Outcomes.{Gives}
use Rattle.rt_check_bodies.specs.Sights as spec
use Rattle.rt_check_bodies.proofs.names.Names.label.Goals as goal

pub returns : goal.returns
returns c = subst (λ (o : Option Meaning). Gives (λ k. k) c.label_by.result (spec.label_by c.args.name.now.at o)) (c.meaning.ensures ∙ ap (λ (n : List ℕ). find c.args.self.now n) c.as_slice.ensures.bytes) c.label_by.ensures
