use Rattle.std.proofs.Common.{sym, subst}
use Rattle.rt_check_faults.specs.Outcomes.{Outcome, Gives, ◌>>=◌}
use Rattle.rt_check_declared.specs.declared.written.Resolved.{Resolved}
use Rattle.rt_check_bodies.specs.Sights.{variable_by}
use Rattle.rt_check_bodies.proofs.names.Names.mode.Goals as goal

pub returns : goal.returns
returns c = subst (λ (o : Outcome Resolved). Gives (λ m. m) c.variable_by.result (o >>= variable_by c.args.at)) (sym c.in_ok-resolved.ensures) c.variable_by.ensures
