use Rattle.std.proofs.Common.{◌+◌, ◌∙◌, ap, arith, subst, sym}
use Rattle.rt_rules.specs.declared.service.Outcome.TheVariants.{Ends}
use Rattle.rt_rules.specs.Roster.{Roster, IsNumber}
use Rattle.rt_rules.specs.Rules.{Served, becomes}
use Rattle.rt_rules.proofs.Giving.{Giving, giving_step, giving_all}
use Rattle.rt_rules.proofs.rules.Rules.ends.Goals as goal

pub loop-facility-preserved : goal.loop-facility-preserved
loop-facility-preserved c =
    let number : IsNumber c.loop-facility.facility = (c.loop-facility.auto.facility, omega arith) in
    subst (λ q. Giving c.args.task c.args.self.now q (c.loop-facility.facility + 1)) (sym c.give_if_owned.ensures.given)
    (giving_step c.args.task c.args.self.now c.loop-facility.self c.loop-facility.facility c.give_if_owned.ensures.ranges c.loop-facility.invariant number)

pub returns : goal.returns
returns c =
    let all = giving_all c.args.task c.args.self.now c.loop-facility.self c.loop-facility.facility c.loop-facility.invariant (omega arith) in
    let ended : Roster → Served = λ r. (becomes r c.args.task c.args.state, Ends) in
    ap (λ (q : Roster). let s : Served = (q, Ends) in s) c.becomes.ensures ∙ ap ended all
