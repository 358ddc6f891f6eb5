use Rattle.std.proofs.Common.{ap, subst, sym}
use Rattle.rt_rules.specs.Roster.{InRanges}
use Rattle.rt_rules.specs.Rules.{Served}
use Rattle.rt_rules.proofs.Ranges.{ranges-serve}
use Rattle.rt_rules.proofs.Walks.{running_is_ready}
use Rattle.rt_rules.proofs.rules.Rules.call.Goals as goal

pub returns-clause-ranges : goal.returns-clause-ranges
returns-clause-ranges c =
    let ready = running_is_ready c.args.self.now c.in-Some.task c.in-Some.ensures.ranges (sym c.in-Some.ensures.value) in
    subst InRanges (sym (ap (λ (s : Served). s.0) c.serve.ensures))
    (ranges-serve c.args.self.now c.in-Some.task c.args.svc c.in-Some.ensures.ranges ready)
