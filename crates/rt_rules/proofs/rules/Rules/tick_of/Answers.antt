use Rattle.std.proofs.Common.{◌≡◌, ◌∙◌, rules, subst, sym}
use Rattle.rt_rules.specs.Roster.{Roster, IsTask, InRanges}
use Rattle.rt_rules.specs.Rules as spec
use Rattle.rt_rules.proofs.Ranges.{ranges-tick}
use Rattle.rt_rules.proofs.Walks.{running_is_ready}
use Rattle.rt_rules.proofs.rules.Rules.tick_of.Goals as goal

pub arrives-requires-clause-task : goal.arrives-requires-clause-task
arrives-requires-clause-task c =
    subst (λ (r : Roster). IsTask r c.in-Some.task) (sym c.self.view_is)
    (running_is_ready c.args.self.now c.in-Some.task (subst InRanges c.self.view_is c.self.invariant) (sym c.requires.runs ∙ c.in-Some.is)).0

pub returns-clause-ranges : goal.returns-clause-ranges
returns-clause-ranges c =
    let ticked : c.count_down.new.self ≡ spec.tick c.args.self.now = search rules in
    subst InRanges (sym ticked) (ranges-tick c.args.self.now (subst InRanges c.self.view_is c.self.invariant))
