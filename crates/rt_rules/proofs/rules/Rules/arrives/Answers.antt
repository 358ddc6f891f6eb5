use Rattle.std.proofs.Common.{rules, subst}
use Rattle.rt_rules.specs.Roster.{InRanges}
use Rattle.rt_rules.proofs.Rows.{ranges-arrives}
use Rattle.rt_rules.proofs.rules.Rules.arrives.Goals as goal

pub invariant_of-self : goal.invariant_of-self
invariant_of-self c =
    ranges-arrives c.args.self.now c.args.task c.args.state _ (subst InRanges c.self.view_is c.self.invariant) c.requires.task c.requires.alive (search rules)
