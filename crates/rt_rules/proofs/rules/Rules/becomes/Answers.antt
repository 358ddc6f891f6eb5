use Rattle.std.proofs.Common.{rules, subst}
use Rattle.rt_rules.specs.Roster.{InRanges}
use Rattle.rt_rules.proofs.Rows.{ranges-becomes}
use Rattle.rt_rules.proofs.rules.Rules.becomes.Goals as goal

pub invariant_of-self : goal.invariant_of-self
invariant_of-self c =
    ranges-becomes c.args.self.now c.args.task c.args.state _ (subst InRanges c.self.view_is c.self.invariant) c.requires.task c.requires.owns (search rules)
