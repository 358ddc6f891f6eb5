use Rattle.std.proofs.Common.{rules, subst}
use Rattle.rt_rules.specs.Roster.{InRanges}
use Rattle.rt_rules.proofs.Rows.{ranges-with_owner}
use Rattle.rt_rules.proofs.rules.Rules.set_owner.Goals as goal

pub invariant_of-self : goal.invariant_of-self
invariant_of-self c =
    ranges-with_owner c.args.self.now c.args.facility c.args.task _ (subst InRanges c.self.view_is c.self.invariant) c.requires.number c.requires.task (search rules)
