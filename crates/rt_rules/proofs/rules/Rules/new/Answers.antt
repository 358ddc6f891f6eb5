use Rattle.std.proofs.Common.{rules}
use Rattle.rt_rules.proofs.Starts.{ranges-start}
use Rattle.rt_rules.proofs.rules.Rules.new.Goals as goal

pub invariant_of-result : goal.invariant_of-result
invariant_of-result c =
    ranges-start c.args.priorities.now _ c.requires.some c.requires.few c.requires.above_zero (search rules)

pub returns-clause-ranges : goal.returns-clause-ranges
returns-clause-ranges c =
    ranges-start c.args.priorities.now _ c.requires.some c.requires.few c.requires.above_zero (search rules)
