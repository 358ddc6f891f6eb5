use Rattle.std.proofs.Common.{◌≡◌, ◌+◌, ◌-◌, ◌*◌}
use Rattle.rt_grammar.specs.Parsing.{◌>>=◌, pure}
use Rattle.rt_syntax_exprs.specs.ExpressionParser as reads
use Rattle.rt_syntax_exprs.proofs.Rank.{rank}
use Rattle.rt_syntax_exprs.proofs.expressions.+expression.Given as goal

abbrev pub decreases-inside : goal.decreases-inside
decreases-inside l = 32 * l.levels + 0

abbrev pub decreases-arguments : goal.decreases-arguments
decreases-arguments l = 32 * l.levels + 1

abbrev pub decreases-apply : goal.decreases-apply
decreases-apply l = 32 * l.levels + 2

abbrev pub decreases-link : goal.decreases-link
decreases-link l = 32 * l.levels + 3

abbrev pub decreases-chain : goal.decreases-chain
decreases-chain l = 32 * l.levels + 4

abbrev pub decreases-chained : goal.decreases-chained
decreases-chained l = 32 * l.levels + 5

abbrev pub decreases-valued : goal.decreases-valued
decreases-valued l = 32 * l.levels + 5

abbrev pub decreases-parenthesized : goal.decreases-parenthesized
decreases-parenthesized l = 32 * l.levels + 5

abbrev pub decreases-operand : goal.decreases-operand
decreases-operand l = 32 * l.levels + 6

abbrev pub decreases-primary : goal.decreases-primary
decreases-primary l = 32 * l.levels + 7

abbrev pub decreases-below : goal.decreases-below
decreases-below l = 32 * l.levels + 8 + 3 * rank l.level

abbrev pub decreases-right_of : goal.decreases-right_of
decreases-right_of l = 32 * l.levels + 9 + 3 * rank l.level

abbrev pub decreases-dyadics : goal.decreases-dyadics
decreases-dyadics l = 32 * l.levels + 10 + 3 * rank l.level

abbrev pub decreases-nested : goal.decreases-nested
decreases-nested l = 32 * l.levels + 20

abbrev pub invariant-dyadics-loop-turn : goal.invariant-dyadics-loop-turn
invariant-dyadics-loop-turn l = reads.dyadics l.context l.levels (reads.inside l.context l.levels) l.level (reads.below l.context l.levels (reads.inside l.context l.levels) l.level) l.fn.items
    ≡ reads.more_dyadics l.context l.levels (reads.inside l.context l.levels) l.level (reads.below l.context l.levels (reads.inside l.context l.levels) l.level) l.at (l._turn-end - l._turn) l.whole l.rest

abbrev pub invariant-arguments-loop-turn : goal.invariant-arguments-loop-turn
invariant-arguments-loop-turn l = reads.arguments l.context l.levels (reads.inside l.context l.levels) l.fn.items ≡ reads.more_listed l.context l.levels (reads.inside l.context l.levels) (l._turn-end - l._turn) l.found l.rest

abbrev pub invariant-chain-loop-turn : goal.invariant-chain-loop-turn
invariant-chain-loop-turn l = reads.chain l.context l.levels (reads.inside l.context l.levels) l.fn.items ≡ (reads.more_links l.context l.levels (reads.inside l.context l.levels) (l._turn-end - l._turn) l.links >>= λ ls. pure (reads.chain_as l.first ls)) l.rest
