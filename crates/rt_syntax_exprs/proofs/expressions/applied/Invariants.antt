use Rattle.std.proofs.Common.{◌≡◌, length}
use Rattle.rt_syntax_exprs.specs.Expressions as line
use Rattle.rt_syntax_exprs.proofs.expressions.applied.Given as goal

abbrev pub invariant-loop-op : goal.invariant-loop-op
invariant-loop-op l = line.applied l.fn.operators l.fn.operand ≡ line.applied l.operators l.whole

abbrev pub decreases-loop-op : goal.decreases-loop-op
decreases-loop-op l = length l.operators
