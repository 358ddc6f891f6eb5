use Rattle.rt_check_module.specs.Doubts.{AreKept}
use Rattle.rt_check_module.proofs.defaults.judge_in_order.Given as goal

abbrev pub invariant-loop-number : goal.invariant-loop-number
invariant-loop-number l = AreKept l.records l.known
