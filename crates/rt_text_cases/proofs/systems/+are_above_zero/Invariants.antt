use Rattle.std.proofs.Common.{length}
use Rattle.rt_text_cases.proofs.systems.+are_above_zero.Given as goal

abbrev pub decreases-are_above_zero : goal.decreases-are_above_zero
decreases-are_above_zero l = length l.tasks.now
