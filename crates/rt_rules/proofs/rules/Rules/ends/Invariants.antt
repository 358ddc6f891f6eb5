use Rattle.rt_rules.proofs.Giving.{Giving}
use Rattle.rt_rules.proofs.rules.Rules.ends.Given as goal

abbrev pub invariant-loop-facility : goal.invariant-loop-facility
invariant-loop-facility l = Giving l.task l.fn.self l.self l.facility
