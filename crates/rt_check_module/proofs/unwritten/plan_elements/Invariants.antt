use Rattle.rt_check_module.proofs.Pendings.{Planned, elements_of}
use Rattle.rt_check_module.proofs.unwritten.plan_elements.Given as goal

abbrev pub invariant-loop-element : goal.invariant-loop-element
invariant-loop-element l = Planned l.fn.pending l.pending l.length (elements_of l.levels l.of l._element)
