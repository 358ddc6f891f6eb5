use Rattle.std.proofs.Common.{◌≡◌, suc, drop}
use Rattle.rt_graph.specs.Classes.{mark_modules}
use Rattle.rt_graph.proofs.taken.mark_all.Given as goal

abbrev pub invariant-loop-at : goal.invariant-loop-at
invariant-loop-at l = mark_modules l.objects l.bindings.of (suc l.at) (drop l.at l.objects) l.marks ≡ mark_modules l.objects l.bindings.of 1 l.objects l.initial.marks
