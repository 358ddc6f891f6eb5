use Rattle.std.proofs.Common.{◌≡◌, ◌++◌, drop}
use Rattle.rt_link.specs.Imaged.{modules_marks}
use Rattle.rt_link.proofs.code.put_all_marks.Given as goal

abbrev pub invariant-loop-object : goal.invariant-loop-object
invariant-loop-object l = l.out.items ++ modules_marks (drop l.object-index l.objects) ≡ l.fn.out.items ++ modules_marks l.objects
