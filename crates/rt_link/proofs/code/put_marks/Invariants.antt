use Rattle.std.proofs.Common.{◌≡◌, ◌++◌, drop}
use Rattle.std.specs.List.{flat_map}
use Rattle.rt_link.specs.Imaged.{brick_marks}
use Rattle.rt_link.proofs.code.put_marks.Given as goal

abbrev pub invariant-loop-brick : goal.invariant-loop-brick
invariant-loop-brick l = l.out.items ++ flat_map brick_marks (drop l.brick-index l.brick-items) ≡ l.fn.out.items ++ flat_map brick_marks l.brick-items
