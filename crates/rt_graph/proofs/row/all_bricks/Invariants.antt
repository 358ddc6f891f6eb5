use Rattle.std.proofs.Common.{◌≡◌, suc, ◌++◌, drop}
use Rattle.rt_graph.specs.Numbers.{modules_from, all_bricks}
use Rattle.rt_graph.proofs.row.all_bricks.Given as goal

abbrev pub invariant-loop-at : goal.invariant-loop-at
invariant-loop-at l = l.row ++ modules_from (suc l.at) (drop l.at l.objects) ≡ all_bricks l.objects
