use Rattle.std.proofs.Common.{◌≤◌}
use Rattle.rt_meaning.proofs.Rising.{Passed}
use Rattle.rt_meaning.proofs.run.past.Given as goal

abbrev pub invariant-loop-at : goal.invariant-loop-at
invariant-loop-at l = record {
  passed : Passed l.placements l.next l.steps l.at;
  from : l.next ≤ l.at;
}
