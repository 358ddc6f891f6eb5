use Rattle.std.proofs.Common.{◌≡◌, ◌+◌, ◌*◌, ◌≤◌, ◌<◌, ℕ, drop, length, true, Some}
use Rattle.rt_meaning.specs.Runs.{after, rise_from, ticks_after}
use Rattle.rt_meaning.specs.Source.{world_of, state_of}
use Rattle.rt_meaning.specs.Code.{reached_at}
use Rattle.rt_meaning.proofs.Placements.{ticks_to}
use Rattle.rt_meaning.proofs.run.run_from.Given as goal

abbrev pub invariant-loop-done : goal.invariant-loop-done
invariant-loop-done l = record {
  run : after (world_of l.fn.state) (state_of l.fn.state) l.placements l.input l.done ≡ Some (reached_at l.state l.output);
  world : world_of l.state ≡ world_of l.fn.state;
  clock : (state_of l.state).rules.clock ≡ (state_of l.fn.state).rules.clock + ticks_to l.placements l.done;
  stamp : (state_of l.state).rules.stamp ≤ (state_of l.fn.state).rules.stamp + 33 * (ticks_to l.placements l.done + l.done);
  rises : rise_from (l.done + 1) l.fn.steps (drop l.next l.placements) ≡ true;
  short : l.next ≤ length l.placements;
  same : (s : ℕ) → l.done < s → ticks_after (drop l.next l.placements) s ≡ ticks_after l.placements s;
}
