use Rattle.std.proofs.Common.{◌≡◌, ◌+◌, ◌*◌, ◌≤◌}
use Rattle.rt_meaning.specs.Runs.{ticks}
use Rattle.rt_meaning.specs.Source.{world_of, state_of}
use Rattle.rt_meaning.proofs.run.take_ticks.Given as goal

abbrev pub invariant-loop-turn : goal.invariant-loop-turn
invariant-loop-turn l = record {
  ticks : state_of l.state ≡ ticks l._turn (state_of l.initial.state);
  world : world_of l.state ≡ world_of l.initial.state;
  clock : (state_of l.state).rules.clock ≡ (state_of l.initial.state).rules.clock + l._turn;
  stamp : (state_of l.state).rules.stamp ≤ (state_of l.initial.state).rules.stamp + 33 * l._turn;
}
