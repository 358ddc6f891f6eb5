use Rattle.std.proofs.Common.{◌≡◌, ◌+◌, ◌*◌, ◌≤◌}
use Rattle.rt_meaning.specs.Source.{state_of}
use Rattle.rt_text_cases.proofs.systems.traces.trace_from.Given as goal

abbrev pub invariant-loop-step : goal.invariant-loop-step
invariant-loop-step l = record {
  stamp : (state_of l.state).rules.stamp ≤ 32 + 32 * l._step;
  clock : (state_of l.state).rules.clock ≡ 0;
}
