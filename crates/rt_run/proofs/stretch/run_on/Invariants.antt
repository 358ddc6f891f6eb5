use Rattle.std.proofs.Common.{◌≡◌, ◌-◌, ◌*◌, ◌<◌, ◌≤◌}
use Rattle.rt_run.specs.Inputs.{feed}
use Rattle.rt_run.specs.Turn.{Lasts}
use Rattle.rt_run.proofs.Stretching.{IsOnTheWay}
use Rattle.rt_run.proofs.stretch.run_on.Given as goal

abbrev pub invariant-instructions : goal.invariant-instructions
invariant-instructions g l = record {
  some : 0 < l.left;
  few : l.left ≤ l.most;
  marks : l.marks ≤ 255 * (l.most - l.left);
  same_rules : l.supervisor ≡ l.fn.supervisor;
  same_reference : l.running.shared.ghost_name ≡ l.fn.running.shared.ghost_name;
  reads_later : g.I.Source.faults l.fn.input ≤ g.I.Source.faults l.input;
  writes_later : g.O.Sink.faults l.fn.output ≤ g.O.Sink.faults l.output;
  lasts : Lasts l.fn.running.shared.now l.fn.supervisor (l.most - l.left) l.running.shared.now l.fn.supervisor;
  way : IsOnTheWay l.task l.most (l.most - l.left) l.marks (feed (g.I.Source.left l.fn.input) (g.I.Source.ended l.fn.input)) (g.O.Sink.written l.fn.output) l.fn.running.regs l.fn.running.shared.now l.fn.supervisor (feed (g.I.Source.left l.input) (g.I.Source.ended l.input)) (g.O.Sink.written l.output) l.running.regs l.running.shared.now;
}

abbrev pub decreases-instructions : goal.decreases-instructions
decreases-instructions g l = l.left
