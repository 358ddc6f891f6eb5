use Rattle.std.proofs.Common.{arith}
use Rattle.rt_run.specs.Inputs.{feed}
use Rattle.rt_run.specs.Picture.{standing}
use Rattle.rt_run.proofs.Going.{run_begins, run_on, run_ends}
use Rattle.rt_run.proofs.machine.Machine.go.Goals as goal

pub run-init : goal.run-init
run-init g c = (
  record { complete = c.settle.ensures.complete; later = omega (arith, c.settle.ensures.count); few = omega (arith, c.settle.ensures.count, c.requires.reach); reads_later = omega arith; writes_later = omega arith },
  run_begins (standing c.args.self.now) (standing c.settle.new.self) (feed (g.I.Source.left c.args.input.now) (g.I.Source.ended c.args.input.now)) (g.O.Sink.written c.args.output.now) c.settle.ensures.settled,
)

pub run-preserved : goal.run-preserved
run-preserved g c =
    let n = c.go_on.new in
    let u = c.run.invariant.0 in
    let went = rw c.in_default.is at c.go_on.ensures.went in (
      record { complete = c.go_on.ensures.complete; later = omega (arith, u.later, c.go_on.ensures.later); few = c.go_on.ensures.few; reads_later = omega (arith, u.reads_later, c.go_on.ensures.reads_later); writes_later = omega (arith, u.writes_later, c.go_on.ensures.writes_later) },
      run_on c.args.limit (standing c.args.self.now) (standing c.run.self) (standing n.self) (feed (g.I.Source.left c.args.input.now) (g.I.Source.ended c.args.input.now)) (feed (g.I.Source.left c.run.input) (g.I.Source.ended c.run.input)) (feed (g.I.Source.left n.input) (g.I.Source.ended n.input)) (g.O.Sink.written c.args.output.now) (g.O.Sink.written c.run.output) (g.O.Sink.written n.output) c.run.invariant.1 went,
    )

pub returns-in-Some-clause-ran : goal.returns-in-Some-clause-ran
returns-in-Some-clause-ran g c =
    run_ends c.args.limit (standing c.args.self.now) (standing c.run.self) (standing c.go_on.new.self) (feed (g.I.Source.left c.args.input.now) (g.I.Source.ended c.args.input.now)) (feed (g.I.Source.left c.run.input) (g.I.Source.ended c.run.input)) (feed (g.I.Source.left c.go_on.new.input) (g.I.Source.ended c.go_on.new.input)) (g.O.Sink.written c.args.output.now) (g.O.Sink.written c.run.output) (g.O.Sink.written c.go_on.new.output) c.run.invariant.1 c.in-Some.end c.in-Some.ensures.went
