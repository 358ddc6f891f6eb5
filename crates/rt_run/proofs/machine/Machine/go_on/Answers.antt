use Rattle.std.proofs.Common.{◌≡◌, ◌-◌, false, None, sym, ◌∙◌, arith}
use Rattle.std.specs.Prelude.{slice_get}
use Rattle.rt_rules.specs.Rules.{running}
use Rattle.rt_run.specs.Inputs.{feed}
use Rattle.rt_run.specs.Turn.{counts}
use Rattle.rt_run.specs.Picture.{standing}
use Rattle.rt_run.proofs.Settling.{room_within}
use Rattle.rt_run.proofs.Going.{idle, at_limit, turn_on, turn_ends}
use Rattle.rt_run.proofs.machine.Machine.go_on.Goals as goal

pub returns-in_default-clause-went : goal.returns-in_default-clause-went
returns-in_default-clause-went g c =
    let m = c.args.self.now in
    let none : None ≡ running m.supervisor = sym c.in_default.is ∙ c.running.ensures.value in
    rw c.idle_end.ensures (idle c.args.limit (standing m) (feed (g.I.Source.left c.args.input.now) (g.I.Source.ended c.args.input.now)) (g.O.Sink.written c.args.output.now) none c.requires.reach)

pub returns-then-self-limit-clause-went : goal.returns-then-self-limit-clause-went
returns-then-self-limit-clause-went g c =
    at_limit c.in-Some.task c.args.limit (standing c.args.self.now) (feed (g.I.Source.left c.args.input.now) (g.I.Source.ended c.args.input.now)) (g.O.Sink.written c.args.output.now) c.in-Some.ensures.value c.if-self-limit.true

pub returns-then-is_done-clause-went : goal.returns-then-is_done-clause-went
returns-then-is_done-clause-went g c =
    let m = c.args.self.now in
    let t = c.turn-carried in
    turn_on c.in-Some.task c.room-most.result _ t.result (standing m) (standing t.new.self) (feed (g.I.Source.left c.args.input.now) (g.I.Source.ended c.args.input.now)) (feed (g.I.Source.left t.new.input) (g.I.Source.ended t.new.input)) (g.O.Sink.written c.args.output.now) (g.O.Sink.written t.new.output) c.in-Some.ensures.value c.room-most.ensures t.ensures.turned c.args.limit (standing c.settle.new.self) c.settle.ensures.settled

pub returns-clause-went : goal.returns-clause-went
returns-clause-went g c =
    let m = c.args.self.now in
    let t = c.turn-carried in
    let h : counts t.result ≡ false = sym c.is_done.ensures ∙ c.if-is_done.false in
    let most = room_within c.room-most.result (c.args.limit - m.instructions) (slice_get m.timetable.gaps 0) m.timetable.since c.room-most.ensures (omega (arith, c.requires.reach, c.if-self-limit.false)) in
    rw c.ended_by.ensures (turn_ends c.in-Some.task c.room-most.result _ t.result (standing m) (standing t.new.self) (feed (g.I.Source.left c.args.input.now) (g.I.Source.ended c.args.input.now)) (feed (g.I.Source.left t.new.input) (g.I.Source.ended t.new.input)) (g.O.Sink.written c.args.output.now) (g.O.Sink.written t.new.output) c.in-Some.ensures.value c.room-most.ensures t.ensures.turned c.args.limit h (omega (arith, most.1, t.ensures.fewer h)))

pub turn-carried-requires-clause-some : goal.turn-carried-requires-clause-some
turn-carried-requires-clause-some g c =
    let m = c.args.self.now in
    (room_within c.room-most.result (c.args.limit - m.instructions) (slice_get m.timetable.gaps 0) m.timetable.since c.room-most.ensures (omega (arith, c.requires.reach, c.if-self-limit.false))).0

pub turn-carried-requires-clause-few : goal.turn-carried-requires-clause-few
turn-carried-requires-clause-few g c =
    let m = c.args.self.now in
    let most = room_within c.room-most.result (c.args.limit - m.instructions) (slice_get m.timetable.gaps 0) m.timetable.since c.room-most.ensures (omega (arith, c.requires.reach, c.if-self-limit.false)) in
    omega (arith, most.1, c.requires.limit, c.requires.reach)

pub returns-then-is_done-clause-few : goal.returns-then-is_done-clause-few
returns-then-is_done-clause-few g c =
    let m = c.args.self.now in
    let most = room_within c.room-most.result (c.args.limit - m.instructions) (slice_get m.timetable.gaps 0) m.timetable.since c.room-most.ensures (omega (arith, c.requires.reach, c.if-self-limit.false)) in
    omega (arith, most.1, c.turn-carried.ensures.within, c.settle.ensures.count, c.requires.reach)

pub returns-clause-few : goal.returns-clause-few
returns-clause-few g c =
    let m = c.args.self.now in
    let most = room_within c.room-most.result (c.args.limit - m.instructions) (slice_get m.timetable.gaps 0) m.timetable.since c.room-most.ensures (omega (arith, c.requires.reach, c.if-self-limit.false)) in
    omega (arith, most.1, c.turn-carried.ensures.within, c.requires.reach)
