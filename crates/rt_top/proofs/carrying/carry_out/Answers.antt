use Rattle.std.proofs.Common.{refl, ◌∙◌}
use Rattle.rt_headline.specs.Go.{image_name, report_name}
use Rattle.rt_accept.specs.Calls.{outside}
use Rattle.rt_top.specs.Going.{asked_go, unwritten, carried}
use Rattle.rt_top.proofs.Ending.{wrote, wrote_not, run_on}
use Rattle.rt_top.proofs.carrying.carry_out.Goals as goal

pub returns-in-Ok : goal.returns-in-Ok
returns-in-Ok g c = λ x p. carried {bytes = c.args.prepared.bytes} {status = c.finish.result} (outside (g.S.Store.files c.write.new.self) (g.S.Store.write_faults c.write.new.self) (g.O.Sink.written c.args.output.now) (g.O.Sink.faults c.args.output.now))
    p.spelled
    (wrote c.as_str.result.now (image_name (asked_go c.args.words.now)) c.as_slice.result.now c.args.prepared.bytes (g.S.Store.files c.args.store.now) (g.S.Store.files c.write.new.self) (g.S.Store.write_faults c.args.store.now) (g.S.Store.write_faults c.write.new.self) (g.O.Sink.written c.args.output.now) (g.O.Sink.faults c.args.output.now)
    (c.as_str.ensures.value ∙ p.image) c.as_slice.ensures c.in-Ok.ensures.bytes c.in-Ok.ensures.others c.in-Ok.ensures.writes_later)
    (run_on (g.S.Store.files c.args.store.now) (g.S.Store.files c.write.new.self) (g.S.Store.files c.finish.new.store) (g.S.Store.read_faults c.args.store.now) (g.S.Store.read_faults c.write.new.self) (g.S.Store.read_faults c.finish.new.store) (g.S.Store.write_faults c.args.store.now) (g.S.Store.write_faults c.write.new.self) (g.S.Store.write_faults c.finish.new.store)
    (g.O.Sink.written c.args.output.now) (g.O.Sink.written c.finish.new.output) (g.O.Sink.faults c.args.output.now) (g.O.Sink.faults c.finish.new.output) _ _ _ _
    c.as_str-report.result.now (report_name (asked_go c.args.words.now)) c.args.words.now.limit x.image x.ticks c.finish.result (c.as_str-report.ensures.value ∙ p.report) (c.finish.ensures x.image x.ticks p.ready))

pub returns : goal.returns
returns g c = λ x p. unwritten (record {
  bytes = c.args.prepared.bytes;
  failed = wrote_not c.as_str.result.now (image_name (asked_go c.args.words.now)) c.as_slice.result.now c.args.prepared.bytes (g.S.Store.files c.args.store.now) (g.S.Store.files c.write.new.self) (g.S.Store.write_faults c.args.store.now) (g.S.Store.write_faults c.write.new.self) (g.O.Sink.written c.args.output.now) (g.O.Sink.faults c.args.output.now)
      (c.as_str.ensures.value ∙ p.image) (c.in-Err.ensures.failed refl) c.write.ensures.others c.write.ensures.writes_later;
  input = record { left = refl; faults = refl };
})
