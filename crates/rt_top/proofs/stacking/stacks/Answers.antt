use Rattle.std.proofs.Common.{refl, subst}
use Rattle.rt_outside.specs.Deeds.{Puts}
use Rattle.rt_accept.specs.Calls.{outside, Tells}
use Rattle.rt_accept.specs.FileEnds.{FileEnds}
use Rattle.rt_top.proofs.Ends.{done_from, declined}
use Rattle.rt_top.proofs.stacking.stacks.Goals as goal

pub returns-in-Ok : goal.returns-in-Ok
returns-in-Ok g c = λ left faults.
    FileEnds.accepted {status = c.tell.result} (record {
      text = c.in-Ok.text.items;
      is = c.in-Ok.ensures.ok;
      put = record { tells = done_from (Puts c.in-Ok.text.items) 0 (g.S.Store.files c.args.store.now) (g.S.Store.files c.prepare.new.store) (g.S.Store.write_faults c.args.store.now) (g.S.Store.write_faults c.prepare.new.store) (g.O.Sink.written c.args.output.now) (g.O.Sink.faults c.args.output.now) (outside (g.S.Store.files c.prepare.new.store) (g.S.Store.write_faults c.prepare.new.store) (g.O.Sink.written c.tell.new.output) (g.O.Sink.faults c.tell.new.output)) c.tell.result c.prepare.ensures.unchanged c.prepare.ensures.writes_later (subst (λ t. Tells t 0 (outside (g.S.Store.files c.prepare.new.store) (g.S.Store.write_faults c.prepare.new.store) (g.O.Sink.written c.args.output.now) (g.O.Sink.faults c.args.output.now)) (outside (g.S.Store.files c.prepare.new.store) (g.S.Store.write_faults c.prepare.new.store) (g.O.Sink.written c.tell.new.output) (g.O.Sink.faults c.tell.new.output)) c.tell.result) c.as_slice.ensures (c.tell.ensures (g.S.Store.files c.prepare.new.store) (g.S.Store.write_faults c.prepare.new.store))); input = record { left = refl; faults = refl } };
    })

pub returns-in-Err : goal.returns-in-Err
returns-in-Err g c = λ left faults.
    declined _ _ _ (g.S.Store.files c.args.store.now) (g.S.Store.files c.prepare.new.store) (g.S.Store.read_faults c.args.store.now) (g.S.Store.read_faults c.prepare.new.store) (g.S.Store.write_faults c.args.store.now) (g.S.Store.write_faults c.prepare.new.store) (g.O.Sink.written c.args.output.now) (g.O.Sink.written c.decline.new.output) (g.O.Sink.faults c.args.output.now) (g.O.Sink.faults c.decline.new.output) left faults c.decline.result
    c.in-Err.why c.prepare.ensures.unchanged c.prepare.ensures.writes_later c.in-Err.ensures.err
    (c.decline.ensures (g.S.Store.files c.prepare.new.store) (g.S.Store.write_faults c.prepare.new.store))
