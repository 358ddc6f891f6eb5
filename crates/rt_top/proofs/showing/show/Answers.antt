use Rattle.std.proofs.Common.{refl, subst}
use Rattle.rt_outside.specs.Deeds.{Puts}
use Rattle.rt_accept.specs.Calls.{outside, Tells}
use Rattle.rt_accept.specs.FileEnds.{FileEnds}
use Rattle.rt_accept.specs.Reading.{RefusesObject}
use Rattle.rt_top.proofs.Ends.{done_from, one_file, declined, kept_still}
use Rattle.rt_top.proofs.showing.show.Goals as goal

pub returns-in-Ok-listing : goal.returns-in-Ok-listing
returns-in-Ok-listing g c = λ left faults.
    FileEnds.accepted {status = c.tell.result} (record {
      object = c.in-Ok.object;
      has = c.in-Ok.ensures.ok;
      text = c.in-Ok-listing.text.items;
      listing = c.in-Ok-listing.ensures;
      put = record { tells = done_from (Puts c.in-Ok-listing.text.items) 0 (g.S.Store.files c.args.store.now) (g.S.Store.files c.accept_object.new.store) (g.S.Store.write_faults c.args.store.now) (g.S.Store.write_faults c.accept_object.new.store) (g.O.Sink.written c.args.output.now) (g.O.Sink.faults c.args.output.now) (outside (g.S.Store.files c.accept_object.new.store) (g.S.Store.write_faults c.accept_object.new.store) (g.O.Sink.written c.tell.new.output) (g.O.Sink.faults c.tell.new.output)) c.tell.result c.accept_object.ensures.unchanged c.accept_object.ensures.writes_later (subst (λ t. Tells t 0 (outside (g.S.Store.files c.accept_object.new.store) (g.S.Store.write_faults c.accept_object.new.store) (g.O.Sink.written c.args.output.now) (g.O.Sink.faults c.args.output.now)) (outside (g.S.Store.files c.accept_object.new.store) (g.S.Store.write_faults c.accept_object.new.store) (g.O.Sink.written c.tell.new.output) (g.O.Sink.faults c.tell.new.output)) c.tell.result) c.as_slice.ensures (c.tell.ensures (g.S.Store.files c.accept_object.new.store) (g.S.Store.write_faults c.accept_object.new.store))); input = record { left = refl; faults = refl } };
    })

pub returns-in-Ok : goal.returns-in-Ok
returns-in-Ok g c = λ left faults.
    kept_still _ _ _ (g.S.Store.files c.args.store.now) (g.S.Store.files c.accept_object.new.store) (g.S.Store.read_faults c.args.store.now) (g.S.Store.read_faults c.accept_object.new.store) (g.S.Store.write_faults c.args.store.now) (g.S.Store.write_faults c.accept_object.new.store) (g.O.Sink.written c.args.output.now) (g.O.Sink.written c.args.output.now) (g.O.Sink.faults c.args.output.now) (g.O.Sink.faults c.args.output.now) left faults 30 c.accept_object.ensures.unchanged refl

pub returns : goal.returns
returns g c = λ left faults.
    declined _ _ _ (g.S.Store.files c.args.store.now) (g.S.Store.files c.accept_object.new.store) (g.S.Store.read_faults c.args.store.now) (g.S.Store.read_faults c.accept_object.new.store) (g.S.Store.write_faults c.args.store.now) (g.S.Store.write_faults c.accept_object.new.store) (g.O.Sink.written c.args.output.now) (g.O.Sink.written c.decline.new.output) (g.O.Sink.faults c.args.output.now) (g.O.Sink.faults c.decline.new.output) left faults c.decline.result
    c.in-Err.why c.accept_object.ensures.unchanged c.accept_object.ensures.writes_later
    (one_file c.args.name.now (RefusesObject (g.S.Store.files c.args.store.now) c.args.name.now) (g.S.Store.read_faults c.args.store.now) (g.S.Store.read_faults c.accept_object.new.store) c.in-Err.why c.in-Err.ensures.err)
    (c.decline.ensures (g.S.Store.files c.accept_object.new.store) (g.S.Store.write_faults c.accept_object.new.store))
