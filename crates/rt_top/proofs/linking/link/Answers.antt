use Rattle.std.proofs.Common.{[], ◌∷◌, refl}
use Rattle.rt_outside.specs.Deeds.{Writes}
use Rattle.rt_accept.specs.Calls.{outside}
use Rattle.rt_accept.specs.FileEnds.{FileEnds}
use Rattle.rt_top.proofs.Ends.{all_from, declined}
use Rattle.rt_top.proofs.linking.link.Goals as goal

pub returns-in-Ok : goal.returns-in-Ok
returns-in-Ok g c = λ left faults.
    FileEnds.accepted {status = c.write_both.result} (record {
      made = c.in-Ok.made;
      are = c.in-Ok.ensures.ok;
      written = all_from (Writes c.args.image.now c.in-Ok.made.image) (Writes c.args.map.now c.in-Ok.made.map ∷ []) 0 (g.S.Store.files c.args.store.now) (g.S.Store.files c.prepare.new.store) (g.S.Store.write_faults c.args.store.now) (g.S.Store.write_faults c.prepare.new.store) (g.O.Sink.written c.args.output.now) (g.O.Sink.faults c.args.output.now) (outside (g.S.Store.files c.write_both.new.store) (g.S.Store.write_faults c.write_both.new.store) (g.O.Sink.written c.write_both.new.output) (g.O.Sink.faults c.write_both.new.output)) c.write_both.result c.prepare.ensures.unchanged c.prepare.ensures.writes_later c.write_both.ensures.written;
      input = record { left = refl; faults = refl };
    })

pub returns-in-Err : goal.returns-in-Err
returns-in-Err g c = λ left faults.
    declined _ _ _ (g.S.Store.files c.args.store.now) (g.S.Store.files c.prepare.new.store) (g.S.Store.read_faults c.args.store.now) (g.S.Store.read_faults c.prepare.new.store) (g.S.Store.write_faults c.args.store.now) (g.S.Store.write_faults c.prepare.new.store) (g.O.Sink.written c.args.output.now) (g.O.Sink.written c.decline.new.output) (g.O.Sink.faults c.args.output.now) (g.O.Sink.faults c.decline.new.output) left faults c.decline.result
    c.in-Err.why c.prepare.ensures.unchanged c.prepare.ensures.writes_later c.in-Err.ensures.err
    (c.decline.ensures (g.S.Store.files c.prepare.new.store) (g.S.Store.write_faults c.prepare.new.store))
