use Rattle.std.proofs.Common.{refl}
use Rattle.rt_outside.specs.Deeds.{Writes}
use Rattle.rt_accept.specs.Calls.{outside}
use Rattle.rt_accept.specs.FileEnds.{FileEnds}
use Rattle.rt_accept.specs.Reading.{RefusesModule}
use Rattle.rt_top.proofs.Ends.{done_from, one_file, declined, kept_still}
use Rattle.rt_top.proofs.compiling.compile.Goals as goal

pub returns-in-Ok-write_object : goal.returns-in-Ok-write_object
returns-in-Ok-write_object g c = λ left faults.
    FileEnds.accepted {status = c.write_file.result} (record {
      object = c.in-Ok.compiled;
      has = c.in-Ok.ensures.ok;
      bytes = c.in-Ok-write_object.bytes;
      spelled = c.in-Ok-write_object.ensures;
      written = done_from (Writes c.args.object.now c.in-Ok-write_object.bytes) 0 (g.S.Store.files c.args.store.now) (g.S.Store.files c.accept_module.new.store) (g.S.Store.write_faults c.args.store.now) (g.S.Store.write_faults c.accept_module.new.store) (g.O.Sink.written c.args.output.now) (g.O.Sink.faults c.args.output.now) (outside (g.S.Store.files c.write_file.new.store) (g.S.Store.write_faults c.write_file.new.store) (g.O.Sink.written c.write_file.new.output) (g.O.Sink.faults c.write_file.new.output)) c.write_file.result c.accept_module.ensures.unchanged c.accept_module.ensures.writes_later c.write_file.ensures.written;
      input = record { left = refl; faults = refl };
    })

pub returns-in-Ok : goal.returns-in-Ok
returns-in-Ok g c = λ left faults.
    kept_still _ _ _ (g.S.Store.files c.args.store.now) (g.S.Store.files c.accept_module.new.store) (g.S.Store.read_faults c.args.store.now) (g.S.Store.read_faults c.accept_module.new.store) (g.S.Store.write_faults c.args.store.now) (g.S.Store.write_faults c.accept_module.new.store) (g.O.Sink.written c.args.output.now) (g.O.Sink.written c.args.output.now) (g.O.Sink.faults c.args.output.now) (g.O.Sink.faults c.args.output.now) left faults 30 c.accept_module.ensures.unchanged refl

pub returns : goal.returns
returns g c = λ left faults.
    declined _ _ _ (g.S.Store.files c.args.store.now) (g.S.Store.files c.accept_module.new.store) (g.S.Store.read_faults c.args.store.now) (g.S.Store.read_faults c.accept_module.new.store) (g.S.Store.write_faults c.args.store.now) (g.S.Store.write_faults c.accept_module.new.store) (g.O.Sink.written c.args.output.now) (g.O.Sink.written c.decline.new.output) (g.O.Sink.faults c.args.output.now) (g.O.Sink.faults c.decline.new.output) left faults c.decline.result
    c.in-Err.why c.accept_module.ensures.unchanged c.accept_module.ensures.writes_later
    (one_file c.args.source.now (RefusesModule (g.S.Store.files c.args.store.now) c.args.source.now) (g.S.Store.read_faults c.args.store.now) (g.S.Store.read_faults c.accept_module.new.store) c.in-Err.why c.in-Err.ensures.err)
    (c.decline.ensures (g.S.Store.files c.accept_module.new.store) (g.S.Store.write_faults c.accept_module.new.store))
