use Rattle.std.proofs.Common.{[], ◌∷◌}
use Rattle.rt_outside.specs.Deeds.{Writes}
use Rattle.rt_accept.specs.Calls.{outside}
use Rattle.rt_top.proofs.Leaves.{all_well, not_well}
use Rattle.rt_top.proofs.reporting.write_file.Goals as goal

pub returns-in-Ok-clause-written : goal.returns-in-Ok-clause-written
returns-in-Ok-clause-written g c =
    let a = outside (g.S.Store.files c.args.store.now) (g.S.Store.write_faults c.args.store.now) (g.O.Sink.written c.args.output.now) (g.O.Sink.faults c.args.output.now) in
    let b = outside (g.S.Store.files c.perform.new.store) (g.S.Store.write_faults c.perform.new.store) (g.O.Sink.written c.perform.new.output) (g.O.Sink.faults c.perform.new.output) in
    all_well (Writes c.args.name.now c.args.bytes ∷ []) c.args.status a b c.in-Ok.ensures.performed

pub returns-clause-written : goal.returns-clause-written
returns-clause-written g c =
    let a = outside (g.S.Store.files c.args.store.now) (g.S.Store.write_faults c.args.store.now) (g.O.Sink.written c.args.output.now) (g.O.Sink.faults c.args.output.now) in
    let b = outside (g.S.Store.files c.perform.new.store) (g.S.Store.write_faults c.perform.new.store) (g.O.Sink.written c.perform.new.output) (g.O.Sink.faults c.perform.new.output) in
    not_well (Writes c.args.name.now c.args.bytes ∷ []) c.args.status a b c.in-Err.ensures.performed
