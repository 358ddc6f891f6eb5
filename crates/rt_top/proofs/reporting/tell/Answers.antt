use Rattle.std.proofs.Common.{[], ◌∷◌, refl, rules}
use Rattle.rt_outside.specs.Deeds.{Puts, done, failed, nothing}
use Rattle.rt_top.proofs.Leaves.{all_well, not_well, put_later}
use Rattle.rt_top.proofs.reporting.tell.Goals as goal

pub returns-in-Ok : goal.returns-in-Ok
returns-in-Ok g c = λ files writes.
    all_well (Puts c.args.text.now ∷ []) c.args.status _ _
    (done (c.in-Ok.ensures.ok, refl, put_later files writes (g.O.Sink.written c.args.output.now) (g.O.Sink.written c.put_all.new.self) (g.O.Sink.faults c.args.output.now) (g.O.Sink.faults c.put_all.new.self) c.put_all.ensures.later) nothing)

pub returns-in-Err : goal.returns-in-Err
returns-in-Err g c = λ files writes.
    not_well (Puts c.args.text.now ∷ []) c.args.status _ _
    (failed (search rules, c.in-Err.ensures.err, refl, put_later files writes (g.O.Sink.written c.args.output.now) (g.O.Sink.written c.put_all.new.self) (g.O.Sink.faults c.args.output.now) (g.O.Sink.faults c.put_all.new.self) c.put_all.ensures.later))
