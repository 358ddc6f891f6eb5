use Rattle.std.proofs.Common.{refl, ◌∙◌}
use Rattle.rt_outside.specs.Deeds.{Writes}
use Rattle.rt_report.specs.Faults.{refusal_text, status_of}
use Rattle.rt_accept.specs.Calls.{outside, IsKept, Reports}
use Rattle.rt_top.specs.Running.{asked, carried, no_memory}
use Rattle.rt_top.proofs.Leaves.{keeps, keeps_by}
use Rattle.rt_top.proofs.Ends.{carried_from, done_from, refused_by, unread_by, run_left}
use Rattle.rt_top.proofs.running.run.Goals as goal

pub returns-in-Ok-prepare : goal.returns-in-Ok-prepare
returns-in-Ok-prepare g c =
    carried {image = c.in-Ok.accepted.image} {gaps = c.in-Ok.accepted.ticks} {status = c.finish.result} c.in-Ok.ensures.image c.in-Ok.ensures.ticks
    (carried_from _ (g.S.Store.files c.args.store.now) (g.S.Store.read_faults c.args.store.now) (g.S.Store.write_faults c.args.store.now) c.args.words.now.limit c.args.words.now.last.now c.in-Ok.accepted.image c.in-Ok.accepted.ticks c.finish.result
    c.accept.ensures.unchanged c.accept.ensures.writes_later (c.finish.ensures c.in-Ok.accepted.image c.in-Ok.accepted.ticks c.in-Ok-prepare.ensures))

pub returns-in-Err : goal.returns-in-Err
returns-in-Err g c = no_memory (record { files = c.accept.ensures.unchanged; written = keeps (g.O.Sink.written c.args.output.now); input = record { left = refl; faults = refl } })

pub returns-in-Err-Memory : goal.returns-in-Err-Memory
returns-in-Err-Memory g c = no_memory (record { files = c.accept.ensures.unchanged; written = keeps (g.O.Sink.written c.args.output.now); input = record { left = refl; faults = refl } })

pub returns-in-Err-Refused : goal.returns-in-Err-Refused
returns-in-Err-Refused g c =
    run_left _ (asked c.args.words.now) c.refuse.result (IsKept (outside (g.S.Store.files c.accept.new.store) (g.S.Store.write_faults c.accept.new.store) (g.O.Sink.written c.args.output.now) (g.O.Sink.faults c.args.output.now)) (outside (g.S.Store.files c.refuse.new.store) (g.S.Store.write_faults c.refuse.new.store) (g.O.Sink.written c.refuse.new.output) (g.O.Sink.faults c.refuse.new.output)))
    (Reports c.args.words.now.last.now (refusal_text c.in-Err-Refused.fault) (status_of c.in-Err-Refused.fault) (outside (g.S.Store.files c.accept.new.store) (g.S.Store.write_faults c.accept.new.store) (g.O.Sink.written c.args.output.now) (g.O.Sink.faults c.args.output.now)) (outside (g.S.Store.files c.refuse.new.store) (g.S.Store.write_faults c.refuse.new.store) (g.O.Sink.written c.refuse.new.output) (g.O.Sink.faults c.refuse.new.output)) c.refuse.result)
    (λ w. no_memory (record { files = w.files ∙ c.accept.ensures.unchanged; written = keeps_by (g.O.Sink.written c.args.output.now) (g.O.Sink.written c.refuse.new.output) w.written; input = record { left = refl; faults = refl } }))
    (λ t. refused_by _ (g.S.Store.read_faults c.accept.new.store) (asked c.args.words.now) c.in-Err-Refused.fault c.refuse.result c.in-Err-Refused.field-0 c.in-Err-Refused.field-0-is c.in-Err-Refused.ensures.err
    (record { reported = done_from (Writes c.args.words.now.last.now (refusal_text c.in-Err-Refused.fault)) (status_of c.in-Err-Refused.fault) (g.S.Store.files c.args.store.now) (g.S.Store.files c.accept.new.store) (g.S.Store.write_faults c.args.store.now) (g.S.Store.write_faults c.accept.new.store) (g.O.Sink.written c.args.output.now) (g.O.Sink.faults c.args.output.now) _ c.refuse.result c.accept.ensures.unchanged c.accept.ensures.writes_later t; input = record { left = refl; faults = refl } }))
    c.refuse.ensures.refused

pub returns-in-Err-Failed : goal.returns-in-Err-Failed
returns-in-Err-Failed g c =
    run_left _ (asked c.args.words.now) c.refuse-in-Err-Failed.result (IsKept (outside (g.S.Store.files c.accept.new.store) (g.S.Store.write_faults c.accept.new.store) (g.O.Sink.written c.args.output.now) (g.O.Sink.faults c.args.output.now)) (outside (g.S.Store.files c.refuse-in-Err-Failed.new.store) (g.S.Store.write_faults c.refuse-in-Err-Failed.new.store) (g.O.Sink.written c.refuse-in-Err-Failed.new.output) (g.O.Sink.faults c.refuse-in-Err-Failed.new.output)))
    (Reports c.args.words.now.last.now (refusal_text c.in-Err-Failed.fault) (status_of c.in-Err-Failed.fault) (outside (g.S.Store.files c.accept.new.store) (g.S.Store.write_faults c.accept.new.store) (g.O.Sink.written c.args.output.now) (g.O.Sink.faults c.args.output.now)) (outside (g.S.Store.files c.refuse-in-Err-Failed.new.store) (g.S.Store.write_faults c.refuse-in-Err-Failed.new.store) (g.O.Sink.written c.refuse-in-Err-Failed.new.output) (g.O.Sink.faults c.refuse-in-Err-Failed.new.output)) c.refuse-in-Err-Failed.result)
    (λ w. no_memory (record { files = w.files ∙ c.accept.ensures.unchanged; written = keeps_by (g.O.Sink.written c.args.output.now) (g.O.Sink.written c.refuse-in-Err-Failed.new.output) w.written; input = record { left = refl; faults = refl } }))
    (λ t. unread_by _ (g.S.Store.read_faults c.accept.new.store) (asked c.args.words.now) c.in-Err-Failed.fault c.refuse-in-Err-Failed.result c.in-Err-Failed.field-0 c.refuse-in-Err-Failed.ensures.reads_later c.in-Err-Failed.field-0-is c.in-Err-Failed.ensures.err
    (record { reported = done_from (Writes c.args.words.now.last.now (refusal_text c.in-Err-Failed.fault)) (status_of c.in-Err-Failed.fault) (g.S.Store.files c.args.store.now) (g.S.Store.files c.accept.new.store) (g.S.Store.write_faults c.args.store.now) (g.S.Store.write_faults c.accept.new.store) (g.O.Sink.written c.args.output.now) (g.O.Sink.faults c.args.output.now) _ c.refuse-in-Err-Failed.result c.accept.ensures.unchanged c.accept.ensures.writes_later t; input = record { left = refl; faults = refl } }))
    c.refuse-in-Err-Failed.ensures.refused
