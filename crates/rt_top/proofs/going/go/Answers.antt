use Rattle.std.proofs.Common.{refl}
use Rattle.rt_headline.specs.Carrying.{GoEnds}
use Rattle.rt_top.specs.Going.{asked_go}
use Rattle.rt_top.proofs.Ending.{carried_on, ended, declined}
use Rattle.rt_top.proofs.Prepared.{begins}
use Rattle.rt_top.proofs.Leaves.{keeps}
use Rattle.rt_top.proofs.going.go.Goals as goal

pub returns-in-Ok-prepare_all : goal.returns-in-Ok-prepare_all
returns-in-Ok-prepare_all g c =
    ended (g.S.Store.files c.args.store.now) _ (asked_go c.args.words.now) c.in-Ok.accepted c.carry_out.result c.in-Ok.ensures.ok
    (carried_on (g.S.Store.files c.args.store.now) (g.S.Store.files c.accept.new.store) (g.S.Store.files c.carry_out.new.store) (g.S.Store.read_faults c.args.store.now) (g.S.Store.read_faults c.accept.new.store) (g.S.Store.read_faults c.carry_out.new.store) (g.S.Store.write_faults c.args.store.now) (g.S.Store.write_faults c.accept.new.store) (g.S.Store.write_faults c.carry_out.new.store)
    (g.O.Sink.written c.args.output.now) (g.O.Sink.written c.carry_out.new.output) (g.O.Sink.faults c.args.output.now) (g.O.Sink.faults c.carry_out.new.output) _ _ _ _
    c.accept.ensures.unchanged c.accept.ensures.writes_later (asked_go c.args.words.now) c.in-Ok.accepted.image c.in-Ok.accepted.ticks c.carry_out.result (c.carry_out.ensures c.in-Ok.accepted c.in-Ok-prepare_all.ensures))

pub carry_out-requires-clause-begins : goal.carry_out-requires-clause-begins
carry_out-requires-clause-begins g c = begins (asked_go c.args.words.now) c.in-Ok.accepted c.in-Ok-prepare_all.prepared c.in-Ok-prepare_all.ensures

pub returns-in-Err : goal.returns-in-Err
returns-in-Err g c =
    declined c.stretches_join.ensures.earlier (g.S.Store.files c.args.store.now) (g.S.Store.files c.accept.new.store) (g.S.Store.files c.give_up.new.store) (g.S.Store.read_faults c.args.store.now) (g.S.Store.read_faults c.accept.new.store) (g.S.Store.read_faults c.give_up.new.store) (g.S.Store.write_faults c.args.store.now) (g.S.Store.write_faults c.accept.new.store) (g.S.Store.write_faults c.give_up.new.store)
    (g.O.Sink.written c.args.output.now) (g.O.Sink.written c.give_up.new.output) (g.O.Sink.faults c.args.output.now) (g.O.Sink.faults c.give_up.new.output) _ _
    c.accept.ensures.unchanged c.accept.ensures.writes_later c.give_up.ensures.reads_later (asked_go c.args.words.now) c.give_up.result c.in-Err.why c.in-Err.ensures.err c.give_up.ensures.given_up

pub returns-in-Err-prepare_all : goal.returns-in-Err-prepare_all
returns-in-Err-prepare_all g c = GoEnds.no_memory (record { files = c.accept.ensures.unchanged; written = keeps (g.O.Sink.written c.args.output.now); input = record { left = refl; faults = refl } })
