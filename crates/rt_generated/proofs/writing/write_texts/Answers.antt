use Rattle.rt_generated.proofs.Written.{moment, first_failed, second_failed, third_tried}
use Rattle.rt_generated.proofs.writing.write_texts.Goals as goal

pub returns-then-not-write_one-clause-written : goal.returns-then-not-write_one-clause-written
returns-then-not-write_one-clause-written g c = λ n name written faults are.
    first_failed n name c.args.texts.now are (moment (g.S.Store.files c.args.store.now) (g.S.Store.write_faults c.args.store.now) written faults) (moment (g.S.Store.files c.write_one.new.store) (g.S.Store.write_faults c.write_one.new.store) written faults)
    c.write_one.result c.if-not-write_one.true (c.write_one.ensures.tried written faults)

pub returns-then-not-write_one-2-clause-written : goal.returns-then-not-write_one-2-clause-written
returns-then-not-write_one-2-clause-written g c = λ n name written faults are.
    second_failed n name c.args.texts.now are (moment (g.S.Store.files c.args.store.now) (g.S.Store.write_faults c.args.store.now) written faults) (moment (g.S.Store.files c.write_one.new.store) (g.S.Store.write_faults c.write_one.new.store) written faults) (moment (g.S.Store.files c.write_one-2.new.store) (g.S.Store.write_faults c.write_one-2.new.store) written faults)
    c.write_one.result c.write_one-2.result c.if-not-write_one.false (c.write_one.ensures.tried written faults) c.if-not-write_one-2.true (c.write_one-2.ensures.tried written faults)

pub returns-clause-written : goal.returns-clause-written
returns-clause-written g c = λ n name written faults are.
    third_tried n name c.args.texts.now are (moment (g.S.Store.files c.args.store.now) (g.S.Store.write_faults c.args.store.now) written faults) (moment (g.S.Store.files c.write_one.new.store) (g.S.Store.write_faults c.write_one.new.store) written faults) (moment (g.S.Store.files c.write_one-2.new.store) (g.S.Store.write_faults c.write_one-2.new.store) written faults) (moment (g.S.Store.files c.write_one-3.new.store) (g.S.Store.write_faults c.write_one-3.new.store) written faults)
    c.write_one.result c.write_one-2.result c.write_one-3.result c.if-not-write_one.false (c.write_one.ensures.tried written faults) c.if-not-write_one-2.false (c.write_one-2.ensures.tried written faults) (c.write_one-3.ensures.tried written faults)
