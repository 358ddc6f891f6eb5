use Rattle.std.proofs.Common.{refl, subst}
use Rattle.rt_outside.specs.Deeds.{Performed}
use Rattle.rt_generated.specs.Texts.{writes_of}
use Rattle.rt_accept.specs.Calls.{outside}
use Rattle.rt_headline.specs.Generating.{GenEnds}
use Rattle.rt_top.specs.Going.{asked_go}
use Rattle.rt_top.proofs.Generated.{files_are, gen_ended}
use Rattle.rt_top.proofs.generating.carry_texts.Goals as goal

pub returns-then-write_texts : goal.returns-then-write_texts
returns-then-write_texts g c = λ n name are asked made.
    gen_ended (g.S.Store.files c.args.store.now) (g.S.Store.files c.write_texts.new.store) (g.S.Store.files c.carry_all.new.store) (g.S.Store.read_faults c.args.store.now) (g.S.Store.read_faults c.write_texts.new.store) (g.S.Store.read_faults c.carry_all.new.store) (g.S.Store.write_faults c.args.store.now) (g.S.Store.write_faults c.write_texts.new.store) (g.S.Store.write_faults c.carry_all.new.store)
    (g.O.Sink.written c.args.output.now) (g.O.Sink.written c.carry_all.new.output) (g.O.Sink.faults c.args.output.now) (g.O.Sink.faults c.carry_all.new.output) _ _ _ _
    n name _ (asked_go c.args.words.now) c.carry_all.result c.write_texts.result c.if-write_texts.true (c.write_texts.ensures.written n name (g.O.Sink.written c.args.output.now) (g.O.Sink.faults c.args.output.now) are)
    (files_are n name c.args.texts.now are) asked (c.carry_all.ensures _ n made)

pub returns-else-write_texts : goal.returns-else-write_texts
returns-else-write_texts g c = λ n name are asked made.
    GenEnds.unwritten
    (subst (Performed (writes_of n name) (outside (g.S.Store.files c.args.store.now) (g.S.Store.write_faults c.args.store.now) (g.O.Sink.written c.args.output.now) (g.O.Sink.faults c.args.output.now)) (outside (g.S.Store.files c.write_texts.new.store) (g.S.Store.write_faults c.write_texts.new.store) (g.O.Sink.written c.args.output.now) (g.O.Sink.faults c.args.output.now))) c.if-write_texts.false
    (c.write_texts.ensures.written n name (g.O.Sink.written c.args.output.now) (g.O.Sink.faults c.args.output.now) are))
    (record { left = refl; faults = refl })
