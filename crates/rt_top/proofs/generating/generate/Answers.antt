use Rattle.std.proofs.Common.{refl}
use Rattle.rt_headline.specs.Generating.{GenEnds}
use Rattle.rt_top.specs.Going.{asked_go}
use Rattle.rt_top.proofs.Prepared.{begins}
use Rattle.rt_top.proofs.Leaves.{keeps}
use Rattle.rt_top.proofs.generating.generate.Goals as goal

pub carry_texts-requires-clause-begins : goal.carry_texts-requires-clause-begins
carry_texts-requires-clause-begins g c = begins (asked_go c.words_of-words.result) c.in-Ok-make_all.ensures.ready.accepted c.in-Ok-make_all.made.prepared c.in-Ok-make_all.ensures.ready.prepared

pub returns-in-Ok-make_all : goal.returns-in-Ok-make_all
returns-in-Ok-make_all g c =
    c.carry_texts.ensures c.args.n c.args.name.now c.in-Ok.ensures (c.words_of-words.ensures.words c.args.n c.in-Ok.ensures) c.in-Ok-make_all.ensures

pub returns-in-Ok : goal.returns-in-Ok
returns-in-Ok g c = GenEnds.no_memory (record { files = refl; written = keeps (g.O.Sink.written c.args.output.now); input = record { left = refl; faults = refl } })

pub returns : goal.returns
returns g c = GenEnds.no_memory (record { files = refl; written = keeps (g.O.Sink.written c.args.output.now); input = record { left = refl; faults = refl } })
