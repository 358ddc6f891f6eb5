use Rattle.std.proofs.Common.{map, string_bytes, refl}
use Rattle.rt_top.specs.Compiling.{named}
use Rattle.rt_top.specs.Going.{asked_go}
use Rattle.rt_top.specs.Linking.{link_names}
use Rattle.rt_top.specs.Running.{asked}
use Rattle.rt_top.proofs.Clauses.{went, generated, compiled, linked, stacked, ran, showed, told, lent_go, lent_gen, lent_compile, lent_link, lent_stacks, lent_run, lent_show}
use Rattle.rt_top.proofs.command.top.Goals as goal

pub returns-in_default : goal.returns-in_default
returns-in_default g c =
    told (record { goes = c.the_headline_follows.ensures.goes; generates = c.the_headline_follows.ensures.generates }) (map string_bytes c.args.words.now) _ c.tell.result c.in_default.ensures.none
    (record { tells = c.tell.ensures (g.S.Store.files c.args.store.now) (g.S.Store.write_faults c.args.store.now); input = record { left = refl; faults = refl } })

pub returns-in-Go : goal.returns-in-Go
returns-in-Go g c =
    went (record { goes = c.the_headline_follows.ensures.goes; generates = c.the_headline_follows.ensures.generates }) (map string_bytes c.args.words.now) _ c.go.result (asked_go c.in-Go.timed) (lent_go (map string_bytes c.args.words.now) c.in-Some.lent c.in-Go.timed c.in-Go.is c.in-Some.ensures.command) c.go.ensures

pub returns-in-Gen : goal.returns-in-Gen
returns-in-Gen g c =
    generated (record { goes = c.the_headline_follows.ensures.goes; generates = c.the_headline_follows.ensures.generates }) (map string_bytes c.args.words.now) _ c.generate.result c.in-Gen.n c.in-Gen.name.now (lent_gen (map string_bytes c.args.words.now) c.in-Some.lent c.in-Gen.n c.in-Gen.name c.in-Gen.is c.in-Some.ensures.command) c.generate.ensures

pub returns-in-Run : goal.returns-in-Run
returns-in-Run g c =
    ran (record { goes = c.the_headline_follows.ensures.goes; generates = c.the_headline_follows.ensures.generates }) (map string_bytes c.args.words.now) _ c.run.result (asked c.in-Run.timed) (lent_run (map string_bytes c.args.words.now) c.in-Some.lent c.in-Run.timed c.in-Run.is c.in-Some.ensures.command) c.run.ensures

pub returns-in-Show : goal.returns-in-Show
returns-in-Show g c =
    showed (record { goes = c.the_headline_follows.ensures.goes; generates = c.the_headline_follows.ensures.generates }) (map string_bytes c.args.words.now) _ c.show.result c.in-Show.object.now (lent_show (map string_bytes c.args.words.now) c.in-Some.lent c.in-Show.object c.in-Show.is c.in-Some.ensures.command)
    (c.show.ensures _ _)

pub returns-in-Compile : goal.returns-in-Compile
returns-in-Compile g c =
    compiled (record { goes = c.the_headline_follows.ensures.goes; generates = c.the_headline_follows.ensures.generates }) (map string_bytes c.args.words.now) _ c.compile.result (named c.in-Compile.source.now c.in-Compile.object.now) (lent_compile (map string_bytes c.args.words.now) c.in-Some.lent c.in-Compile.source c.in-Compile.object c.in-Compile.is c.in-Some.ensures.command)
    (c.compile.ensures _ _)

pub returns-in-Link : goal.returns-in-Link
returns-in-Link g c =
    linked (record { goes = c.the_headline_follows.ensures.goes; generates = c.the_headline_follows.ensures.generates }) (map string_bytes c.args.words.now) _ c.link.result (link_names c.in-Link.system.now c.in-Link.image.now c.in-Link.map.now) (lent_link (map string_bytes c.args.words.now) c.in-Some.lent c.in-Link.system c.in-Link.image c.in-Link.map c.in-Link.is c.in-Some.ensures.command)
    (c.link.ensures _ _)

pub returns-in-Stacks : goal.returns-in-Stacks
returns-in-Stacks g c =
    stacked (record { goes = c.the_headline_follows.ensures.goes; generates = c.the_headline_follows.ensures.generates }) (map string_bytes c.args.words.now) _ c.stacks.result c.in-Stacks.system.now (lent_stacks (map string_bytes c.args.words.now) c.in-Some.lent c.in-Stacks.system c.in-Stacks.is c.in-Some.ensures.command)
    (c.stacks.ensures _ _)
