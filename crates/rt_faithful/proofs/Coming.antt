-- What comes of a service may come of it.
use Rattle.std.proofs.Common.{arith}
use Rattle.rt_rules_laws.specs.Laws.{RunsAlive}
use Rattle.rt_meaning_laws.proofs.Running.{comes}
use Rattle.rt_faithful.specs.Laws.{WhatComesMayCome}

pub what_comes : RunsAlive → WhatComesMayCome
what_comes runs_alive r taken i next q ranges runs small =
    let there = (runs_alive r i ranges runs).0.1 in
    let few = ranges.few in
    comes r taken i next q (omega (arith, there, few)) small
