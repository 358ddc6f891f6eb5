use Rattle.rt_owed.proofs.laws.systems_are_owed.Goals as goal
use Rattle.rt_owed.proofs.Owed.{systems_are_owed}

pub returns : goal.returns
returns c =
    let needs = c.needs_are_exact.ensures in
    let keeps = c.lowering_keeps.ensures in
    systems_are_owed c.full_modes_open.ensures needs.points needs.depths needs.services needs.some c.code_is_within.ensures.within keeps.procedures keeps.steady c.modules_fit.ensures
