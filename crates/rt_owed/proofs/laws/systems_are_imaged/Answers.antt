use Rattle.rt_owed.proofs.laws.systems_are_imaged.Goals as goal
use Rattle.rt_owed.proofs.Imaged.{systems_are_imaged}

pub returns : goal.returns
returns c =
    systems_are_imaged c.full_modes_open.ensures c.modules_fit.ensures c.systems_are_laid.ensures c.addresses_are_filled.ensures.filled c.lowered_procedures_compile.ensures c.systems_are_owed.ensures
    c.images_are_linked.ensures c.parts_suit_their_modes.ensures c.systems_are_imaged_by.ensures
