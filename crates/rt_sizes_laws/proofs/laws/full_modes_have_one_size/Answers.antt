use Rattle.rt_sizes_laws.proofs.Lying.{one_size, one_record, one_element}
use Rattle.rt_sizes_laws.proofs.laws.full_modes_have_one_size.Goals as goal

pub returns : goal.returns
returns c = record { sizes = one_size c.full_modes_open.ensures; records = one_record c.full_modes_open.ensures; elements = one_element c.full_modes_open.ensures }
