use Rattle.rt_sizes_laws.proofs.Deeper.{whole_lists_are_known}
use Rattle.rt_sizes_laws.proofs.Ringless.{sizes_have_no_ring}
use Rattle.rt_sizes_laws.proofs.Sized.{modes_have_sizes, fields_have_places, no_rings}
use Rattle.rt_sizes_laws.proofs.laws.modes_have_sizes.Goals as goal

pub returns : goal.returns
returns c = record { modes = modes_have_sizes; only = sizes_have_no_ring; fields = fields_have_places; rings = no_rings; known = whole_lists_are_known }
