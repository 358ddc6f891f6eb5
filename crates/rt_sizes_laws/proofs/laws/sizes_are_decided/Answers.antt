use Rattle.rt_sizes_laws.proofs.Settled.{sizes_are_decided, passes_are_decided, one_passes}
use Rattle.rt_sizes_laws.proofs.Contained.{rings_are_decided}
use Rattle.rt_sizes_laws.proofs.laws.sizes_are_decided.Goals as goal

pub returns : goal.returns
returns c = record { sizes = sizes_are_decided; passes = passes_are_decided; one = one_passes; rings = rings_are_decided }
