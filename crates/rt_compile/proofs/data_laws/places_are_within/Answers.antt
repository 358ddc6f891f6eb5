use Rattle.rt_compile.proofs.Places.{data_within}
use Rattle.rt_compile.proofs.data_laws.places_are_within.Goals as goal

pub returns : goal.returns
returns c = λ l s fs ss. data_within l s fs ss
