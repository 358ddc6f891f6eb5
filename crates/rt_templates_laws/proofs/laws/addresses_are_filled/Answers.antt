use Rattle.rt_templates_laws.proofs.Filling.{places_rise, addresses_are_filled}
use Rattle.rt_templates_laws.proofs.laws.addresses_are_filled.Goals as goal

pub returns : goal.returns
returns c = record { rise = places_rise; filled = addresses_are_filled }
