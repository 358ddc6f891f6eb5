use Rattle.rt_rules.proofs.Owners.{tick_keeps, owner_changes}
use Rattle.rt_rules.proofs.laws.owners_keep_facilities.Goals as goal

pub returns : goal.returns
returns c = record { tick = tick_keeps; service = owner_changes }
