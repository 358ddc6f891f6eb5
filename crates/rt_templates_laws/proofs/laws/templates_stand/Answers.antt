use Rattle.rt_templates_laws.proofs.Standing.{templates_stand, ways_lead_inside}
use Rattle.rt_templates_laws.proofs.laws.templates_stand.Goals as goal

pub returns : goal.returns
returns c = record { stand = templates_stand; ways = ways_lead_inside }
