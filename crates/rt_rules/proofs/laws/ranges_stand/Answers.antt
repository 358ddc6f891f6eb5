use Rattle.rt_rules.proofs.Ranges.{ranges-happens, start_in_ranges}
use Rattle.rt_rules.proofs.laws.ranges_stand.Goals as goal

pub returns : goal.returns
returns c = record { start = start_in_ranges; stay = ranges-happens }
