use Rattle.rt_items.proofs.Expanded.{all_in_range}
use Rattle.rt_items.proofs.laws.items_are_in_range.Goals as goal

pub returns : goal.returns
returns c = all_in_range
