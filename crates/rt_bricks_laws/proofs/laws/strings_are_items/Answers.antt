use Rattle.rt_bricks_laws.proofs.StringBricks.{strings_are_items}
use Rattle.rt_bricks_laws.proofs.laws.strings_are_items.Goals as goal

pub returns : goal.returns
returns c = strings_are_items
