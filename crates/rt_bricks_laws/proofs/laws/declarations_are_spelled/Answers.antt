use Rattle.rt_bricks_laws.proofs.SpelledDeclarations.{declarations_are_spelled}
use Rattle.rt_bricks_laws.proofs.laws.declarations_are_spelled.Goals as goal

pub returns : goal.returns
returns c = declarations_are_spelled
