use Rattle.rt_rules.proofs.Turns.{tick_ends_turn}
use Rattle.rt_rules.proofs.laws.tick_ends_turn.Goals as goal

pub returns : goal.returns
returns c = tick_ends_turn
