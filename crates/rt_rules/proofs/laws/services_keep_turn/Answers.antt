use Rattle.rt_rules.proofs.Turns.{signal_keeps_turn, release_keeps_turn}
use Rattle.rt_rules.proofs.laws.services_keep_turn.Goals as goal

pub returns : goal.returns
returns c = record { signal = signal_keeps_turn; release = release_keeps_turn }
