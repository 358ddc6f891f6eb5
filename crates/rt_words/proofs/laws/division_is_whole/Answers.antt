use Rattle.rt_words.proofs.Numbers.{makes_up, remainder_below}
use Rattle.rt_words.proofs.laws.division_is_whole.Goals as goal

-- src/laws.rt:34:1
pub returns-clause-makes_up : goal.returns-clause-makes_up
returns-clause-makes_up c = makes_up

-- src/laws.rt:34:1
pub returns-clause-below : goal.returns-clause-below
returns-clause-below c = remainder_below
