use Rattle.rt_follows.proofs.Calls.{numbers_are_passed}
use Rattle.rt_follows.proofs.laws.numbers_are_passed.Goals as goal

pub returns : goal.returns
returns c = numbers_are_passed
