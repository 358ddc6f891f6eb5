use Rattle.rt_replay.proofs.OneAnswer.{one_answer}
use Rattle.rt_replay.proofs.SomeAnswer.{some_answer}
use Rattle.rt_replay.proofs.laws.replays_have_one_answer.Goals as goal

pub returns-clause-one : goal.returns-clause-one
returns-clause-one c = one_answer

pub returns-clause-some : goal.returns-clause-some
returns-clause-some c = some_answer
