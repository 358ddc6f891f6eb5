use Rattle.rt_words.proofs.Growing.{stands_still}
use Rattle.rt_modes.proofs.write.write_data_mode.Goals as goal

pub returns-in_err-pieces-clause-err : goal.returns-in_err-pieces-clause-err
returns-in_err-pieces-clause-err c = stands_still c.from_residual.result _ _
