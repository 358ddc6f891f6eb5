use Rattle.rt_exprs.specs.Modes.{want}
use Rattle.rt_exprs.proofs.Judged.{one_fits, none_fits}
use Rattle.rt_exprs.proofs.expression.one_value.Goals as goal

pub returns : goal.returns
returns c = record { one = λ s e m x y h k. one_fits s e (want m) x y h k; none = λ s e m x g h k. none_fits s e (want m) x g h k }
