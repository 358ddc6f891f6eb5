use Rattle.rt_bricks.proofs.Exact.{one_module}
use Rattle.rt_bricks.proofs.parse.one_module.Goals as goal

pub returns : goal.returns
returns g = one_module
