use Rattle.std.proofs.Common.{map, ap}
use Rattle.rt_exprs.specs.Kept.{shown}
use Rattle.rt_exprs.proofs.level.Level.new.Goals as goal

pub returns : goal.returns
returns c = ap (map shown) c.new.ensures.empty
