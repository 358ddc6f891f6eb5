use Rattle.std.proofs.Common.{◌+◌, ◌*◌, sym, ap}
use Rattle.rt_link.proofs.Summed.{support_is}
use Rattle.rt_link.proofs.sums.code_start.Goals as goal

pub returns : goal.returns
returns c = ap (λ n. n + 6 * c.args.number) (sym support_is)
