use Rattle.std.proofs.Common.{◌∙◌, arith}
use Rattle.rt_meaning.proofs.Locals.{locals_more}
use Rattle.rt_meaning.proofs.system.locals_of.Goals as goal

pub loop-locals-preserved : goal.loop-locals-preserved
loop-locals-preserved c = rw c.in_ok-push.ensures.ok (locals_more c.loop-locals.locals c.args.size (omega arith) ∙ c.loop-locals.invariant)
