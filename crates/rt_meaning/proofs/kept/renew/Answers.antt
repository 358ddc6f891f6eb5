use Rattle.std.proofs.Common.{◌∙◌, add-one}
use Rattle.std.proofs.lemmas.List.{length-set}
use Rattle.rt_meaning.proofs.Counts.{renewed}
use Rattle.rt_meaning.proofs.kept.renew.Goals as goal

pub loop-at-preserved : goal.loop-at-preserved
loop-at-preserved c =
    rw c.set.ensures (length-set _ _ _ ∙ c.loop-at.invariant.0, rw add-one (renewed c.args.rows.now c.loop-at.ends c.loop-at.at _ c.loop-at-test.true c.loop-at.invariant.0 c.loop-at.invariant.1))
