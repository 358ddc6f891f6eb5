use Rattle.std.proofs.Common.{ap, ◌∙◌, ◌<◌, length, arith}
use Rattle.rt_lower.specs.Drafts.{grown}
use Rattle.rt_lower.proofs.Growing.{grown_more}
use Rattle.rt_lower.proofs.draft.grow.Goals as goal

pub loop-labels-preserved : goal.loop-labels-preserved
loop-labels-preserved c =
    let few : length c.loop-labels.labels < c.args.count = omega arith in
    ap (grown c.args.count) c.in_ok-push.ensures.ok ∙ grown_more c.args.count c.loop-labels.labels few ∙ c.loop-labels.invariant
