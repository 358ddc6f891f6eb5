use Rattle.std.proofs.Common.{sym, ◌∙◌, arith}
use Rattle.std.proofs.lemmas.Option.{slice_get-get_or}
use Rattle.rt_graph.proofs.Told.{told_more}
use Rattle.rt_graph.proofs.stacks.told_need.Goals as goal

pub loop-number-preserved : goal.loop-number-preserved
loop-number-preserved c =
    told_more c.args.procs.now c.args.needs.now c.args.of c.loop-number.number _ (slice_get-get_or c.args.procs.now c.loop-number.number _ (omega arith)) (sym c.is_same.ensures ∙ c.if-is_same.false) c.loop-number.invariant
