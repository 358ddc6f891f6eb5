use Rattle.std.proofs.Common.{Result, Ok, Err, IfOk, ◌∙◌}
use Rattle.rt_sizes.proofs.Cycles.{rings_marked}
use Rattle.rt_sizes.proofs.first.mark_rings.Goals as goal

if_ok : {X Y : Type 0} (P Q : X → Type 0) (r : Result X Y) → ((x : X) → P x → Q x) → IfOk r P → IfOk r Q
if_ok P Q (Ok x) h p = h x p
if_ok P Q (Err e) h p = tt

pub returns : goal.returns
returns c = if_ok _ _ c.mark_cycles.result (λ marks on. rings_marked c.args.records.now c.as_slice.result.now marks.items (c.as_slice.ensures ∙ c.in_ok-graph.ensures) on) c.mark_cycles.ensures
