use Rattle.std.proofs.Common.{sym, subst, ◌∙◌}
use Rattle.rt_sizes.specs.Rings.{IsFirstRing}
use Rattle.rt_sizes.proofs.Cycles.{sorted_rings}
use Rattle.rt_sizes.proofs.first.first_ring.Goals as goal

pub returns : goal.returns
returns c =
    subst (IsFirstRing c.args.records.now) (sym c.begun_by.ensures)
    (sorted_rings c.args.records.now c.as_slice.result.now c.as_slice-2.result.now c.in_ok-sorted.sorted (c.as_slice.ensures ∙ c.in_ok-graph.ensures) (c.as_slice-2.ensures ∙ c.in_ok-roots.ensures) c.in_ok-sorted.ensures)
