use Rattle.std.proofs.Common.{◌≡◌, ◌<◌, OnOk, ap, sym, ◌∙◌, subst, arith}
use Rattle.rt_work_state.specs.Nodes as n
use Rattle.rt_lower.specs.declared.draft.Draft.{Draft}
use Rattle.rt_lower.specs.Drafts as drafts
use Rattle.rt_lower.proofs.Alone.{is_alone, not_alone}
use Rattle.rt_work_state.proofs.Sizes.{size_q}
use Rattle.rt_lower.proofs.draft.Draft.+statements.Goals as goal

pub otherwise-arm-requires : goal.otherwise-arm-requires
otherwise-arm-requires t c =
    let small : size_q (n.seq c.in-Some.inner.taken.now) < size_q (n.seq c.loop-inner.rest.now) = (is_alone c.args.layouts.now (n.seq c.loop-inner.rest.now) (drafts.if_parts c.in-Some.inner) (sym c.in-Some.ensures)).taken in
    (omega (arith, small), tt)

pub otherwise-loop-inner-smaller : goal.otherwise-loop-inner-smaller
otherwise-loop-inner-smaller t c =
    let small : size_q (n.seq c.in-Some.inner.other.now) < size_q (n.seq c.loop-inner.rest.now) = (is_alone c.args.layouts.now (n.seq c.loop-inner.rest.now) (drafts.if_parts c.in-Some.inner) (sym c.in-Some.ensures)).other in
    omega (arith, small)

pub otherwise-loop-inner-preserved : goal.otherwise-loop-inner-preserved
otherwise-loop-inner-preserved t c =
    let l = c.args.layouts.now in
    let small : size_q (n.seq c.in-Some.inner.other.now) < size_q (n.seq c.loop-inner.rest.now) = (is_alone l (n.seq c.loop-inner.rest.now) (drafts.if_parts c.in-Some.inner) (sym c.in-Some.ensures)).other in
    record {
      left = ap (drafts.otherwise l c.args.end (n.seq c.in-Some.inner.other.now)) c.in_ok-arm.ensures
          ∙ sym ((is_alone l (n.seq c.loop-inner.rest.now) (drafts.if_parts c.in-Some.inner) (sym c.in-Some.ensures)).same c.args.end c.loop-inner.self) ∙ c.loop-inner.invariant.left;
      size = omega (arith, small, c.loop-inner.invariant.size);
    }

pub otherwise-returns : goal.otherwise-returns
otherwise-returns t c =
    subst (λ (d : Draft). OnOk c.sequence.result (c.sequence.new.self ≡ d))
    (sym (not_alone c.args.layouts.now (n.seq c.loop-inner.rest.now) c.args.end c.loop-inner.self (sym c.in_default.ensures)) ∙ c.loop-inner.invariant.left)
    c.sequence.ensures
