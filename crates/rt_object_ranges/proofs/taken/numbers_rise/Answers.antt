use Rattle.std.proofs.Common.{◌≡◌, ◌+◌, take, get_or, sym, subst, arith}
use Rattle.rt_object_ranges.proofs.Rising.{RiseTo, rise_more, not_rising}
use Rattle.rt_object_ranges.proofs.taken.numbers_rise.Goals as goal

pub returns-then-value-least : goal.returns-then-value-least
returns-then-value-least c =
    let ns = c.args.numbers.now in
    let i = c.loop-number.number-index in
    let here : get_or ns i 0 ≡ c.from-value.result = sym c.from-value.ensures in
    (λ e. absurd cc, λ h. absurd (not_rising ns i 0 c.loop-number.least (omega arith) c.loop-number.invariant (omega arith) h))

pub loop-number-preserved : goal.loop-number-preserved
loop-number-preserved c =
    let ns = c.args.numbers.now in
    let i = c.loop-number.number-index in
    let here : get_or ns i 0 ≡ c.from-value.result = sym c.from-value.ensures in
    subst (λ n. RiseTo (take (i + 1) ns) (n + 1)) here (rise_more ns i 0 c.loop-number.least (omega arith) c.loop-number.invariant (omega arith))
