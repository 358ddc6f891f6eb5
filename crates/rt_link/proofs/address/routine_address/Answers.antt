use Rattle.std.proofs.Common.{◌≡◌, ◌+◌, ◌-◌, sym, ap, ◌∙◌, arith}
use Rattle.rt_link.specs.Named.{routine_address}
use Rattle.rt_link.proofs.Routines.{zero_routine, entry_there, entry_none}
use Rattle.rt_link.proofs.address.routine_address.Goals as goal

pub returns-then-number-eq0 : goal.returns-then-number-eq0
returns-then-number-eq0 c = zero_routine ∙ ap routine_address (sym c.if-number-eq0.true)

pub returns-in-Some : goal.returns-in-Some
returns-in-Some c =
    let from = c.from.ensures in
    let some = c.if-number-eq0.false in
    let k = c.from.result - 1 in
    let at : 1 + k ≡ c.args.number = omega arith in
    entry_there c.args.support.now.entries c.requires.entries k c.in-Some.address.now (sym c.in-Some.ensures.value) ∙ ap routine_address at

pub returns-in-None : goal.returns-in-None
returns-in-None c =
    let from = c.from.ensures in
    let some = c.if-number-eq0.false in
    let k = c.from.result - 1 in
    let at : 1 + k ≡ c.args.number = omega arith in
    entry_none c.args.support.now.entries c.requires.entries k (sym c.in-None.ensures.value) ∙ ap routine_address at
