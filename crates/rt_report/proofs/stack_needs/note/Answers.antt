use Rattle.std.proofs.Common.{◌≡◌, ◌&&◌, eqb, cond, ℕ, Option, Some, None, Bool, false, refl, sym, ap, ◌∙◌, arith}
use Rattle.std.proofs.lemmas.Bool.Decides.{nat_tests}
use Rattle.std.specs.BTreeMap.{is_at}
use Rattle.std.specs.Option.{is_some}
use Rattle.std.specs.Ordering.{nat_cmp, ordering_then}
use Rattle.rt_report.specs.StackNeeds.{need_in}
use Rattle.rt_report.proofs.Noted.{adds_first}
use Rattle.rt_report.proofs.stack_needs.note.Goals as goal

same_at : (a b c d : ℕ) → is_at (λ (y : ℕ × ℕ). ordering_then (nat_cmp a y.0) (nat_cmp b y.1)) (c, d) ≡ (eqb a c && eqb b d)
same_at a b c d = grind (arith, nat_tests)

is_none : (o : Option ℕ) → is_some o ≡ false → o ≡ None
is_none None e = refl
is_none (Some n) e = absurd cc

pub returns-in-Ok : goal.returns-in-Ok
returns-in-Ok c =
    let old = c.args.map.now in
    let f = c.args.of in
    adds_first f c.args.need old c.insert.new.self (sym c.need_of.ensures ∙ is_none c.need_of.result (sym c.is_some.ensures ∙ c.if-is_some.false))
    (λ g. c.in-Ok.ensures.updates.0 (g.«module», g.brick) ∙ ap (λ (b : Bool). cond b (Some c.args.need) (need_in old g)) (same_at f.«module» f.brick g.«module» g.brick))
