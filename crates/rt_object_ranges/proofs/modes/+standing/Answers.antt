use Rattle.std.proofs.Common.{sym, subst, ◌∙◌, arith}
use Rattle.std.specs.List.{All}
use Rattle.std.proofs.lemmas.Bool.{ltb-true}
use Rattle.std.proofs.lemmas.List.Elements.{All-from_recursion, recursion_from_All}
use Rattle.rt_modes.specs.Spelling.{StandsInside}
use Rattle.rt_modes.specs.declared.code.Place.TheVariants.{Inside, Passed}
use Rattle.rt_object_ranges.proofs.Standing.{inside_is_passed, no_record_passed, none_stands, passed_is_inside, stands_in, stands_out}
use Rattle.rt_object_ranges.proofs.modes.+standing.Goals as goal

pub is_passed-returns-then-not-is_record : goal.is_passed-returns-then-not-is_record
is_passed-returns-then-not-is_record t c =
    let other = sym c.is_record.ensures ∙ c.if-not-is_record.true in (
      λ e. inside_is_passed c.args.records 8 c.args.mode.now other c.args.levels (c.stands_inside.ensures.0 e),
      λ h. c.stands_inside.ensures.1 (passed_is_inside c.args.records 8 c.args.mode.now c.args.levels h),
    )

pub is_passed-returns-else-not-is_record : goal.is_passed-returns-else-not-is_record
is_passed-returns-else-not-is_record t c =
    let record_there = sym c.is_record.ensures ∙ c.if-not-is_record.false in
    (λ e. absurd (let f = c.if-not-is_record.false in cc), λ h. absurd (no_record_passed c.args.records 8 c.args.mode.now record_there c.args.levels h))

pub opens_proc-returns-then-are_passed : goal.opens_proc-returns-then-are_passed
opens_proc-returns-then-are_passed t c =
    let few = c.if-len-gt-PARAMETERS.false in
    let count = c.len.ensures in
    let some = c.if-levels-eq0.false in
    let P = StandsInside c.args.records c.args.levels Passed 8 in
    let all = subst (All P) c.as_slice.ensures (c.are_passed.ensures.0 c.if-are_passed.true) in
    (λ e. (omega arith, omega arith, recursion_from_All P c.args.parameters.now all, c.may_be_answer.ensures.0 e), λ h. c.may_be_answer.ensures.1 h.3)

pub opens_proc-returns-else-are_passed : goal.opens_proc-returns-else-are_passed
opens_proc-returns-else-are_passed t c =
    let P = StandsInside c.args.records c.args.levels Passed 8 in
    (λ e. absurd (let f = c.if-are_passed.false in cc), λ h. c.are_passed.ensures.1 (subst (All P) (sym c.as_slice.ensures) (All-from_recursion P c.args.parameters.now h.2)))

pub stands_inside-returns-then-levels-gt0 : goal.stands_inside-returns-then-levels-gt0
stands_inside-returns-then-levels-gt0 t c =
    let some = c.if-levels-gt0.true in (
      λ e. stands_in c.args.records Inside c.args.refs c.args.mode.now c.args.levels some (c.opens_inside.ensures.0 e),
      λ h. c.opens_inside.ensures.1 (stands_out c.args.records Inside c.args.refs c.args.mode.now c.args.levels some h),
    )

pub stands_inside-returns-else-levels-gt0 : goal.stands_inside-returns-else-levels-gt0
stands_inside-returns-else-levels-gt0 t c = (
  λ e. let some = ltb-true 0 c.args.levels e in let none = c.if-levels-gt0.false in absurd (omega arith),
  λ h. let none = c.if-levels-gt0.false in absurd (none_stands c.args.records Inside c.args.refs c.args.mode.now c.args.levels (omega arith) h),
)
