use Rattle.std.proofs.Common.{◌≡◌, Some, None, slice_get, sym, ap, ◌∙◌}
use Rattle.std.specs.Option.{option_copied}
use Rattle.rt_check_module.proofs.Pendings.{made_no_further, made_nothing, fields_next}
use Rattle.rt_check_module.proofs.unwritten.make_record.Goals as goal

pub returns-then-levels-eq0 : goal.returns-then-levels-eq0
returns-then-levels-eq0 c = made_no_further c.args.modes.now.records c.args.pending.now c.args.made.now c.push.new.self c.args.levels c.args.number c.push.result c.if-levels-eq0.true c.push.ensures.ok

pub returns-in-None : goal.returns-in-None
returns-in-None c =
    let found : slice_get c.args.modes.now.records c.args.number ≡ None = ap (slice_get c.args.modes.now.records) (sym c.from.ensures) ∙ sym c.get.ensures.value ∙ ap option_copied c.in-None.is in
    made_nothing c.args.modes.now.records c.args.pending.now c.args.made.now c.push-in-None.new.self c.args.levels c.args.number c.push-in-None.result found c.push-in-None.ensures.ok

pub returns-in-Some : goal.returns-in-Some
returns-in-Some c =
    let found : slice_get c.args.modes.now.records c.args.number ≡ Some c.in-Some.definition.now = ap (slice_get c.args.modes.now.records) (sym c.from.ensures) ∙ sym c.get.ensures.value ∙ ap option_copied c.in-Some.is in
    fields_next c.args.modes.now.records c.args.pending.now c.plan_fields.new.pending c.args.made.now c.args.levels c.args.number c.in-Some.definition.now c.as_slice.result.now c.plan_fields.result c.if-levels-eq0.false found c.as_slice.ensures c.plan_fields.ensures
