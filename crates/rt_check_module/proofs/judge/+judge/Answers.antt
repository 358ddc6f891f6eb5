use Rattle.std.proofs.Common.{map, refl, sym, ap, ◌∙◌, ◌||◌}
use Rattle.rt_modes.specs.declared.mode.Mode.{out-Mode}
use Rattle.rt_exprs.specs.Operands.{is_label}
use Rattle.rt_exprs.specs.Names.{find}
use Rattle.rt_check_module.specs.declared.parts.Wanted.TheVariants as seen
use Rattle.rt_check_module.specs.Starts.{elements, fields, nothing, each_fits, fields_fit, in_each, in_fields, written_in}
use Rattle.rt_check_module.proofs.Lists.{list_fits, list_private, a_list, wanted_there}
use Rattle.rt_check_module.proofs.Steps.{privates, field_fits, field_noted, part_fits, part_noted, part_fields_fit, part_fields_noted}
use Rattle.rt_check_declared.specs.Verdicts.{with_faults}
use Rattle.rt_check_module.proofs.judge.+judge.Goals as goal

pub judge-returns-in-Elements-clause-fits : goal.judge-returns-in-Elements-clause-fits
judge-returns-in-Elements-clause-fits t c =
    let e = list_fits c.args.scope.now.records (find c.args.scope.now) c.args.scope.now.strings c.args.start.now c.in-List.parts c.in-List.field-1 c.in-List.field-2 c.args.mode.now (elements c.in-Elements.of.now) (a_list c.args.start.now c.in-List.parts c.in-List.field-1 c.in-List.field-2 c.in-List.is)
    (wanted_there c.args.scope.now.records c.in-List.parts c.as_slice-in-List.result.now c.args.mode.now c.want.result (seen.Elements c.in-Elements.of) c.as_slice-in-List.ensures (rw c.table.ensures at c.want.ensures) c.in-Elements.is) in
    c.judge_each.ensures.fits ∙ ap (λ x. each_fits (map (written_in c.args.scope.now) x) c.in-Elements.of.now) c.as_slice-in-Elements.ensures ∙ sym e

pub judge-returns-in-Elements-clause-private : goal.judge-returns-in-Elements-clause-private
judge-returns-in-Elements-clause-private t c =
    let e = list_private c.args.scope.now.records (find c.args.scope.now) c.args.scope.now.strings c.args.start.now c.in-List.parts c.in-List.field-1 c.in-List.field-2 c.args.mode.now (elements c.in-Elements.of.now) (a_list c.args.start.now c.in-List.parts c.in-List.field-1 c.in-List.field-2 c.in-List.is)
    (wanted_there c.args.scope.now.records c.in-List.parts c.as_slice-in-List.result.now c.args.mode.now c.want.result (seen.Elements c.in-Elements.of) c.as_slice-in-List.ensures (rw c.table.ensures at c.want.ensures) c.in-Elements.is) in
    c.judge_each.ensures.private ∙ ap (λ x. with_faults c.args.faults.now (in_each privates (map (written_in c.args.scope.now) x) c.in-Elements.of.now)) c.as_slice-in-Elements.ensures ∙ sym (ap (with_faults c.args.faults.now) e)

pub judge-returns-in-Fields-clause-fits : goal.judge-returns-in-Fields-clause-fits
judge-returns-in-Fields-clause-fits t c =
    let e = list_fits c.args.scope.now.records (find c.args.scope.now) c.args.scope.now.strings c.args.start.now c.in-List.parts c.in-List.field-1 c.in-List.field-2 c.args.mode.now (fields c.in-Fields.fields.now) (a_list c.args.start.now c.in-List.parts c.in-List.field-1 c.in-List.field-2 c.in-List.is)
    (wanted_there c.args.scope.now.records c.in-List.parts c.as_slice-in-List.result.now c.args.mode.now c.want.result (seen.Fields c.in-Fields.fields) c.as_slice-in-List.ensures (rw c.table.ensures at c.want.ensures) c.in-Fields.is) in
    c.judge_fields.ensures.fits ∙ ap (λ x. fields_fit (map (written_in c.args.scope.now) x) c.in-Fields.fields.now) c.as_slice-in-Fields.ensures ∙ sym e

pub judge-returns-in-Fields-clause-private : goal.judge-returns-in-Fields-clause-private
judge-returns-in-Fields-clause-private t c =
    let e = list_private c.args.scope.now.records (find c.args.scope.now) c.args.scope.now.strings c.args.start.now c.in-List.parts c.in-List.field-1 c.in-List.field-2 c.args.mode.now (fields c.in-Fields.fields.now) (a_list c.args.start.now c.in-List.parts c.in-List.field-1 c.in-List.field-2 c.in-List.is)
    (wanted_there c.args.scope.now.records c.in-List.parts c.as_slice-in-List.result.now c.args.mode.now c.want.result (seen.Fields c.in-Fields.fields) c.as_slice-in-List.ensures (rw c.table.ensures at c.want.ensures) c.in-Fields.is) in
    c.judge_fields.ensures.private ∙ ap (λ x. with_faults c.args.faults.now (in_fields privates (map (written_in c.args.scope.now) x) c.in-Fields.fields.now)) c.as_slice-in-Fields.ensures ∙ sym (ap (with_faults c.args.faults.now) e)

pub judge-returns-in-Nothing-clause-fits : goal.judge-returns-in-Nothing-clause-fits
judge-returns-in-Nothing-clause-fits t c =
    let e = list_fits c.args.scope.now.records (find c.args.scope.now) c.args.scope.now.strings c.args.start.now c.in-List.parts c.in-List.field-1 c.in-List.field-2 c.args.mode.now nothing (a_list c.args.start.now c.in-List.parts c.in-List.field-1 c.in-List.field-2 c.in-List.is)
    (wanted_there c.args.scope.now.records c.in-List.parts c.as_slice-in-List.result.now c.args.mode.now c.want.result seen.Nothing c.as_slice-in-List.ensures (rw c.table.ensures at c.want.ensures) c.in-Nothing.is) in
    sym e

pub judge-returns-in-Nothing-clause-private : goal.judge-returns-in-Nothing-clause-private
unfolding with_faults
judge-returns-in-Nothing-clause-private t c =
    let e = list_private c.args.scope.now.records (find c.args.scope.now) c.args.scope.now.strings c.args.start.now c.in-List.parts c.in-List.field-1 c.in-List.field-2 c.args.mode.now nothing (a_list c.args.start.now c.in-List.parts c.in-List.field-1 c.in-List.field-2 c.in-List.is)
    (wanted_there c.args.scope.now.records c.in-List.parts c.as_slice-in-List.result.now c.args.mode.now c.want.result seen.Nothing c.as_slice-in-List.ensures (rw c.table.ensures at c.want.ensures) c.in-Nothing.is) in
    sym (ap (with_faults c.args.faults.now) e)

pub judge_each-loop-part-preserved : goal.judge_each-loop-part-preserved
judge_each-loop-part-preserved t c = record {
  fit = part_fits c.args.scope.now.records (find c.args.scope.now) c.args.scope.now.strings c.args.parts.now c.loop-part.part-index c.part-item.result c.loop-part-test.true c.part-item.is c.args.mode.now c.loop-part.fit _ c.judge-next.result _ c.judge-next.ensures.fits refl c.loop-part.invariant.fit;
  noted = part_noted c.args.scope.now.records (find c.args.scope.now) c.args.scope.now.strings c.args.parts.now c.loop-part.part-index c.part-item.result c.loop-part-test.true c.part-item.is c.args.mode.now c.loop-part.faults c.judge-next.new.faults _ c.judge-next.ensures.private c.loop-part.invariant.noted;
}

pub judge_fields-loop-field-preserved : goal.judge_fields-loop-field-preserved
judge_fields-loop-field-preserved t c =
    let w = written_in c.args.scope.now c.part-item.result in record {
      fit = field_fits w c.next_fields.result.0.now c.loop-field.field-index c.field-item.result c.loop-field-test.true c.field-item.is c.loop-field.fit _ c.starts_field-fit.result _ (c.starts_field-fit.ensures ∙ ap (λ b. is_label (out-Mode c.field-item.result.mode) || b) c.judge-next.ensures.fits) refl c.loop-field.invariant.fit;
      noted = field_noted w c.next_fields.result.0.now c.loop-field.field-index c.field-item.result c.loop-field-test.true c.field-item.is c.loop-field.faults c.judge-next.new.faults _ c.judge-next.ensures.private c.loop-field.invariant.noted;
    }

pub judge_fields-loop-part-preserved : goal.judge_fields-loop-part-preserved
judge_fields-loop-part-preserved t c = record {
  fit = part_fields_fit c.args.scope.now.records (find c.args.scope.now) c.args.scope.now.strings c.args.parts.now c.loop-part.part-index c.part-item.result c.loop-part-test.true c.part-item.is c.loop-part.left.now c.next_fields.result.0.now c.next_fields.result.1.now c.next_fields.ensures.these
      c.next_fields.ensures.rest c.loop-field.field-index c.loop-part.fit c.loop-field.fit _ c.loop-field-test.false c.loop-field.invariant.fit c.loop-part.invariant.fit;
  noted = part_fields_noted c.args.scope.now.records (find c.args.scope.now) c.args.scope.now.strings c.args.parts.now c.loop-part.part-index c.part-item.result c.loop-part-test.true c.part-item.is c.loop-part.left.now c.next_fields.result.0.now c.next_fields.result.1.now c.next_fields.ensures.these
      c.next_fields.ensures.rest c.loop-field.field-index c.loop-part.faults c.loop-field.faults _ c.loop-field-test.false c.loop-field.invariant.noted c.loop-part.invariant.noted;
}
