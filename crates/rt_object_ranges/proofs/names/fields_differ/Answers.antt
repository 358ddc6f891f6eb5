use Rattle.std.proofs.Common.{sym, ◌∙◌, arith, refl, map, take}
use Rattle.rt_modes.specs.declared.mode.Field.{Field}
use Rattle.rt_object_ranges.proofs.NamesDiffer.{known_more, differ_more, not_differ, all_differ}
use Rattle.rt_object_ranges.proofs.names.fields_differ.Goals as goal

pub returns-then-not-branch : goal.returns-then-not-branch
returns-then-not-branch c =
    let old = sym (c.in_ok-note.ensures.new (take c.loop-field.field-index (map (λ (x : Field). x.name) c.args.fields.now)) c.loop-field.invariant.known) ∙ c.if-not-branch.true in
    (λ e. absurd cc, λ h. absurd (not_differ (λ (x : Field). x.name) c.args.fields.now c.loop-field.field-index c.field-item.result c.as_slice.result.now (omega arith) c.field-item.is c.as_slice.ensures.bytes old h))

pub loop-field-preserved : goal.loop-field-preserved
loop-field-preserved c =
    let before = take c.loop-field.field-index (map (λ (x : Field). x.name) c.args.fields.now) in
    let new = sym (c.in_ok-note.ensures.new before c.loop-field.invariant.known) ∙ c.if-not-branch.false in
    record {
      known = known_more (λ (x : Field). x.name) c.args.fields.now c.loop-field.field-index c.field-item.result c.as_slice.result.now (omega arith) c.field-item.is c.as_slice.ensures.bytes c.note.new.names
          (c.in_ok-note.ensures.known before c.loop-field.invariant.known);
      differ = differ_more (λ (x : Field). x.name) c.args.fields.now c.loop-field.field-index c.field-item.result c.as_slice.result.now (omega arith) c.field-item.is c.as_slice.ensures.bytes c.loop-field.invariant.differ new;
    }

pub returns : goal.returns
returns c = (λ e. all_differ (λ (x : Field). x.name) c.args.fields.now c.loop-field.field-index (omega arith) c.loop-field.invariant.differ, λ h. refl)
