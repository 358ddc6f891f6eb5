use Rattle.std.proofs.Common.{arith}
use Rattle.rt_object.specs.Ranges.{AreDifferent, HaveFieldRanges, field_names}
use Rattle.rt_object_ranges.specs.Parts.{MayBe}
use Rattle.rt_object_ranges.proofs.Each.{all_fields, each_field}
use Rattle.rt_object_ranges.proofs.Whole.{tells_same}
use Rattle.rt_object_ranges.proofs.fields.are_fields.Goals as goal
use Rattle.rt_object_ranges.proofs.fields.are_fields.Goals.{then-fields-gt-COUNTED-via-then-fields-gt-COUNTED, then-fields-gt-COUNTED-via-else-fields-gt-COUNTED+then-not-is_each_field}

pub returns-then-fields-gt-COUNTED : goal.returns-then-fields-gt-COUNTED
returns-then-fields-gt-COUNTED c = elim c.then-fields-gt-COUNTED.branch [
  | then-fields-gt-COUNTED-via-then-fields-gt-COUNTED w ↦ (λ e. absurd cc, λ h. let few = h.count in let many = w.if-fields-gt-COUNTED.true in absurd (omega arith))
  | then-fields-gt-COUNTED-via-else-fields-gt-COUNTED+then-not-is_each_field w ↦ (
    λ e. absurd cc,
    λ h. let all = w.is_each_field.ensures.1 (each_field c.args.records c.args.labels c.args.fields.now h) in let none = w.if-not-is_each_field.true in absurd cc,
  )
]

pub returns : goal.returns
returns c =
    let fields = c.args.fields.now in
    let each = c.is_each_field.ensures.0 c.if-not-is_each_field.false in
    tells_same c.fields_differ.result (AreDifferent (field_names fields)) (HaveFieldRanges c.args.records (MayBe c.args.labels) fields) (λ names. all_fields c.args.records c.args.labels fields (omega arith) each names) (λ h. h.names) c.fields_differ.ensures
