use Rattle.std.proofs.Common.{inl, refl}
use Rattle.rt_words.proofs.Spelled.{fit_bytes}
use Rattle.rt_words.proofs.Whole as whole
use Rattle.rt_image.specs.Grammar.{image_format}
use Rattle.rt_image.specs.Reading as reads
use Rattle.rt_image.proofs.Fronts.{in_image}
use Rattle.rt_image.proofs.ImageLaws.{in_range}
use Rattle.rt_image.proofs.ImageReads.{right_image}
use Rattle.rt_image.proofs.read.read_image.Goals as goal

pub of-requires : goal.of-requires
of-requires c = in_range c.args.bytes.now c.in-Ok.parts (record {
  each_byte = fit_bytes c.args.bytes.now c.type_inv.bytes;
  fields = whole.spelled reads.image image_format right_image in_image c.args.bytes.now c.in-Ok.parts _ c.in-Ok.ensures;
})

pub overflow_sub-result : goal.overflow_sub-result
overflow_sub-result c = whole.field_inside reads.image image_format right_image in_image c.args.bytes.now c.in-Err-Refused.left (rw c.in-Err-Refused.field-0-is at c.in-Err-Refused.ensures)

pub returns-in-Ok-clause-found : goal.returns-in-Ok-clause-found
returns-in-Ok-clause-found c = rw c.of.ensures (record {
  each_byte = fit_bytes c.args.bytes.now c.type_inv.bytes;
  fields = whole.spelled reads.image image_format right_image in_image c.args.bytes.now c.in-Ok.parts _ c.in-Ok.ensures;
})

pub returns-in-Ok-clause-only : goal.returns-in-Ok-clause-only
returns-in-Ok-clause-only c = λ i h. let e = whole.same_value reads.image image_format right_image in_image c.args.bytes.now c.in-Ok.parts i _ c.in-Ok.ensures h.fields in inl (rw (c.of.ensures, e) refl)

pub returns-in-Ok-clause-place : goal.returns-in-Ok-clause-place
returns-in-Ok-clause-place c = λ p h. absurd (whole.not_refused reads.image image_format right_image in_image c.args.bytes.now c.in-Ok.parts _ c.in-Ok.ensures p h)

pub returns-in-Err-Refused-clause-only : goal.returns-in-Err-Refused-clause-only
returns-in-Err-Refused-clause-only c = λ i h.
    absurd (whole.not_spelled reads.image image_format right_image in_image c.args.bytes.now c.in-Err-Refused.left (rw c.in-Err-Refused.field-0-is at c.in-Err-Refused.ensures) i h.fields)

pub returns-in-Err-Refused-clause-refused : goal.returns-in-Err-Refused-clause-refused
returns-in-Err-Refused-clause-refused c = whole.refused reads.image image_format right_image in_image c.args.bytes.now c.in-Err-Refused.left (rw c.in-Err-Refused.field-0-is at c.in-Err-Refused.ensures)

pub returns-in-Err-Refused-clause-place : goal.returns-in-Err-Refused-clause-place
returns-in-Err-Refused-clause-place c = λ p h.
    inl (rw (whole.same_field reads.image image_format right_image in_image c.args.bytes.now c.in-Err-Refused.left (rw c.in-Err-Refused.field-0-is at c.in-Err-Refused.ensures) p h) refl)
