use Rattle.std.proofs.Common.{ap, eq-eqb, sym, Some, ◌∙◌}
use Rattle.std.proofs.lemmas.Bool.{eqb-true}
use Rattle.rt_sizes.specs.Sizes.{even}
use Rattle.rt_object.specs.Ranges.{table_of}
use Rattle.rt_object_ranges.proofs.Sized.{has_none, has_size, is_size}
use Rattle.rt_object_ranges.proofs.data.have_bytes.Goals as goal

pub returns-in-Some-Bytes : goal.returns-in-Some-Bytes
returns-in-Some-Bytes c =
    let records = c.args.known.now.records.now in
    let fields = c.args.fields.now in
    let end = c.in-Some-Bytes.end in
    let is = c.in-Some-Bytes.is ∙ ap (λ s. Some s) c.in-Some-Bytes.field-0-is in
    let tells = c.data_size.ensures.size (table_of records) c.requires in (
      λ e. (end, has_size records fields c.data_size.result end is tells, sym (eqb-true c.even.result c.args.bytes e) ∙ c.even.ensures),
      λ h. eq-eqb c.even.result c.args.bytes (c.even.ensures ∙ ap even (is_size records fields c.data_size.result end h.0 is tells h.1) ∙ sym h.2),
    )

pub returns-in-Some-TooLarge : goal.returns-in-Some-TooLarge
returns-in-Some-TooLarge c =
    let t = table_of c.args.known.now.records.now in
    let large = c.in-Some-TooLarge.is ∙ ap (λ s. Some s) c.in-Some-TooLarge.field-0-is in
    (λ e. absurd cc, λ h. absurd (has_none c.args.known.now.records.now c.args.fields.now c.data_size.result (λ m e. let bad = sym large ∙ e in cc) (c.data_size.ensures.only t c.requires) h.0 h.1))

pub returns-in-None : goal.returns-in-None
returns-in-None c =
    let t = table_of c.args.known.now.records.now in
    (λ e. absurd cc, λ h. absurd (has_none c.args.known.now.records.now c.args.fields.now c.data_size.result (λ m e. let bad = sym c.in-None.is ∙ e in cc) (c.data_size.ensures.only t c.requires) h.0 h.1))
