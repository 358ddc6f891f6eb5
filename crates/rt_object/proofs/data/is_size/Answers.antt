use Rattle.std.proofs.Common.{◌≡◌, ◌==◌, sym, ap, ◌∙◌, Some, arith}
use Rattle.rt_sizes.specs.Sizes.{even}
use Rattle.rt_object.specs.Grammar.{is_size}
use Rattle.rt_object.specs.Ranges.{table_of}
use Rattle.rt_object.proofs.KnownSizes.{are_within, within_is_false}
use Rattle.rt_object.proofs.data.is_size.Goals as goal

pub returns-in-Some-Bytes : goal.returns-in-Some-Bytes
returns-in-Some-Bytes c =
    let t = table_of c.args.known.now.records.now in
    let end = c.in-Some-Bytes.end in
    let is = are_within c.args.known.now.records.now c.args.fields.now c.data_size.result end (c.in-Some-Bytes.is ∙ ap (λ s. Some s) c.in-Some-Bytes.field-0-is) (c.data_size.ensures.size t c.requires.sizes) in
    let size : c.from.result ≡ c.args.size = omega arith in
    ap (λ n. n == c.from.result) c.even.ensures ∙ ap (λ n. even end == n) size ∙ sym (ap (λ o. is_size o c.args.size) is)

pub returns-in-Some-TooLarge : goal.returns-in-Some-TooLarge
returns-in-Some-TooLarge c =
    let t = table_of c.args.known.now.records.now in
    let large = c.in-Some-TooLarge.is ∙ ap (λ s. Some s) c.in-Some-TooLarge.field-0-is in
    let small = within_is_false c.args.known.now.records.now c.args.fields.now c.data_size.result (λ m e. let bad = sym large ∙ e in cc) (c.data_size.ensures.only t c.requires.sizes) in
    absurd (let bad = sym c.requires.most ∙ small in cc)

pub returns-in-None : goal.returns-in-None
returns-in-None c =
    let t = table_of c.args.known.now.records.now in
    let small = within_is_false c.args.known.now.records.now c.args.fields.now c.data_size.result (λ m e. let bad = sym c.in-None.is ∙ e in cc) (c.data_size.ensures.only t c.requires.sizes) in
    absurd (let bad = sym c.requires.most ∙ small in cc)
