use Rattle.std.proofs.Common.{◌≡◌, ◌∙◌, refl}
use Rattle.std.specs.Prelude.{int_div, int_rem}
use Rattle.rt_words.specs.Word.{signed_of, word_of}
use Rattle.rt_words.proofs.Numbers.{quotient_near, remainder_near, in_32_bits}
use Rattle.rt_words.proofs.operators.divided.Goals as goal

-- src/operators.rt:41:1
pub returns : goal.returns
returns c =
    let q : c.low_word.result ≡ word_of (int_div (signed_of c.args.a) (signed_of c.args.b)) =
    c.low_word.ensures ∙ in_32_bits int_div quotient_near c.args.a c.args.b c.ranges.a.fits c.ranges.b.fits _ _ c.signed-x.ensures c.signed-y.ensures in
    let r : c.low_word-2.result ≡ word_of (int_rem (signed_of c.args.a) (signed_of c.args.b)) =
    c.low_word-2.ensures ∙ in_32_bits int_rem remainder_near c.args.a c.args.b c.ranges.a.fits c.ranges.b.fits _ _ c.signed-x.ensures c.signed-y.ensures in
    rw (q, r) refl
