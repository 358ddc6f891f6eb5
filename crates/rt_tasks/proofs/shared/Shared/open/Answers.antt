use Rattle.std.proofs.Common.{ap, length, List, ℕ, ◌<◌, ◌∙◌, subst, sym, arith}
use Rattle.std.specs.Prelude.{slice_index}
use Rattle.rt_image.specs.declared.image.ImageParts.{ImageParts}
use Rattle.rt_image.specs.Ranges.{HasImageRanges}
use Rattle.rt_tasks.proofs.Words.{code_length, length-words_bytes, all_words}
use Rattle.rt_tasks.proofs.shared.Shared.open.Goals as goal

pub new-memory-requires : goal.new-memory-requires
new-memory-requires c =
    let i = c.parts-parts.result.now in
    let ranges : HasImageRanges i = subst (λ (j : ImageParts). HasImageRanges j) (sym c.parts-parts.ensures.parts) c.parts-parts.ensures.ranges in
    let code = c.in_ok-code.code.items in
    let words = c.in_ok-words.words.items in
    let same_code = c.in_ok-code.ensures.words ∙ c.as_slice.ensures in
    let same_words = c.in_ok-words.ensures ∙ c.as_slice-3.ensures in
    record {
      words = subst (λ (l : List ℕ). (k : ℕ) → slice_index l k < 65536) (sym same_code) (all_words i.code ranges.each_word);
      room = omega (arith, code_length code, length-words_bytes words, ap (λ (l : List ℕ). length l) same_code, ap (λ (l : List ℕ). length l) same_words, ranges.memory);
    }
