use Rattle.std.proofs.Common.{◌≡◌, ◌≤◌, ℕ, length, Some, None, sym, ◌∙◌, subst, arith}
use Rattle.std.specs.Prelude.{slice_range}
use Rattle.rt_report.proofs.ListingLines.{instruction_line, word_line}
use Rattle.rt_report.proofs.listing_code.put_line.Goals as goal

pub returns-in_ok-put_instruction-in-Some : goal.returns-in_ok-put_instruction-in-Some
returns-in_ok-put_instruction-in-Some c =
    instruction_line c.args.words.now c.args.marks.now c.args.at c.args.out.now.items c.put_instruction.new.out.items c.requires.there c.requires.marked c.from.result c.in-Some.instruction
    c.in-Some.ensures.found.0 (c.from.ensures ∙ c.in-Some.ensures.found.1) (let h = c.in-Some.ensures.lengths.0 in let k = c.from.ensures in omega (arith, h, k)) (let h = c.in-Some.ensures.lengths.2 in let k = c.from.ensures in subst (λ (n : ℕ). n ≤ length (slice_range c.args.words.now c.args.at (length c.args.words.now))) (sym k) h)
    c.in_ok-put_instruction-in-Some.ensures

pub returns-in_ok-put_word-in-None : goal.returns-in_ok-put_word-in-None
returns-in_ok-put_word-in-None c =
    word_line c.args.words.now c.args.marks.now c.args.at c.args.out.now.items c.put_word.new.out.items c.requires.there c.requires.marked
    (λ i b. let e : None ≡ Some _ = sym c.in-None.is ∙ c.decode.ensures.every i b in absurd cc) c.in_ok-put_word-in-None.ensures
