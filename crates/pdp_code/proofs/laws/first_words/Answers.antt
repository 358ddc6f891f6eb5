use Rattle.std.proofs.Common.{◌≡◌, ℕ, Some, sym, ap, ◌∙◌}
use Rattle.pdp_code.specs.declared.instruction.Instr.{Instr}
use Rattle.pdp_code.specs.Code.{IsCodable, first_word}
use Rattle.pdp_code.specs.First.{first_of, blank}
use Rattle.pdp_code.proofs.Table.{first_of-first_word, first_word-first_of}
use Rattle.pdp_code.proofs.laws.first_words.Goals as goal

some_same : {A : Type 0} {x y : A} → Some x ≡ Some y → x ≡ y
some_same e = cc

-- what has this first word and is begun by it has 0 for each word that follows
blank_there : (w : ℕ) (i : Instr) → first_of w ≡ Some i → IsCodable i × (first_word i ≡ w) → IsCodable i × (first_word i ≡ w) × (blank i ≡ i)
blank_there w i e (h, f) = (h, f, some_same (sym (first_of-first_word i h) ∙ ap first_of f ∙ e))

pub returns-clause-begin : goal.returns-clause-begin
returns-clause-begin c = first_of-first_word

pub returns-clause-come : goal.returns-clause-come
returns-clause-come c = λ w i s e. blank_there w i e (first_word-first_of w s i e)
