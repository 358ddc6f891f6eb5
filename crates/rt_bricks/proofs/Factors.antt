-- Lines that begin alike, read as one up to where they part.
use Rattle.std.proofs.Common.{inl, inr}
use Rattle.rt_grammar.specs.Parts.{Part, either, ◌>>=◌}
use Rattle.rt_grammar.proofs.Wider.{Same, factored}

-- as factored, where what stands behind the second line is itself put together from lines
pub factored_more : {A B : Type 0} (P : Part A) (Q R : A → Part B) {S : Part B} → Same (P >>= R) S → Same (P >>= λ a. either (Q a) (R a)) (either (P >>= Q) S)
factored_more P Q R h = record {
  fits = λ l r b f. elim ((factored P Q R).fits l r b f) [ inl x ↦ inl x | inr x ↦ inr (h.fits l r b x) ];
  fits_back = λ l r b. elim [ inl x ↦ (factored P Q R).fits_back l r b (inl x) | inr x ↦ (factored P Q R).fits_back l r b (inr (h.fits_back l r b x)) ];
  begins = λ l r f. elim ((factored P Q R).begins l r f) [ inl x ↦ inl x | inr x ↦ inr (h.begins l r x) ];
  begins_back = λ l r. elim [ inl x ↦ (factored P Q R).begins_back l r (inl x) | inr x ↦ (factored P Q R).begins_back l r (inr (h.begins_back l r x)) ];
}
