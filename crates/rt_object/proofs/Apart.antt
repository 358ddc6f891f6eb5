-- No bytes are both an image and an object.
use Rattle.std.proofs.Common.{◌≡◌, ℕ, ◌+◌, List, [], ◌∷◌, refl, ap, sym, ◌∙◌, arith}
use Rattle.rt_object.specs.Laws.{NoImageIsObject}

abbrev third : List ℕ → ℕ
third [] = 0
third (a ∷ []) = 0
third (a ∷ (b ∷ [])) = 0
third (a ∷ (b ∷ (c ∷ r))) = c

further_on : (c f : ℕ) → c ≡ f → c + 6 ≡ f → ⊥
further_on c f same on = absurd (omega arith)

pub no_image_is_object : NoImageIsObject
no_image_is_object bytes i o h k = further_on 73 79 (ap third (sym h.fields.2 ∙ k.fields.2)) refl
