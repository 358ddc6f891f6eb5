-- A loop that reads one field of a list in each turn.
use Rattle.std.proofs.Common.{◌≡◌, ℕ, suc, ◌+◌, ◌-◌, ◌<◌, List, [], ◌∷◌, ◌++◌, Ok, ap, ◌∙◌, refl, arith}
use Rattle.rt_words.specs.Reading.{Outcome, Reader, each}

pub each_turn : {A : Type 0} {all : Outcome (List A)} (p : List A → Reader A) (count turn : ℕ) (found new : List A) (l r : List ℕ) (x : A) → turn < count
    → all ≡ each p (count - turn) found l → p found l ≡ Ok (x, r) → new ≡ found ++ x ∷ [] → all ≡ each p (count - (turn + 1)) new r
unfolding each
each_turn p count turn found new l r x below e f g =
    let turns : count - turn ≡ suc (count - (turn + 1)) = omega arith in
    e ∙ ap (λ n. each p n found l) turns ∙ rw (f, g) refl
