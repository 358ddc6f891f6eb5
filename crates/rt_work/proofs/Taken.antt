-- The last values of a list, taken off one by one.
use Rattle.std.proofs.Common.{◌≡◌, ℕ, zero, suc, List, [], ◌∷◌, ◌++◌, refl, sym, ap, ◌∙◌, append_assoc}
use Rattle.rt_tree_nodes.specs.declared.store.Datum.{Datum}
use Rattle.rt_work.specs.Task.{taken}

taken_onto : (n : ℕ) (args vs : List Datum) → taken n args vs ≡ taken n [] vs ++ args
taken_onto zero args vs = refl
taken_onto (suc n) args [] = refl
taken_onto (suc n) args (v ∷ vs) =
    taken_onto n (v ∷ args) vs
    ∙ sym (append_assoc (taken n [] vs) (v ∷ []) args)
    ∙ ap (λ l. l ++ args) (sym (taken_onto n (v ∷ []) vs))

-- the value behind others is the first argument behind theirs
pub taken_more : (n : ℕ) (v : Datum) (vs : List Datum) → taken (suc n) [] (v ∷ vs) ≡ taken n [] vs ++ v ∷ []
taken_more n v vs = taken_onto n (v ∷ []) vs
