-- The locals of an activation, filled up one by one.
use Rattle.std.proofs.Common.{◌≡◌, ℕ, ◌-◌, ◌<◌, suc, List, [], ◌∷◌, ◌++◌, length, refl, arith, append_assoc, length-append}
use Rattle.rt_tree_nodes.specs.declared.store.Datum.{Datum}
use Rattle.rt_tree_nodes.specs.declared.store.Datum.TheVariants.{Word}
use Rattle.rt_meaning.specs.Step.{locals_of}

pub locals_more : (ls : List Datum) (size : ℕ) → length ls < size → locals_of (ls ++ Word 0 ∷ []) size ≡ locals_of ls size
locals_more ls size h =
    let e : size - length ls ≡ suc (size - length (ls ++ Word 0 ∷ [])) = omega (arith, length-append ls (Word 0 ∷ [])) in
    rw (append_assoc, e) refl
