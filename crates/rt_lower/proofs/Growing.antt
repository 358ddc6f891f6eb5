-- Lists of labels, as they grow.
use Rattle.std.proofs.Common.{◌≡◌, ℕ, suc, List, [], ◌∷◌, ◌++◌, length, Option, None, sym, ap, ◌∙◌, ◌-◌, ◌<◌, replicate, append_assoc, arith, length-append}
use Rattle.rt_lower.specs.Drafts.{grown}

-- one label more doesn't make a list longer than it is to be
pub grown_more : (n : ℕ) (ls : List (Option ℕ)) → length ls < n → grown n (ls ++ None ∷ []) ≡ grown n ls
grown_more n ls h =
    let one : List (Option ℕ) = None ∷ [] in
    let m = n - length (ls ++ one) in
    let a : n - length ls ≡ suc m = omega (arith, h, length-append ls one) in
    append_assoc ls (None ∷ []) (replicate m None) ∙ ap (λ k. ls ++ replicate k None) (sym a)
