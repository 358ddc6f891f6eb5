-- The library's text, computed.
use Rattle.std.proofs.Common.{◌≡◌, ℕ, ◌≤◌, ltb, ◌&&◌, Bool, true, false, List, [], ◌∷◌, length, refl, arith}
use Rattle.std.proofs.lemmas.Bool.Decides.{Decides-ltb}
use Rattle.std.specs.List.{AllByRecursion}
use Rattle.rt_items.specs.Ranges.{IsByte}
use Rattle.rt_system.specs.Library.{library_text}

-- whether each is a byte
abbrev are_small : List ℕ → Bool
are_small [] = true
are_small (b ∷ bs) = ltb b 256 && are_small bs

both : (c d : Bool) → (c && d) ≡ true → (c ≡ true) × (d ≡ true)
both true true h = (refl, refl)
both true false h = absurd cc
both false d h = absurd cc

small : (bs : List ℕ) → are_small bs ≡ true → AllByRecursion IsByte bs
small [] h = tt
small (b ∷ bs) h = let p = both (ltb b 256) (are_small bs) h in ((Decides-ltb b 256).0 p.0, small bs p.1)

pub bytes : AllByRecursion IsByte library_text
bytes = small library_text refl

pub short : length library_text ≤ 4194304
short = let n : length library_text ≡ 994 = refl in omega (arith, n)
