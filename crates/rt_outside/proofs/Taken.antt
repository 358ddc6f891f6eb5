-- Deeds up to one, that one, and those behind it.
use Rattle.std.proofs.Common.{◌≡◌, ℕ, ◌+◌, ◌<◌, List, [], ◌∷◌, ◌++◌, take, drop, length, get_or, sym, ap, ◌∙◌}
use Rattle.std.proofs.lemmas.List.{take_more, drop_more, take-append-drop, map-append}
use Rattle.rt_outside.specs.declared.deed.Deed.{Deed as DeedNode}
use Rattle.rt_outside.specs.Deeds.{deed_of, deeds_of}

pub one_taken : (xs : List DeedNode) (i : ℕ) (x : DeedNode) → i < length xs → x ≡ get_or xs i x → deeds_of (take (i + 1) xs) ≡ deeds_of (take i xs) ++ deed_of x ∷ []
one_taken xs i x l e = ap deeds_of (take_more xs i x l ∙ ap (λ y. take i xs ++ y ∷ []) (sym e)) ∙ map-append deed_of (take i xs) (x ∷ [])

pub one_left : (xs : List DeedNode) (i : ℕ) (x : DeedNode) → i < length xs → x ≡ get_or xs i x → deeds_of xs ≡ deeds_of (take i xs) ++ deed_of x ∷ deeds_of (drop (i + 1) xs)
one_left xs i x l e =
    ap deeds_of (sym (take-append-drop i xs) ∙ ap (λ ys. take i xs ++ ys) (drop_more xs i x l ∙ ap (λ y. y ∷ drop (i + 1) xs) (sym e)))
    ∙ map-append deed_of (take i xs) (x ∷ drop (i + 1) xs)
