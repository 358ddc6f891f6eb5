-- Names that differ, one after another.
use Rattle.std.proofs.Common.{◌≡◌, ℕ, ◌+◌, ◌<◌, ◌≤◌, true, false, List, [], ◌∷◌, ◌++◌, length, map, take, drop, get_or, Vec, sym, ap, subst, ◌∙◌, arith}
use Rattle.std.specs.BTreeSet.{BTreeSet}
use Rattle.std.proofs.lemmas.List.{get_or-map, length-map, take_all, take_more, drop_more, take-append-drop}
use Rattle.rt_object.specs.Grammar.{is_new}
use Rattle.rt_object.specs.Known.{Knows}
use Rattle.rt_object.specs.Ranges.{AreDifferent}
use Rattle.rt_object.proofs.Differing.{different_push, new_behind}

-- a name more, which is new
pub different_more : (names : List (List ℕ)) (i : ℕ) (d : List ℕ) → i < length names → AreDifferent (take i names) → is_new (take i names) (get_or names i d) ≡ true → AreDifferent (take (i + 1) names)
different_more names i d within h new = subst AreDifferent (sym (take_more names i d within)) (different_push (take i names) (get_or names i d) h new)

-- where one isn't new, the names don't differ
pub not_different : (names : List (List ℕ)) (i : ℕ) (d : List ℕ) → i < length names → is_new (take i names) (get_or names i d) ≡ false → AreDifferent names → ⊥
not_different names i d within old h =
    let split : names ≡ take i names ++ get_or names i d ∷ drop (i + 1) names = sym (take-append-drop i names) ∙ ap (λ x. take i names ++ x) (drop_more names i d within) in
    let k : true ≡ false = sym (new_behind (take i names) (drop (i + 1) names) (get_or names i d) (subst AreDifferent split h)) ∙ old in
    cc

-- ---- elements that have names

module _ {A : Type 0} (name : A → List ℕ) (xs : List A) (i : ℕ) (x : A) (s : List ℕ) (within : i < length xs) (at : x ≡ get_or xs i x) (named : s ≡ name x) where
  abbrev names : List (List ℕ)
  names = map name xs

  names_within : i < length names
  names_within = omega (arith, length-map xs name)

  name_at : get_or names i s ≡ s
  name_at = get_or-map name xs i x s within ∙ ap name (sym at) ∙ sym named

  -- its name is known too
  pub known_more : {G : Type 0} (set : BTreeSet (Vec ℕ G)) → Knows set (take i (map name xs) ++ s ∷ []) → Knows set (take (i + 1) (map name xs))
  known_more set h = subst (Knows set) (ap (λ n. take i names ++ n ∷ []) (sym name_at) ∙ sym (take_more names i s names_within)) h

  -- it has a name that those before it lack
  pub differ_more : AreDifferent (take i (map name xs)) → is_new (take i (map name xs)) s ≡ true → AreDifferent (take (i + 1) (map name xs))
  differ_more h new = different_more names i s names_within h (subst (λ n. is_new (take i names) n ≡ true) (sym name_at) new)

  -- it has the name of one before it
  pub not_differ : is_new (take i (map name xs)) s ≡ false → AreDifferent (map name xs) → ⊥
  not_differ old = not_different names i s names_within (subst (λ n. is_new (take i names) n ≡ false) (sym name_at) old)

pub all_differ : {A : Type 0} (name : A → List ℕ) (xs : List A) (i : ℕ) → length xs ≤ i → AreDifferent (take i (map name xs)) → AreDifferent (map name xs)
all_differ name xs i all h = subst AreDifferent (take_all i (map name xs) (omega (arith, length-map xs name))) h
