-- Equal full modes of two modules are equal inside, too.
use Rattle.std.proofs.Common.{◌≡◌, ℕ, zero, suc, ◌+◌, ◌<◌, ◌==◌, ◌||◌, Bool, true, false, List, [], ◌∷◌, ◌++◌, length, codes, map, Option, Some, None, option_map, ◌⊎◌, inl, inr, arith, refl, sym, ap, ◌∙◌, subst, if◌then◌else◌}
use Rattle.std.specs.Prelude.{nat_lt, slice_get}
use Rattle.std.specs.List.{AllByRecursion, list_any}
use Rattle.std.proofs.lemmas.Bool.Decides.{nat_tests}
use Rattle.rt_modes.specs.declared.mode.Field.{Field}
use Rattle.rt_modes.specs.declared.mode.Mode.{Mode, out-Mode, map-Mode}
use Rattle.rt_modes.specs.declared.mode.Mode.TheFolds.{fold_out-Mode}
use Rattle.rt_modes.specs.declared.mode.Mode.TheOpen.{Mode-F}
use Rattle.rt_modes.specs.declared.mode.ModeTable.{ModeTable}
use Rattle.rt_modes.specs.declared.mode.RecordDef.{RecordDef}
use Rattle.rt_modes.specs.FullMode.{Word as TextWord, Says, Mentions, joined, one_mode, mode_words, after_commas, between_commas, result_words, field_words, name_of, fields_of, name_in, spelled, mentioned, with_one, with_new, reached, reached_by, where_words, definition}
use Rattle.rt_modes.proofs.Closing.{all_closed}
use Rattle.rt_tree.specs.FullModes.{MayStand}
use Rattle.rt_tree.specs.Opened.{IsTable, Same, EachSame, AnySame, FieldsSame, LevelSame}
use Rattle.rt_tree_laws.proofs.Telling as tell
use Rattle.rt_tree_laws.proofs.Opening.{InLeft, InRight, Namesakes, AlikeWords, alike_joined, EachAlike, AnyAlike, LevelAlike, known}
use Rattle.rt_tree_laws.proofs.Defining.{FieldsAlike, DefinedAlike, AllAlike, where_tells}

-- ---- what is in a list, and what words mention

abbrev pub In : ℕ → List ℕ → Type 0
In k [] = ⊥
In k (x ∷ xs) = (x ≡ k) ⊎ In k xs

abbrev pub AllMentions : (ℕ → Type 0) → List TextWord → Type 0
AllMentions P [] = Unit {0}
AllMentions P (Says b ∷ ws) = AllMentions P ws
AllMentions P (Mentions k ∷ ws) = P k × AllMentions P ws

pub mentions_left : (P : ℕ → Type 0) (xs ys : List TextWord) → AllMentions P (xs ++ ys) → AllMentions P xs
mentions_left P [] ys h = tt
mentions_left P (Says b ∷ xs) ys h = mentions_left P xs ys h
mentions_left P (Mentions k ∷ xs) ys h = (h.0, mentions_left P xs ys h.1)

mentions_right : (P : ℕ → Type 0) (xs ys : List TextWord) → AllMentions P (xs ++ ys) → AllMentions P ys
mentions_right P [] ys h = h
mentions_right P (Says b ∷ xs) ys h = mentions_right P xs ys h
mentions_right P (Mentions k ∷ xs) ys h = mentions_right P xs ys h.1

mentions_map : (P Q : ℕ → Type 0) (ws : List TextWord) → ((k : ℕ) → P k → Q k) → AllMentions P ws → AllMentions Q ws
mentions_map P Q [] f h = tt
mentions_map P Q (Says b ∷ ws) f h = mentions_map P Q ws f h
mentions_map P Q (Mentions k ∷ ws) f h = (f k h.0, mentions_map P Q ws f h.1)

in_front : (k : ℕ) (xs ys : List ℕ) → In k xs → In k (xs ++ ys)
in_front k [] ys h = absurd h
in_front k (x ∷ xs) ys (inl e) = inl e
in_front k (x ∷ xs) ys (inr h) = inr (in_front k xs ys h)

at_end : (k : ℕ) (xs : List ℕ) → In k (xs ++ k ∷ [])
at_end k [] = inl refl
at_end k (x ∷ xs) = inr (at_end k xs)

first_or : (b : Bool) (x k : ℕ) (xs : List ℕ) → (k == x) ≡ b → (list_any (λ x. k == x) xs ≡ true → In k xs) → b || list_any (λ x. k == x) xs ≡ true → In k (x ∷ xs)
first_or true x k xs p go h = inl (grind (arith, nat_tests))
first_or false x k xs p go h = inr (go h)

any_in : (k : ℕ) (xs : List ℕ) → list_any (λ x. k == x) xs ≡ true → In k xs
any_in k [] e = absurd cc
any_in k (x ∷ xs) e = first_or (k == x) x k xs refl (any_in k xs) e

in_one_more : (k q : ℕ) (ks : List ℕ) → In k ks → In k (with_one ks q)
in_one_more k q ks h = by_any (list_any (λ x. q == x) ks) where
  by_any : (b : Bool) → In k (if b then ks else ks ++ q ∷ [])
  by_any true = h
  by_any false = in_front k ks (q ∷ []) h

in_one : (k : ℕ) (ks : List ℕ) → In k (with_one ks k)
in_one k ks = by_any (list_any (λ x. k == x) ks) refl where
  by_any : (b : Bool) → list_any (λ x. k == x) ks ≡ b → In k (if b then ks else ks ++ k ∷ [])
  by_any true e = any_in k ks e
  by_any false e = at_end k ks

in_known : (k : ℕ) (ks xs : List ℕ) → In k ks → In k (with_new ks xs)
in_known k ks [] h = h
in_known k ks (x ∷ xs) h = in_known k (with_one ks x) xs (in_one_more k x ks h)

in_new : (k : ℕ) (ks xs : List ℕ) → In k xs → In k (with_new ks xs)
in_new k ks [] h = absurd h
in_new k ks (x ∷ xs) (inl e) = subst (λ (z : ℕ). In z (with_new ks (x ∷ xs))) e (in_known x (with_one ks x) xs (in_one x ks))
in_new k ks (x ∷ xs) (inr h) = in_new k (with_one ks x) xs h

in_range : (xs : List RecordDef) (k : ℕ) (d : RecordDef) → slice_get xs k ≡ Some d → nat_lt k (length xs) ≡ true
in_range [] k d e = absurd cc
in_range (x ∷ xs) zero d e = let l : 0 < suc (length xs) = omega arith in grind (arith, nat_tests)
in_range (x ∷ xs) (suc k) d e = let h : nat_lt k (length xs) ≡ true = in_range xs k d e in let l : k < length xs = grind (arith, nat_tests) in grind (arith, nat_tests)

-- further rounds add nothing
later : (t : ModeTable) (ws : List TextWord) (j n : ℕ) → n ≡ suc (length t.records) + j → reached t ws n ≡ reached_by t ws
unfolding reached
later t ws zero n e = let q : n ≡ suc (length t.records) = omega (arith, e) in ap (reached t ws) q
later t ws (suc j) n e =
    let before : ℕ = suc (length t.records) + j in
    let q : n ≡ suc before = omega (arith, e) in
    let ih : reached t ws before ≡ reached_by t ws = later t ws j before refl in
    ap (reached t ws) q ∙ ap (λ (z : List ℕ). with_new [] (mentioned t (ws ++ joined (map (definition t) z)))) ih ∙ sym (all_closed t ws)

module _ (t u : ModeTable) (gt : IsTable t) (gu : IsTable u) where
  -- ---- alike fields and definitions have alike words

  field_alike : (f g : Field) → f.name ≡ g.name → AlikeWords t u gt gu (mode_words f.mode) (mode_words g.mode) → AlikeWords t u gt gu (field_words f) (field_words g)
  field_alike f g n h = alike_joined t u gt gu (mode_words f.mode) (mode_words g.mode) (Says (32 ∷ f.name) ∷ []) (Says (32 ∷ g.name) ∷ []) h (ap (λ (z : List ℕ). 32 ∷ z) n, tt)

  more_alike : (fs gs : List Field) → FieldsAlike t u gt gu fs gs → AlikeWords t u gt gu (after_commas (map field_words fs)) (after_commas (map field_words gs))
  more_alike [] [] h = tt
  more_alike (f ∷ fs) (g ∷ gs) h = (refl, alike_joined t u gt gu (field_words f) (field_words g) (after_commas (map field_words fs)) (after_commas (map field_words gs)) (field_alike f g h.0 h.1) (more_alike fs gs h.2))
  more_alike [] (g ∷ gs) h = absurd h
  more_alike (f ∷ fs) [] h = absurd h

  pub between_alike : (fs gs : List Field) → FieldsAlike t u gt gu fs gs → AlikeWords t u gt gu (between_commas (map field_words fs)) (between_commas (map field_words gs))
  between_alike [] [] h = tt
  between_alike (f ∷ fs) (g ∷ gs) h = alike_joined t u gt gu (field_words f) (field_words g) (after_commas (map field_words fs)) (after_commas (map field_words gs)) (field_alike f g h.0 h.1) (more_alike fs gs h.2)
  between_alike [] (g ∷ gs) h = absurd h
  between_alike (f ∷ fs) [] h = absurd h

  definition_alike : (k j : ℕ) → DefinedAlike t u gt gu k j → AlikeWords t u gt gu (definition t k) (definition u j)
  definition_alike k j h =
      (ap (λ (z : List ℕ). z ++ codes "(") h.0, alike_joined t u gt gu (between_commas (map field_words (fields_of t k))) (between_commas (map field_words (fields_of u j))) (Says (codes ")") ∷ []) (Says (codes ")") ∷ []) (between_alike (fields_of t k) (fields_of u j) h.1) (refl, tt))

  definitions_alike : (ks js : List ℕ) → AllAlike t u gt gu ks js → AlikeWords t u gt gu (joined (map (definition t) ks)) (joined (map (definition u) js))
  definitions_alike [] [] h = tt
  definitions_alike (k ∷ ks) (j ∷ js) h =
      alike_joined t u gt gu (definition t k) (definition u j) (joined (map (definition t) ks)) (joined (map (definition u) js)) (definition_alike k j h.0) (definitions_alike ks js h.1)
  definitions_alike [] (j ∷ js) h = absurd h
  definitions_alike (k ∷ ks) [] h = absurd h

  left_in : (ws vs : List TextWord) → AlikeWords t u gt gu ws vs → AllMentions (InLeft t u gt gu) ws
  left_in [] [] h = tt
  left_in (Says b ∷ ws) (Says d ∷ vs) h = left_in ws vs h.1
  left_in (Mentions k ∷ ws) (Mentions j ∷ vs) h = (h.0.left, left_in ws vs h.1)
  left_in [] (w ∷ vs) h = absurd h
  left_in (Says b ∷ ws) [] h = absurd h
  left_in (Mentions k ∷ ws) [] h = absurd h
  left_in (Says b ∷ ws) (Mentions j ∷ vs) h = absurd h
  left_in (Mentions k ∷ ws) (Says d ∷ vs) h = absurd h

  mentions_listed : (ws : List TextWord) → AllMentions (InLeft t u gt gu) ws → AllMentions (λ k. In k (mentioned t ws)) ws
  mentions_listed [] h = tt
  mentions_listed (Says b ∷ ws) h = mentions_listed ws h
  mentions_listed (Mentions k ∷ ws) h =
      let here : mentioned t (Mentions k ∷ ws) ≡ k ∷ mentioned t ws = rw (in_range t.records k h.0.0 h.0.1) refl in
      subst (λ (z : List ℕ). AllMentions (λ q. In q z) (Mentions k ∷ ws)) (sym here)
      (inl refl, mentions_map (λ q. In q (mentioned t ws)) (λ q. In q (k ∷ mentioned t ws)) ws (λ q i. inr i) (mentions_listed ws h.1))

  -- ---- records of the two lists that stand at one place

  module _ (ks js : List ℕ) (alike : AllAlike t u gt gu ks js) (rights : AllByRecursion (InRight t u gt gu) js) (lefts : AllByRecursion (InLeft t u gt gu) ks) where
    abbrev PairedIn : List ℕ → List ℕ → ℕ → ℕ → Type 0
    PairedIn (x ∷ xs) (y ∷ ys) k j = ((x ≡ k) × (y ≡ j)) ⊎ PairedIn xs ys k j
    PairedIn _ _ k j = ⊥

    abbrev Paired : ℕ → ℕ → Type 0
    Paired k j = PairedIn ks js k j

    record Pairing (k j : ℕ) : Type 0 where
      defined : DefinedAlike t u gt gu k j
      left : InLeft t u gt gu k
      right : InRight t u gt gu j
      member : In k ks

    moved_pair : (x y k j : ℕ) → x ≡ k → y ≡ j → DefinedAlike t u gt gu x y → DefinedAlike t u gt gu k j
    moved_pair x y k j e f h = subst (λ (z : ℕ). DefinedAlike t u gt gu z j) e (subst (λ (z : ℕ). DefinedAlike t u gt gu x z) f h)

    found_pair : (xs ys : List ℕ) (k j : ℕ) → AllAlike t u gt gu xs ys → AllByRecursion (InLeft t u gt gu) xs → AllByRecursion (InRight t u gt gu) ys → PairedIn xs ys k j
        → DefinedAlike t u gt gu k j × InLeft t u gt gu k × InRight t u gt gu j × In k xs
    found_pair (x ∷ xs) (y ∷ ys) k j h l r (inl e) = (moved_pair x y k j e.0 e.1 h.0, subst (InLeft t u gt gu) e.0 l.0, subst (InRight t u gt gu) e.1 r.0, inl e.0)
    found_pair (x ∷ xs) (y ∷ ys) k j h l r (inr p) = let z = found_pair xs ys k j h.1 l.1 r.1 p in (z.0, z.1, z.2, inr z.3)
    found_pair [] ys k j h l r p = absurd p
    found_pair (x ∷ xs) [] k j h l r p = absurd p

    pairing : (k j : ℕ) → Paired k j → Pairing k j
    pairing k j p = let z = found_pair ks js k j alike lefts rights p in record { defined = z.0; left = z.1; right = z.2; member = z.3 }

    partner : (xs ys : List ℕ) (k : ℕ) → AllAlike t u gt gu xs ys → In k xs → (j : ℕ) × PairedIn xs ys k j
    partner [] ys k h i = absurd i
    partner (x ∷ xs) (y ∷ ys) k h (inl e) = (y, inl (e, refl))
    partner (x ∷ xs) (y ∷ ys) k h (inr i) = let z = partner xs ys k h.1 i in (z.0, inr z.1)
    partner (x ∷ xs) [] k h i = absurd h

    name_left : (k : ℕ) (i : InLeft t u gt gu k) → name_of t k ≡ i.0.name
    name_left k i = ap name_in i.1

    name_right : (j : ℕ) (i : InRight t u gt gu j) → name_of u j ≡ i.0.name
    name_right j i = ap name_in i.1

    one_right : (i j : ℕ) → InRight t u gt gu i → InRight t u gt gu j → name_of u i ≡ name_of u j → i ≡ j
    one_right i j hi hj e = gu.apart i j hi.0 hj.0 hi.1 hj.1 (sym (name_right i hi) ∙ e ∙ name_right j hj)

    one_left : (i j : ℕ) → InLeft t u gt gu i → InLeft t u gt gu j → name_of t i ≡ name_of t j → i ≡ j
    one_left i j hi hj e = gt.apart i j hi.0 hj.0 hi.1 hj.1 (sym (name_left i hi) ∙ e ∙ name_left j hj)

    -- namesakes of which one is in the list stand at one place
    pair_of : (k j : ℕ) → Namesakes t u gt gu k j → In k ks → Paired k j
    pair_of k j s i =
        let p = partner ks js k alike i in
        let z = pairing k p.0 p.1 in
        subst (Paired k) (one_right p.0 j z.right s.right (sym z.defined.0 ∙ s.name)) p.1

    abbrev PairedWords : List TextWord → List TextWord → Type 0
    PairedWords [] [] = Unit {0}
    PairedWords (Says b ∷ ws) (Says d ∷ vs) = (b ≡ d) × PairedWords ws vs
    PairedWords (Mentions k ∷ ws) (Mentions j ∷ vs) = Paired k j × PairedWords ws vs
    PairedWords _ _ = ⊥

    pair_words : (ws vs : List TextWord) → AlikeWords t u gt gu ws vs → AllMentions (λ k. In k ks) ws → PairedWords ws vs
    pair_words [] [] h i = tt
    pair_words (Says b ∷ ws) (Says d ∷ vs) h i = (h.0, pair_words ws vs h.1 i)
    pair_words (Mentions k ∷ ws) (Mentions j ∷ vs) h i = (pair_of k j h.0 i.0, pair_words ws vs h.1 i.1)
    pair_words [] (w ∷ vs) h i = absurd h
    pair_words (Says b ∷ ws) [] h i = absurd h
    pair_words (Mentions k ∷ ws) [] h i = absurd h
    pair_words (Says b ∷ ws) (Mentions j ∷ vs) h i = absurd h
    pair_words (Mentions k ∷ ws) (Says d ∷ vs) h i = absurd h

    paired_joined : (xs ys ws vs : List TextWord) → PairedWords xs ys → PairedWords ws vs → PairedWords (xs ++ ws) (ys ++ vs)
    paired_joined [] [] ws vs h g = g
    paired_joined (Says b ∷ xs) (Says d ∷ ys) ws vs h g = (h.0, paired_joined xs ys ws vs h.1 g)
    paired_joined (Mentions k ∷ xs) (Mentions j ∷ ys) ws vs h g = (h.0, paired_joined xs ys ws vs h.1 g)
    paired_joined [] (w ∷ ys) ws vs h g = absurd h
    paired_joined (Says b ∷ xs) [] ws vs h g = absurd h
    paired_joined (Mentions k ∷ xs) [] ws vs h g = absurd h
    paired_joined (Says b ∷ xs) (Mentions j ∷ ys) ws vs h g = absurd h
    paired_joined (Mentions k ∷ xs) (Says d ∷ ys) ws vs h g = absurd h

    paired_spelled : (xs ys : List TextWord) → PairedWords xs ys → spelled t xs ≡ spelled u ys
    paired_spelled [] [] h = refl
    paired_spelled (Says b ∷ xs) (Says d ∷ ys) h = ap (λ (z : List ℕ). z ++ spelled t xs) h.0 ∙ ap (λ (z : List ℕ). d ++ z) (paired_spelled xs ys h.1)
    paired_spelled (Mentions k ∷ xs) (Mentions j ∷ ys) h = ap (λ (z : List ℕ). z ++ spelled t xs) (pairing k j h.0).defined.0 ∙ ap (λ (z : List ℕ). name_of u j ++ z) (paired_spelled xs ys h.1)
    paired_spelled [] (w ∷ ys) h = absurd h
    paired_spelled (Says b ∷ xs) [] h = absurd h
    paired_spelled (Mentions k ∷ xs) [] h = absurd h
    paired_spelled (Says b ∷ xs) (Mentions j ∷ ys) h = absurd h
    paired_spelled (Mentions k ∷ xs) (Says d ∷ ys) h = absurd h

    abbrev PairedLists : List ℕ → List ℕ → Type 0
    PairedLists [] [] = Unit {0}
    PairedLists (x ∷ xs) (y ∷ ys) = Paired x y × PairedLists xs ys
    PairedLists _ _ = ⊥

    mentioned_paired : (ws vs : List TextWord) → PairedWords ws vs → PairedLists (mentioned t ws) (mentioned u vs)
    mentioned_paired [] [] h = tt
    mentioned_paired (Says b ∷ ws) (Says d ∷ vs) h = mentioned_paired ws vs h.1
    mentioned_paired (Mentions k ∷ ws) (Mentions j ∷ vs) h =
        let z = pairing k j h.0 in
        let left : mentioned t (Mentions k ∷ ws) ≡ k ∷ mentioned t ws = rw (in_range t.records k z.left.0 z.left.1) refl in
        let right : mentioned u (Mentions j ∷ vs) ≡ j ∷ mentioned u vs = rw (in_range u.records j z.right.0 z.right.1) refl in
        subst (λ (x : List ℕ). PairedLists x (mentioned u (Mentions j ∷ vs))) (sym left) (subst (λ (x : List ℕ). PairedLists (k ∷ mentioned t ws) x) (sym right) (h.0, mentioned_paired ws vs h.1))
    mentioned_paired [] (w ∷ vs) h = absurd h
    mentioned_paired (Says b ∷ ws) [] h = absurd h
    mentioned_paired (Mentions k ∷ ws) [] h = absurd h
    mentioned_paired (Says b ∷ ws) (Mentions j ∷ vs) h = absurd h
    mentioned_paired (Mentions k ∷ ws) (Says d ∷ vs) h = absurd h

    equal_number : (x y : ℕ) → (x == y) ≡ true → x ≡ y
    equal_number x y e = grind (arith, nat_tests)

    number_equal : (x y : ℕ) → x ≡ y → (x == y) ≡ true
    number_equal x y e = grind (arith, nat_tests)

    -- paired records are one on the left where they are one on the right
    tests_agree : (x y k j : ℕ) → Paired x y → Paired k j → (x == k) ≡ (y == j)
    tests_agree x y k j p q = by_tests (x == k) (y == j) refl refl where
      names : x ≡ k → y ≡ j
      names e = one_right y j (pairing x y p).right (pairing k j q).right (sym (pairing x y p).defined.0 ∙ ap (name_of t) e ∙ (pairing k j q).defined.0)

      back : y ≡ j → x ≡ k
      back e = one_left x k (pairing x y p).left (pairing k j q).left ((pairing x y p).defined.0 ∙ ap (name_of u) e ∙ sym (pairing k j q).defined.0)

      by_tests : (a b : Bool) → (x == k) ≡ a → (y == j) ≡ b → (x == k) ≡ (y == j)
      by_tests true true e f = e ∙ sym f
      by_tests false false e f = e ∙ sym f
      by_tests true false e f = absurd (let bad : true ≡ false = sym (number_equal y j (names (equal_number x k e))) ∙ f in cc)
      by_tests false true e f = absurd (let bad : true ≡ false = sym (number_equal x k (back (equal_number y j f))) ∙ e in cc)

    any_agrees : (xs ys : List ℕ) (k j : ℕ) → PairedLists xs ys → Paired k j → list_any (λ x. k == x) xs ≡ list_any (λ y. j == y) ys
    any_agrees [] [] k j h q = refl
    any_agrees (x ∷ xs) (y ∷ ys) k j h q = ap (λ (b : Bool). b || list_any (λ x. k == x) xs) (tests_agree k j x y q h.0) ∙ ap (λ (b : Bool). (j == y) || b) (any_agrees xs ys k j h.1 q)
    any_agrees [] (y ∷ ys) k j h q = absurd h
    any_agrees (x ∷ xs) [] k j h q = absurd h

    paired_end : (xs ys : List ℕ) (k j : ℕ) → PairedLists xs ys → Paired k j → PairedLists (xs ++ k ∷ []) (ys ++ j ∷ [])
    paired_end [] [] k j h q = (q, tt)
    paired_end (x ∷ xs) (y ∷ ys) k j h q = (h.0, paired_end xs ys k j h.1 q)
    paired_end [] (y ∷ ys) k j h q = absurd h
    paired_end (x ∷ xs) [] k j h q = absurd h

    paired_one : (xs ys : List ℕ) (k j : ℕ) → PairedLists xs ys → Paired k j → PairedLists (with_one xs k) (with_one ys j)
    paired_one xs ys k j h q = by_any (list_any (λ x. k == x) xs) (list_any (λ y. j == y) ys) (any_agrees xs ys k j h q) where
      by_any : (a b : Bool) → a ≡ b → PairedLists (if a then xs else xs ++ k ∷ []) (if b then ys else ys ++ j ∷ [])
      by_any true true e = h
      by_any false false e = paired_end xs ys k j h q
      by_any true false e = absurd cc
      by_any false true e = absurd cc

    paired_new : (xs ys as1 bs1 : List ℕ) → PairedLists xs ys → PairedLists as1 bs1 → PairedLists (with_new xs as1) (with_new ys bs1)
    paired_new xs ys [] [] h g = h
    paired_new xs ys (k ∷ as1) (j ∷ bs1) h g = paired_new (with_one xs k) (with_one ys j) as1 bs1 (paired_one xs ys k j h g.0) g.1
    paired_new xs ys [] (j ∷ bs1) h g = absurd g
    paired_new xs ys (k ∷ as1) [] h g = absurd g

    -- ---- where the list holds what its records' definitions mention

    module _ (closed : AllMentions (λ k. In k ks) (joined (map (definition t) ks))) where
      defined_in : (xs : List ℕ) (k : ℕ) → AllMentions (λ q. In q ks) (joined (map (definition t) xs)) → In k xs → AllMentions (λ q. In q ks) (definition t k)
      defined_in [] k h i = absurd i
      defined_in (x ∷ xs) k h (inl e) = subst (λ (z : ℕ). AllMentions (λ q. In q ks) (definition t z)) e (mentions_left (λ q. In q ks) (definition t x) (joined (map (definition t) xs)) h)
      defined_in (x ∷ xs) k h (inr i) = defined_in xs k (mentions_right (λ q. In q ks) (definition t x) (joined (map (definition t) xs)) h) i

      paired_definition : (k j : ℕ) → Paired k j → PairedWords (definition t k) (definition u j)
      paired_definition k j p = let z = pairing k j p in pair_words (definition t k) (definition u j) (definition_alike k j z.defined) (defined_in ks k closed z.member)

      paired_definitions : (xs ys : List ℕ) → PairedLists xs ys → PairedWords (joined (map (definition t) xs)) (joined (map (definition u) ys))
      paired_definitions [] [] h = tt
      paired_definitions (k ∷ xs) (j ∷ ys) h =
          paired_joined (definition t k) (definition u j) (joined (map (definition t) xs)) (joined (map (definition u) ys)) (paired_definition k j h.0) (paired_definitions xs ys h.1)
      paired_definitions [] (j ∷ ys) h = absurd h
      paired_definitions (k ∷ xs) [] h = absurd h

      paired_more : (xs ys : List ℕ) → PairedLists xs ys → PairedWords (after_commas (map (definition t) xs)) (after_commas (map (definition u) ys))
      paired_more [] [] h = tt
      paired_more (k ∷ xs) (j ∷ ys) h = (refl, paired_joined (definition t k) (definition u j) (after_commas (map (definition t) xs)) (after_commas (map (definition u) ys)) (paired_definition k j h.0) (paired_more xs ys h.1))
      paired_more [] (j ∷ ys) h = absurd h
      paired_more (k ∷ xs) [] h = absurd h

      paired_where : (xs ys : List ℕ) → PairedLists xs ys → PairedWords (where_words t xs) (where_words u ys)
      paired_where [] [] h = tt
      paired_where (k ∷ xs) (j ∷ ys) h = (refl, paired_joined (definition t k) (definition u j) (after_commas (map (definition t) xs)) (after_commas (map (definition u) ys)) (paired_definition k j h.0) (paired_more xs ys h.1))
      paired_where [] (j ∷ ys) h = absurd h
      paired_where (k ∷ xs) [] h = absurd h

      paired_rounds : (ws vs : List TextWord) (n : ℕ) → PairedWords ws vs → PairedLists (reached t ws n) (reached u vs n)
      unfolding reached
      paired_rounds ws vs zero h = tt
      paired_rounds ws vs (suc n) h =
          let more = paired_definitions (reached t ws n) (reached u vs n) (paired_rounds ws vs n h) in
          paired_new [] [] (mentioned t (ws ++ joined (map (definition t) (reached t ws n)))) (mentioned u (vs ++ joined (map (definition u) (reached u vs n)))) tt
          (mentioned_paired (ws ++ joined (map (definition t) (reached t ws n))) (vs ++ joined (map (definition u) (reached u vs n))) (paired_joined ws vs _ _ h more))

      paired_reached : (ws vs : List TextWord) → PairedWords ws vs → PairedLists (reached_by t ws) (reached_by u vs)
      paired_reached ws vs h =
          let n : ℕ = suc (length t.records) + suc (length u.records) in
          subst (λ (z : List ℕ). PairedLists z (reached_by u vs)) (later t ws (suc (length u.records)) n refl)
          (subst (λ (z : List ℕ). PairedLists (reached t ws n) z) (later u vs (suc (length t.records)) n (omega arith)) (paired_rounds ws vs n h))

      -- modes of alike words have one full mode
      same_of : (m n : Mode) → AlikeWords t u gt gu (mode_words m) (mode_words n) → AllMentions (λ k. In k ks) (mode_words m) → Same t u m n
      same_of m n h i =
          let p = pair_words (mode_words m) (mode_words n) h i in
          paired_spelled (mode_words m ++ where_words t (reached_by t (mode_words m))) (mode_words n ++ where_words u (reached_by u (mode_words n)))
          (paired_joined (mode_words m) (mode_words n) _ _ p (paired_where (reached_by t (mode_words m)) (reached_by u (mode_words n)) (paired_reached (mode_words m) (mode_words n) p)))

  -- ---- two texts of one spelling

  -- what words and the definitions behind them have in common
  pub record Shared (ws : List TextWord) : Type 0 where
    ks : List ℕ
    js : List ℕ
    alike : AllAlike t u gt gu ks js
    rights : AllByRecursion (InRight t u gt gu) js
    lefts : AllByRecursion (InLeft t u gt gu) ks
    closed : AllMentions (λ k. In k ks) (joined (map (definition t) ks))
    pub inside : AllMentions (λ k. In k ks) ws

  below : (v : ModeTable) (ws : List TextWord) → AllByRecursion (λ k. (d : RecordDef) × (slice_get v.records k ≡ Some d)) (mentioned v ws)
  below v [] = tt
  below v (Says b ∷ ws) = below v ws
  below v (Mentions k ∷ ws) = by_range (nat_lt k (length v.records)) refl (below v ws) where
    there : (xs : List RecordDef) (k : ℕ) → nat_lt k (length xs) ≡ true → (d : RecordDef) × (slice_get xs k ≡ Some d)
    there [] k h = absurd (let bad : k < 0 = grind (arith, nat_tests) in omega (arith, bad))
    there (x ∷ xs) zero h = (x, refl)
    there (x ∷ xs) (suc k) h = there xs k (let l : k < length xs = grind (arith, nat_tests) in grind (arith, nat_tests))

    by_range : (b : Bool) → nat_lt k (length v.records) ≡ b → AllByRecursion (λ k. (d : RecordDef) × (slice_get v.records k ≡ Some d)) (mentioned v ws)
        → AllByRecursion (λ k. (d : RecordDef) × (slice_get v.records k ≡ Some d)) (if b then k ∷ mentioned v ws else mentioned v ws)
    by_range true e h = (there v.records k e, h)
    by_range false e h = h

  all_end : (P : ℕ → Type 0) (xs : List ℕ) (k : ℕ) → AllByRecursion P xs → P k → AllByRecursion P (xs ++ k ∷ [])
  all_end P [] k h p = (p, tt)
  all_end P (x ∷ xs) k h p = (h.0, all_end P xs k h.1 p)

  all_one : (P : ℕ → Type 0) (xs : List ℕ) (k : ℕ) → AllByRecursion P xs → P k → AllByRecursion P (with_one xs k)
  all_one P xs k h p = by_any (list_any (λ x. k == x) xs) where
    by_any : (b : Bool) → AllByRecursion P (if b then xs else xs ++ k ∷ [])
    by_any true = h
    by_any false = all_end P xs k h p

  all_new : (P : ℕ → Type 0) (xs ys : List ℕ) → AllByRecursion P xs → AllByRecursion P ys → AllByRecursion P (with_new xs ys)
  all_new P xs [] h g = h
  all_new P xs (y ∷ ys) h g = all_new P (with_one xs y) ys (all_one P xs y h g.0) g.1

  in_tables : (v : ModeTable) (ws : List TextWord) → AllByRecursion (λ k. (d : RecordDef) × (slice_get v.records k ≡ Some d)) (reached_by v ws)
  in_tables v ws =
      subst (AllByRecursion (λ k. (d : RecordDef) × (slice_get v.records k ≡ Some d))) (sym (all_closed v ws)) (all_new (λ k. (d : RecordDef) × (slice_get v.records k ≡ Some d)) [] _ tt (below v (ws ++ joined (map (definition v) (reached_by v ws)))))

  -- alike words, and the same text of definitions behind them
  pub shared : (ws vs : List TextWord) → AlikeWords t u gt gu ws vs → spelled t (where_words t (reached_by t ws)) ≡ spelled u (where_words u (reached_by u vs)) → Shared ws
  shared ws vs h e =
      let ks : List ℕ = reached_by t ws in
      let js : List ℕ = reached_by u vs in
      let lefts : AllByRecursion (InLeft t u gt gu) ks = in_tables t ws in
      let rights : AllByRecursion (InRight t u gt gu) js = in_tables u vs in
      let alike = where_tells t u gt gu ks js lefts rights e in
      let whole : List TextWord = ws ++ joined (map (definition t) ks) in
      let all_left : AllMentions (InLeft t u gt gu) whole =
      left_in whole (vs ++ joined (map (definition u) js)) (alike_joined t u gt gu ws vs (joined (map (definition t) ks)) (joined (map (definition u) js)) h (definitions_alike ks js alike)) in
      let listed = mentions_map (λ k. In k (mentioned t whole)) (λ k. In k (with_new [] (mentioned t whole))) whole (λ k i. in_new k [] (mentioned t whole) i) (mentions_listed whole all_left) in
      let held : AllMentions (λ k. In k ks) whole = subst (λ (l : List ℕ). AllMentions (λ k. In k l) whole) (sym (all_closed t ws)) listed in
      record {
        ks = ks;
        js = js;
        alike = alike;
        rights = rights;
        lefts = lefts;
        closed = mentions_right (λ k. In k ks) ws (joined (map (definition t) ks)) held;
        inside = mentions_left (λ k. In k ks) ws (joined (map (definition t) ks)) held;
      }

  module _ (ws : List TextWord) (s : Shared ws) where
    abbrev pub P : ℕ → Type 0
    P k = In k s.ks

    one_same : (a b : Mode) → AlikeWords t u gt gu (mode_words a) (mode_words b) → AllMentions P (mode_words a) → Same t u a b
    one_same a b h i = same_of s.ks s.js s.alike s.rights s.lefts s.closed a b h i

    each_rest : (ms ns : List Mode) → EachAlike t u gt gu ms ns → AllMentions P (after_commas (map mode_words ms)) → EachSame t u ms ns
    each_rest [] [] h i = tt
    each_rest (a ∷ ms) (b ∷ ns) h i = (one_same a b h.0 (mentions_left P (mode_words a) (after_commas (map mode_words ms)) i), each_rest ms ns h.1 (mentions_right P (mode_words a) (after_commas (map mode_words ms)) i))
    each_rest [] (b ∷ ns) h i = absurd h
    each_rest (a ∷ ms) [] h i = absurd h

    each_first : (ms ns : List Mode) → EachAlike t u gt gu ms ns → AllMentions P (between_commas (map mode_words ms)) → EachSame t u ms ns
    each_first [] [] h i = tt
    each_first (a ∷ ms) (b ∷ ns) h i = (one_same a b h.0 (mentions_left P (mode_words a) (after_commas (map mode_words ms)) i), each_rest ms ns h.1 (mentions_right P (mode_words a) (after_commas (map mode_words ms)) i))
    each_first [] (b ∷ ns) h i = absurd h
    each_first (a ∷ ms) [] h i = absurd h

    any_same : (r q : Option Mode) → AnyAlike t u gt gu r q → AllMentions P (result_words (option_map mode_words r)) → AnySame t u r q
    any_same None None h i = tt
    any_same (Some a) (Some b) h i = one_same a b h i
    any_same None (Some b) h i = absurd h
    any_same (Some a) None h i = absurd h

    field_mentions : (f : Field) (ws : List TextWord) → AllMentions P (field_words f ++ ws) → AllMentions P (mode_words f.mode) × AllMentions P ws
    field_mentions f ws i = (mentions_left P (mode_words f.mode) (Says (32 ∷ f.name) ∷ []) (mentions_left P (field_words f) ws i), mentions_right P (field_words f) ws i)

    rest_fields : (fs gs : List Field) → FieldsAlike t u gt gu fs gs → AllMentions P (after_commas (map field_words fs)) → FieldsSame t u fs gs
    rest_fields [] [] h i = tt
    rest_fields (f ∷ fs) (g ∷ gs) h i = let z = field_mentions f (after_commas (map field_words fs)) i in (h.0, one_same f.mode g.mode h.1 z.0, rest_fields fs gs h.2 z.1)
    rest_fields [] (g ∷ gs) h i = absurd h
    rest_fields (f ∷ fs) [] h i = absurd h

    pub first_fields : (fs gs : List Field) → FieldsAlike t u gt gu fs gs → AllMentions P (between_commas (map field_words fs)) → FieldsSame t u fs gs
    first_fields [] [] h i = tt
    first_fields (f ∷ fs) (g ∷ gs) h i = let z = field_mentions f (after_commas (map field_words fs)) i in (h.0, one_same f.mode g.mode h.1 z.0, rest_fields fs gs h.2 z.1)
    first_fields [] (g ∷ gs) h i = absurd h
    first_fields (f ∷ fs) [] h i = absurd h

    records_same : (r q : ℕ) → Namesakes t u gt gu r q → P r → (name_of t r ≡ name_of u q) × FieldsSame t u (fields_of t r) (fields_of u q)
    records_same r q h i =
        let p = pair_of s.ks s.js s.alike s.rights s.lefts r q h i in
        let d = (pairing s.ks s.js s.alike s.rights s.lefts r q p).defined in
        let held = defined_in s.ks s.js s.alike s.rights s.lefts s.closed s.ks r s.closed i in
        (d.0, first_fields (fields_of t r) (fields_of u q) d.1 (mentions_left P (between_commas (map field_words (fields_of t r))) (Says (codes ")") ∷ []) held))

    -- ---- two modes of one full mode

    module _ (m : Mode) (is : ws ≡ mode_words m) where
      words_of : (l : Mode-F Mode) → out-Mode m ≡ l → AllMentions P (one_mode (map-Mode Mode (List TextWord) mode_words l))
      words_of l o = subst (AllMentions P) (is ∙ (let e : mode_words m ≡ one_mode (map-Mode Mode (List TextWord) mode_words l) = rw (fold_out-Mode, o) refl in e)) s.inside

      level_same : (l k : Mode-F Mode) → out-Mode m ≡ l → LevelAlike t u gt gu l k → LevelSame t u l k
      level_same Mode-F.Byte Mode-F.Byte o h = tt
      level_same Mode-F.Byte _ o h = absurd h
      level_same Mode-F.Int Mode-F.Int o h = tt
      level_same Mode-F.Int _ o h = absurd h
      level_same Mode-F.Frac Mode-F.Frac o h = tt
      level_same Mode-F.Frac _ o h = absurd h
      level_same Mode-F.Label Mode-F.Label o h = tt
      level_same Mode-F.Label _ o h = absurd h
      level_same (Mode-F.Ref a) (Mode-F.Ref b) o h = one_same a b h (words_of (Mode-F.Ref a) o)
      level_same (Mode-F.Ref a) _ o h = absurd h
      level_same (Mode-F.RefArray a) (Mode-F.RefArray b) o h = one_same a b h (words_of (Mode-F.RefArray a) o)
      level_same (Mode-F.RefArray a) _ o h = absurd h
      level_same (Mode-F.Array i a) (Mode-F.Array j b) o h = (h.0, one_same a b h.1 (words_of (Mode-F.Array i a) o))
      level_same (Mode-F.Array i a) _ o h = absurd h
      level_same (Mode-F.Record r) (Mode-F.Record q) o h = records_same r q h (words_of (Mode-F.Record r) o).0
      level_same (Mode-F.Record r) _ o h = absurd h
      level_same (Mode-F.Proc ps None) (Mode-F.Proc qs q) o h =
          let i = words_of (Mode-F.Proc ps None) o in
          (each_first ps qs h.0 (mentions_left P (between_commas (map mode_words ps)) (result_words None) i), any_same None q h.1 (mentions_right P (between_commas (map mode_words ps)) (result_words None) i))
      level_same (Mode-F.Proc ps None) _ o h = absurd h
      level_same (Mode-F.Proc ps (Some r)) (Mode-F.Proc qs q) o h =
          let i = words_of (Mode-F.Proc ps (Some r)) o in
          (each_first ps qs h.0 (mentions_left P (between_commas (map mode_words ps)) (result_words (Some (mode_words r))) i), any_same (Some r) q h.1 (mentions_right P (between_commas (map mode_words ps)) (result_words (Some (mode_words r))) i))
      level_same (Mode-F.Proc ps (Some r)) _ o h = absurd h

  pub full_modes_open : (m n : Mode) → MayStand t m → MayStand u n → Same t u m n → LevelSame t u (out-Mode m) (out-Mode n)
  full_modes_open m n sm sn e =
      let ks : List ℕ = reached_by t (mode_words m) in
      let js : List ℕ = reached_by u (mode_words n) in
      let z = known t u gt gu m n (spelled t (where_words t ks)) (spelled u (where_words u js)) sm sn (tell.where_closes t gt.names gt.apart ks) (tell.where_closes u gu.names gu.apart js)
      (sym (tell.full_split t gt.names gt.apart m) ∙ e ∙ tell.full_split u gu.names gu.apart n) in
      level_same (mode_words m) (shared (mode_words m) (mode_words n) z.0 z.2) m refl (out-Mode m) (out-Mode n) refl z.1
