-- Laws of the bytes of objects.
use Rattle.std.proofs.Common.{◌≡◌, ℕ, ◌-◌, ◌⊎◌, inl, inr, refl, List, [], ◌∷◌, ◌++◌, length, sym, ap, subst, ◌∙◌, arith}
use Rattle.std.proofs.lemmas.List.{append-nil}
use Rattle.rt_words.specs.Format.{Format, Spell, whole}
use Rattle.rt_object.specs.Grammar.{object_format, IsNoObject, IsOfVersion}
use Rattle.rt_words.proofs.Within.{in_whole}
use Rattle.std.proofs.lemmas.Bool.Decides.{eqb_tells}
use Rattle.rt_object.proofs.ObjectWithin.{in_object}
use Rattle.rt_object.specs.Laws.{AreOneOfThree, NoneBegins, NeverBoth, HaveOnePlace, HaveOneVersion}
use Rattle.rt_object.proofs.ObjectFront.{front_object}
use Rattle.rt_object.proofs.Sure.{Sure, sure_object}

pub no_beginning : NoneBegins
no_beginning bytes rest o p h k =
    let front = front_object.back bytes [] o h.fields in
    let same : bytes ≡ front.0 = front.1 ∙ append-nil front.0 in
    let again : object_format.Fits (bytes ++ rest) rest o = subst (λ t. object_format.Fits (t ++ rest) rest o) (sym same) (front.2 rest) in
    sure_object.one (bytes ++ rest) rest [] o p again k.fields

-- what is refused of all bytes is none of what they are
whole_apart : {A : Type 0} (P : Format A) → Sure P → (bytes : List ℕ) (a : A) (n : ℕ) → Spell P bytes a → (whole P).Refuses bytes n → ⊥
whole_apart P g bytes a n f (inl x) = g.apart bytes [] a n f x
whole_apart P g bytes a n f (inr (b, r, x, fits, e)) = let same : [] ≡ b ∷ r = (g.one bytes [] (b ∷ r) a x f fits).0 in cc

whole_place : {A : Type 0} (P : Format A) → Sure P → (bytes : List ℕ) (m n : ℕ) → (whole P).Refuses bytes m → (whole P).Refuses bytes n → m ≡ n
whole_place P g bytes m n (inl x) (inl y) = g.place bytes m n x y
whole_place P g bytes m n (inl x) (inr (b, r, a, fits, e)) = absurd (g.apart bytes (b ∷ r) a m fits x)
whole_place P g bytes m n (inr (b, r, a, fits, e)) (inl y) = absurd (g.apart bytes (b ∷ r) a n fits y)
whole_place P g bytes m n (inr (b, r, a, fits, e)) (inr (b', r', a', fits', e')) = e ∙ ap length (g.one bytes (b ∷ r) (b' ∷ r') a a' fits fits').0 ∙ sym e'

pub never_both : NeverBoth
never_both bytes o at h k = whole_apart object_format sure_object bytes o (length bytes - at) h.fields k.refused.refused

pub one_place : HaveOnePlace
one_place bytes at other h k =
    let same = whole_place object_format sure_object bytes (length bytes - at) (length bytes - other) h.refused.refused k.refused.refused in
    let one = h.refused.inside in
    let two = k.refused.inside in
    omega arith

pub fourth : (a b c d e f g i : ℕ) (r s : List ℕ) → a ∷ (b ∷ (c ∷ (d ∷ r))) ≡ e ∷ (f ∷ (g ∷ (i ∷ s))) → d ≡ i
fourth a b c d e f g i r s same = cc

pub one_version : HaveOneVersion
one_version bytes o found h (rest, e, other) = other (sym (fourth 82 84 79 1 82 84 79 found h.fields.0 rest (sym h.fields.2 ∙ e)))

-- ---- bytes are something

whole_either : {A : Type 0} (P : Format A) → Sure P → (bytes : List ℕ) → ((a : A) × Spell P bytes a) ⊎ ((n : ℕ) × (whole P).Refuses bytes n)
whole_either {A} P g bytes = elim (g.either bytes) [ inr (n, x) ↦ inr (n, inl x) | inl (r, a, f) ↦ by r a f ]
  where
    by : (r : List ℕ) (a : A) → P.Fits bytes r a → ((a : A) × Spell P bytes a) ⊎ ((n : ℕ) × (whole P).Refuses bytes n)
    by [] a f = inl (a, f)
    by (b ∷ r) a f = inr (length (b ∷ r), inr (b, r, a, f, refl))

-- whether bytes name another version
version_told : (bytes : List ℕ) → ((found : ℕ) × IsOfVersion bytes found) ⊎ ((found : ℕ) → IsOfVersion bytes found → ⊥)
version_told [] = inr (λ v h. let bad = h.1 in cc)
version_told (a ∷ []) = inr (λ v h. let bad = h.1 in cc)
version_told (a ∷ (b ∷ [])) = inr (λ v h. let bad = h.1 in cc)
version_told (a ∷ (b ∷ (c ∷ []))) = inr (λ v h. let bad = h.1 in cc)
version_told (a ∷ (b ∷ (c ∷ (d ∷ rest)))) = by (same a 82) (same b 84) (same c 79) (same d 1)
  where
    same : (x y : ℕ) → (x ≡ y) ⊎ (x ≡ y → ⊥)
    same x y = elim (eqb_tells x y) [ inl k ↦ inl k.1 | inr k ↦ inr k.1 ]

    by : ((a ≡ 82) ⊎ (a ≡ 82 → ⊥)) → ((b ≡ 84) ⊎ (b ≡ 84 → ⊥)) → ((c ≡ 79) ⊎ (c ≡ 79 → ⊥)) → ((d ≡ 1) ⊎ (d ≡ 1 → ⊥)) → ((found : ℕ) × IsOfVersion (a ∷ (b ∷ (c ∷ (d ∷ rest)))) found) ⊎ ((found : ℕ) → IsOfVersion (a ∷ (b ∷ (c ∷ (d ∷ rest)))) found → ⊥)
    by (inr unlike) y z w = inr (λ v h. unlike (let e = h.1 in cc))
    by (inl x) (inr unlike) z w = inr (λ v h. unlike (let e = h.1 in cc))
    by (inl x) (inl y) (inr unlike) w = inr (λ v h. unlike (let e = h.1 in cc))
    by (inl x) (inl y) (inl z) (inl w) = inr (λ v h. h.2 (let e = h.1 in cc))
    by (inl x) (inl y) (inl z) (inr unlike) = inl (d, (rest, rw (x, y, z) refl, unlike))

pub refused_at : (bytes : List ℕ) (n : ℕ) → (whole object_format).Refuses bytes n → ((found : ℕ) → IsOfVersion bytes found → ⊥) → IsNoObject bytes (length bytes - n)
refused_at bytes n x none =
    let inside = (in_whole object_format in_object).field bytes n x in
    let k : length bytes - (length bytes - n) ≡ n = omega arith in
    record { refused = record { inside = omega arith; refused = rw k x }; version = none }

pub one_of_three : AreOneOfThree
one_of_three bytes h = elim (version_told bytes) [
  | inl v ↦ inr (inr v)
  | inr none ↦ elim (whole_either object_format sure_object bytes) [
    | inl (o, f) ↦ inl (o, record { each_byte = h; fields = f })
    | inr (n, x) ↦ inr (inl (length bytes - n, refused_at bytes n x none))
  ]
]
