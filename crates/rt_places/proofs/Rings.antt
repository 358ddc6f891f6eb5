-- Two places of one mode begin at one place of a value only where they are one.
use Rattle.std.proofs.Common.{◌≡◌, ◌⊎◌, inl, inr, ℕ, zero, suc, ◌+◌, ◌*◌, ◌<◌, ◌≤◌, List, [], ◌∷◌, Option, Some, slice_get, refl, sym, ap, ◌∙◌, subst, arith}
use Rattle.rt_modes.specs.declared.mode.Field.{Field}
use Rattle.rt_modes.specs.declared.mode.Mode.{Mode, out-Mode}
use Rattle.rt_modes.specs.declared.mode.Mode.TheOpen.{Mode-F}
use Rattle.rt_modes.specs.declared.mode.RecordDef.{RecordDef}
use Rattle.rt_modes.specs.FullMode.{fields_in}
use Rattle.rt_sizes.specs.Containing.{held, HaveOne, fields_of, Contains, directly, through}
use Rattle.rt_sizes.specs.Sizes.{size}
use Rattle.rt_sizes.proofs.Layers.{some_is}
use Rattle.rt_sizes_laws.proofs.Sized.{held_at}
use Rattle.rt_places.specs.Places.{AreSizes, IsField, IsPart, Leads}
use Rattle.rt_places.proofs.Parts.{part_lies, one_part, part_before}
use Rattle.rt_places.proofs.Paths.{less, same, more, order, inside}

have_got : (fs : List Field) (k s : ℕ) (f : Field) → slice_get fs k ≡ Some f → held f.mode ≡ Some s → HaveOne fs s
have_got [] k s f at h = absurd cc
have_got (g ∷ fs) zero s f at h = inl (let is : g ≡ f = some_is g f at in ap (λ (x : Field). held x.mode) is ∙ h)
have_got (g ∷ fs) (suc k) s f at h = inr (have_got fs k s f at h)

module _ (records : List RecordDef) (S : ℕ → Option ℕ) (sizes : AreSizes records S) where
  further : (r q s : ℕ) → HaveOne (fields_of records r) q → Contains records q s → Contains records r s
  further r q s h (directly i) = through (directly h) i
  further r q s h (through {s = x} c i) = through (further r q x h c) i

  -- what a value of mode e holds has record s, or is it
  abbrev HasIn : Mode → ℕ → Type 0
  HasIn e s = (held e ≡ Some s) ⊎ ((q : ℕ) × (held e ≡ Some q) × Contains records q s)

  in_field : (k : ℕ) (m e : Mode) (a s : ℕ) → IsField records S k m e a → HasIn e s → (q : ℕ) × (out-Mode m ≡ Mode-F.Record q) × Contains records q s
  in_field k m e a s h (inl x) =
      let has : HaveOne (fields_of records h.number) s =
      subst (λ (o : Option RecordDef). HaveOne (fields_in o) s) (sym h.at) (have_got h.def.fields k s h.field h.has (ap held h.mode ∙ x)) in
      (h.number, h.is, directly has)
  in_field k m e a s h (inr (q, x, c)) =
      let has : HaveOne (fields_of records h.number) q =
      subst (λ (o : Option RecordDef). HaveOne (fields_in o) q) (sym h.at) (have_got h.def.fields k q h.field h.has (ap held h.mode ∙ x)) in
      (h.number, h.is, further h.number q s has c)

  in_part : (k : ℕ) (m e : Mode) (a s : ℕ) → IsPart records S k m e a → HasIn e s → HasIn m s
  in_part k m e a s (inl h) x = let is = in_field k m e a s h x in inr (is.0, held_at m (Mode-F.Record is.0) is.1, is.2)
  in_part k m e a s (inr h) (inl x) = inl (held_at m (Mode-F.Array h.count e) h.is ∙ x)
  in_part k m e a s (inr h) (inr (q, x, c)) = inr (q, held_at m (Mode-F.Array h.count e) h.is ∙ x, c)

  in_path : (path : List ℕ) (m w : Mode) (o s : ℕ) → Leads records S path m w o → held w ≡ Some s → HasIn m s
  in_path [] m w o s h x = inl (ap held h.0 ∙ x)
  in_path (k ∷ ks) m w o s (e, a, b, part, rest, is) x = in_part k m e a s part (in_path ks e w b s rest x)

  -- where no record contains itself, no value has one of its own mode at its begin
  module _ (none : (r : ℕ) → Contains records r r → ⊥) where
    not_field : (k : ℕ) (ks : List ℕ) (m e : Mode) (a b : ℕ) → IsField records S k m e a → Leads records S ks e m b → ⊥
    not_field k ks m e a b h rest =
        let holds : held m ≡ Some h.number = held_at m (Mode-F.Record h.number) h.is in
        let is = in_field k m e a h.number h (in_path ks e m b h.number rest holds) in
        let number : is.0 ≡ h.number = some_is is.0 h.number (let p : held m ≡ Some is.0 = held_at m (Mode-F.Record is.0) is.1 in sym p ∙ holds) in
        none h.number (subst (λ (x : ℕ). Contains records x h.number) number is.2)

    not_itself : (path : List ℕ) (m : Mode) → Leads records S path m m 0 → path ≡ []
    not_itself [] m h = refl
    not_itself (k ∷ ks) m (e, a, b, inl h, rest, is) = absurd (not_field k ks m e a b h rest)
    not_itself (k ∷ ks) m (e, a, b, inr h, rest, is) = absurd (let begin : a ≡ 2 + h.bytes * k = h.begins in omega arith)

    module _ (some : (m : Mode) (n : ℕ) → size S m ≡ Some n → 1 ≤ n) where
      never : (k j : ℕ) (ks js : List ℕ) (m e f v w : Mode) (a b c d o n : ℕ) → k < j → size S m ≡ Some n → IsPart records S k m e a → IsPart records S j m f b → Leads records S ks e v c → Leads records S js f w d → o ≡ a + c → o ≡ b + d → ⊥
      never k j ks js m e f v w a b c d o n l z p q h i x y =
          let one = part_lies records S sizes k m e a n p z in
          let deep = inside records S sizes ks e v c one.bytes h one.sized in
          let size = some v deep.bytes deep.sized in
          let before = part_before records S sizes k j m e f a b one.bytes l p q one.sized in
          omega (arith, deep.inside)

      pub one_place : (p q : List ℕ) (m w : Mode) (o n : ℕ) → size S m ≡ Some n → Leads records S p m w o → Leads records S q m w o → p ≡ q
      one_place [] q m w o n z h i =
          let begin : o ≡ 0 = h.1 in
          sym (not_itself q m (subst (λ (x : Mode). Leads records S q m x 0) (sym h.0) (subst (λ (x : ℕ). Leads records S q m w x) begin i)))
      one_place (k ∷ ks) [] m w o n z h i =
          let begin : o ≡ 0 = i.1 in
          not_itself (k ∷ ks) m (subst (λ (x : Mode). Leads records S (k ∷ ks) m x 0) (sym i.0) (subst (λ (x : ℕ). Leads records S (k ∷ ks) m w x) begin h))
      one_place (k ∷ ks) (j ∷ js) m w o n z (e, a, c, p, h, is) (f, b, d, q, i, are) =
          elim (order k j) [
            | less l ↦ absurd (never k j ks js m e f w w a b c d o n l z p q h i is are)
            | more l ↦ absurd (never j k js ks m f e w w b a d c o n l z q p i h are is)
            | same s ↦
                let again : IsPart records S k m f b = subst (λ (r : ℕ). IsPart records S r m f b) (sym s) q in
                let one = one_part records S sizes k m e f a b p again in
                let lies = part_lies records S sizes k m e a n p z in
                let equal : d ≡ c = omega (arith, one.1) in
                let first : Leads records S js e w c = subst (λ (x : ℕ). Leads records S js e w x) equal (subst (λ (r : Mode). Leads records S js r w d) (sym one.0) i) in
                let deep = one_place ks js e w c lies.bytes lies.sized h first in cc
          ]
