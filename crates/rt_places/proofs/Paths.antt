-- How parts lie to which paths lead.
use Rattle.std.proofs.Common.{◌≡◌, ◌≢◌, inl, inr, ℕ, zero, suc, ◌+◌, ◌*◌, ◌%◌, ◌<◌, ◌≤◌, List, [], ◌∷◌, Option, Some, refl, sym, ap, ◌∙◌, subst, arith}
use Rattle.rt_modes.specs.declared.mode.Mode.{Mode, out-Mode}
use Rattle.rt_modes.specs.declared.mode.Mode.TheOpen.{Mode-F}
use Rattle.rt_modes.specs.declared.mode.RecordDef.{RecordDef}
use Rattle.rt_sizes.specs.Sizes.{size}
use Rattle.rt_places.specs.Places.{room_by, Apart, AreSizes, IsPart, Leads}
use Rattle.rt_places.proofs.Parts.{Lies, room_fits, part_lies, one_part, part_before, part_even, has_parts}

-- three ways that two numbers may stand
pub data Order : ℕ → ℕ → Type 0 where
  less : {a b : ℕ} → a < b → Order a b
  same : {a b : ℕ} → a ≡ b → Order a b
  more : {a b : ℕ} → b < a → Order a b

pub order : (a b : ℕ) → Order a b
order zero zero = same refl
order zero (suc b) = less (omega arith)
order (suc a) zero = more (omega arith)
order (suc a) (suc b) = elim (order a b) [ less h ↦ less (omega arith) | same h ↦ same (ap suc h) | more h ↦ more (omega arith) ]

module _ (records : List RecordDef) (S : ℕ → Option ℕ) (sizes : AreSizes records S) where
  abbrev pub To : List ℕ → Mode → Mode → ℕ → Type 0
  To path m w o = Leads records S path m w o

  abbrev pub LiesIn : Mode → Mode → ℕ → ℕ → Type 0
  LiesIn m w o n = Lies records S sizes m w o n

  pub inside : (path : List ℕ) (m w : Mode) (o n : ℕ) → To path m w o → size S m ≡ Some n → LiesIn m w o n
  inside [] m w o n h z =
      let begin : o ≡ 0 = h.1 in
      record { bytes = n; sized = ap (size S) (sym h.0) ∙ z; inside = omega arith }
  inside (k ∷ ks) m w o n (e, a, b, part, rest, is) z =
      let one = part_lies records S sizes k m e a n part z in
      let deep = inside ks e w b one.bytes rest one.sized in
      record { bytes = deep.bytes; sized = deep.sized; inside = omega (arith, one.inside, deep.inside, is) }

  pub part_is_no_byte : (ks : List ℕ) (e w : Mode) (b : ℕ) → To ks e w b → (out-Mode w ≡ Mode-F.Byte → ⊥) → out-Mode e ≡ Mode-F.Byte → ⊥
  part_is_no_byte [] e w b h isnt o = isnt (ap out-Mode (sym h.0) ∙ o)
  part_is_no_byte (k ∷ ks) e w b (f, a, c, part, rest, is) isnt o = has_parts records S sizes k e f a part o

  pub evenly : (path : List ℕ) (m w : Mode) (o : ℕ) → To path m w o → (out-Mode w ≡ Mode-F.Byte → ⊥) → o % 2 ≡ 0
  evenly [] m w o h isnt = let begin : o ≡ 0 = h.1 in omega arith
  evenly (k ∷ ks) m w o (e, a, b, part, rest, is) isnt =
      let first = part_even records S sizes k m e a part (part_is_no_byte ks e w b rest isnt) in
      let second = evenly ks e w b rest isnt in omega arith

  -- a part of what has parts stands behind its own bytes
  behind_room : (k : ℕ) (m e : Mode) (a : ℕ) → IsPart records S k m e a → room_by (out-Mode m) ≤ a
  behind_room k m e a (inl h) = subst (λ (l : Mode-F Mode). room_by l ≤ a) (sym h.is) (omega arith)
  behind_room k m e a (inr h) = let begin : a ≡ 2 + h.bytes * k = h.begins in subst (λ (l : Mode-F Mode). room_by l ≤ a) (sym h.is) (omega arith)

  turned : (a n b k : ℕ) → Apart a n b k → Apart b k a n
  turned a n b k (inl h) = inr h
  turned a n b k (inr h) = inl h

  pub moved : (c a n b k x y : ℕ) → x ≡ c + a → y ≡ c + b → Apart a n b k → Apart x n y k
  moved c a n b k x y e f (inl h) = inl (omega arith)
  moved c a n b k x y e f (inr h) = inr (omega arith)

  whole_and_part : (k : ℕ) (ks : List ℕ) (m v w : Mode) (x y : ℕ) → To [] m v x → To (k ∷ ks) m w y → Apart x (room_by (out-Mode v)) y (room_by (out-Mode w))
  whole_and_part k ks m v w x y h (e, a, b, part, rest, is) =
      let room = behind_room k m e a part in
      let begin : x ≡ 0 = h.1 in
      let moved : room_by (out-Mode v) ≤ a = subst (λ (z : Mode). room_by (out-Mode z) ≤ a) h.0 room in inl (omega arith)

  -- a part in an earlier part ends before a part in a later one
  earlier : (k j : ℕ) (ks js : List ℕ) (m e f v w : Mode) (a b c d n : ℕ) → k < j → size S m ≡ Some n → IsPart records S k m e a → IsPart records S j m f b → To ks e v c → To js f w d → a + c + room_by (out-Mode v) ≤ b + d
  earlier k j ks js m e f v w a b c d n l z p q h i =
      let one = part_lies records S sizes k m e a n p z in
      let deep = inside ks e v c one.bytes h one.sized in
      let room = room_fits records S sizes v deep.bytes deep.sized in
      let before = part_before records S sizes k j m e f a b one.bytes l p q one.sized in
      omega (arith, deep.inside)

  pub apart : (p q : List ℕ) (m v w : Mode) (x y n : ℕ) → size S m ≡ Some n → To p m v x → To q m w y → p ≢ q → Apart x (room_by (out-Mode v)) y (room_by (out-Mode w))
  apart [] [] m v w x y n z h i diff = absurd (diff refl)
  apart [] (j ∷ js) m v w x y n z h i diff = whole_and_part j js m v w x y h i
  apart (k ∷ ks) [] m v w x y n z h i diff = turned y (room_by (out-Mode w)) x (room_by (out-Mode v)) (whole_and_part k ks m w v y x i h)
  apart (k ∷ ks) (j ∷ js) m v w x y n z (e, a, c, p, h, is) (f, b, d, q, i, are) diff =
      elim (order k j) [
        | less l ↦ inl (omega (arith, earlier k j ks js m e f v w a b c d n l z p q h i))
        | more l ↦ inr (omega (arith, earlier j k js ks m f e w v b a d c n l z q p i h))
        | same s ↦
            let again : IsPart records S k m f b = subst (λ (r : ℕ). IsPart records S r m f b) (sym s) q in
            let one = one_part records S sizes k m e f a b p again in
            let lies = part_lies records S sizes k m e a n p z in
            let first : To js e w d = subst (λ (r : Mode). To js r w d) (sym one.0) i in
            let deep = apart ks js e v w c d lies.bytes lies.sized h first (λ r. diff (cc)) in
            moved a c (room_by (out-Mode v)) d (room_by (out-Mode w)) x y is (omega (arith, one.1)) deep
      ]
