-- How the parts of one value lie in it.
use Rattle.std.proofs.Common.{◌≡◌, inl, inr, ℕ, zero, suc, ◌+◌, ◌*◌, ◌%◌, ◌<◌, ◌≤◌, List, Option, Some, None, option_map, slice_get, refl, sym, ap, ◌∙◌, subst, arith}
use Rattle.std.proofs.Math.Nat.{mul_comm}
use Rattle.rt_modes.specs.declared.mode.Field.{Field}
use Rattle.rt_modes.specs.declared.mode.Mode.{Mode, out-Mode}
use Rattle.rt_modes.specs.declared.mode.Mode.TheOpen.{Mode-F}
use Rattle.rt_modes.specs.declared.mode.RecordDef.{RecordDef}
use Rattle.rt_sizes.specs.Sizes.{even, size, fields_end, offset}
use Rattle.rt_sizes.proofs.Layers.{some_is, size_at}
use Rattle.rt_places.specs.Places.{room_by, AreSizes, IsField, IsElement, IsPart}
use Rattle.rt_places.proofs.Fields.{even_more, even_is, mapped_left, ends_within, ends_before, is_sized, is_even}

pub record_is : (l : Mode-F Mode) (r q : ℕ) → l ≡ Mode-F.Record r → l ≡ Mode-F.Record q → r ≡ q
record_is l r q e h = cc

never_byte : (l : Mode-F Mode) (r : ℕ) → l ≡ Mode-F.Record r → l ≡ Mode-F.Byte → ⊥
never_byte l r e h = cc

array_is : (c d : ℕ) (m n : Mode) → Mode-F.Array c m ≡ Mode-F.Array d n → (c ≡ d) × (m ≡ n)
array_is c d m n e = (cc, cc)

-- ---- products

pub times_less : (s k c : ℕ) → k < c → s * k + s ≤ c * s
times_less s k zero l = absurd (omega arith)
times_less s zero (suc c) l = omega arith
times_less s (suc k) (suc c) l = let h = times_less s k c (omega arith) in omega arith

pub times_even : (s k : ℕ) → s % 2 ≡ 0 → (s * k) % 2 ≡ 0
times_even s zero e = omega arith
times_even s (suc k) e = let h = times_even s k e in omega arith

pub room_two : (l : Mode-F Mode) → (l ≡ Mode-F.Byte → ⊥) → ((r : ℕ) → l ≡ Mode-F.Record r → ⊥) → room_by l ≡ 2
room_two Mode-F.Byte a b = absurd (a refl)
room_two (Mode-F.Record r) a b = absurd (b r refl)
room_two _ a b = refl

-- a value has a byte, where each record has one
module _ (S : ℕ → Option ℕ) (some : (r n : ℕ) → S r ≡ Some n → 1 ≤ n) where
  some_by : (m : Mode) (l : Mode-F Mode) (n : ℕ) → out-Mode m ≡ l → size S m ≡ Some n → 1 ≤ n
  some_by m Mode-F.Byte n o z = let q = some_is 1 n (sym (size_at S m Mode-F.Byte o) ∙ z) in omega arith
  some_by m (Mode-F.Record r) n o z = some r n (sym (size_at S m (Mode-F.Record r) o) ∙ z)
  some_by m (Mode-F.Array c e) n o z =
      let in_it = mapped_left (λ x. even (2 + c * x)) (size S e) n (sym (size_at S m (Mode-F.Array c e) o) ∙ z) in
      let q : even (2 + c * in_it.0) ≡ n = in_it.2 in
      let r = even_more (2 + c * in_it.0) in omega arith
  some_by m (Mode-F.Proc ps None) n o z = let q = some_is 2 n (sym (size_at S m (Mode-F.Proc ps None) o) ∙ z) in omega arith
  some_by m (Mode-F.Proc ps (Some r)) n o z = let q = some_is 2 n (sym (size_at S m (Mode-F.Proc ps (Some r)) o) ∙ z) in omega arith
  some_by m l n o z = let q = some_is 2 n (sym (size_at S m l o) ∙ z) in omega arith

  pub value_some : (m : Mode) (n : ℕ) → size S m ≡ Some n → 1 ≤ n
  value_some m n z = some_by m (out-Mode m) n refl z

module _ (records : List RecordDef) (S : ℕ → Option ℕ) (sizes : AreSizes records S) where
  -- ---- sizes

  pub record_size : (m : Mode) (r n : ℕ) (d : RecordDef) → out-Mode m ≡ Mode-F.Record r → slice_get records r ≡ Some d → size S m ≡ Some n → (e : ℕ) × (fields_end S d.fields 0 ≡ Some e) × (n ≡ even e)
  record_size m r n d o at z =
      let is = sizes.all r d at in
      let q : Some n ≡ Some (even is.0) = sym z ∙ size_at S m (Mode-F.Record r) o ∙ is.2 in (is.0, is.1, some_is n (even is.0) q)

  pub array_size : (m e : Mode) (c s n : ℕ) → out-Mode m ≡ Mode-F.Array c e → size S e ≡ Some s → size S m ≡ Some n → n ≡ even (2 + c * s)
  array_size m e c s n o z h =
      let q : Some n ≡ Some (even (2 + c * s)) = sym h ∙ size_at S m (Mode-F.Array c e) o ∙ ap (option_map (λ x. even (2 + c * x))) z in some_is n (even (2 + c * s)) q

  -- what is no BYTE has an even number of bytes
  even_by : (m : Mode) (l : Mode-F Mode) (n : ℕ) → out-Mode m ≡ l → size S m ≡ Some n → (l ≡ Mode-F.Byte → ⊥) → n % 2 ≡ 0
  even_by m Mode-F.Byte n o z isnt = absurd (isnt refl)
  even_by m (Mode-F.Record r) n o z isnt =
      let q : S r ≡ Some n = sym (size_at S m (Mode-F.Record r) o) ∙ z in
      let d = sizes.only r n q in
      let is = record_size m r n d.0 o d.1 z in subst (λ (x : ℕ). x % 2 ≡ 0) (sym is.2) (even_is is.0)
  even_by m (Mode-F.Array c e) n o z isnt =
      let in_it = mapped_left (λ x. even (2 + c * x)) (size S e) n (sym (size_at S m (Mode-F.Array c e) o) ∙ z) in
      subst (λ (x : ℕ). x % 2 ≡ 0) in_it.2 (even_is (2 + c * in_it.0))
  even_by m (Mode-F.Proc ps None) n o z isnt = let q = some_is 2 n (sym (size_at S m (Mode-F.Proc ps None) o) ∙ z) in omega arith
  even_by m (Mode-F.Proc ps (Some r)) n o z isnt = let q = some_is 2 n (sym (size_at S m (Mode-F.Proc ps (Some r)) o) ∙ z) in omega arith
  even_by m l n o z isnt = let q = some_is 2 n (sym (size_at S m l o) ∙ z) in omega arith

  pub even_sized : (m : Mode) (n : ℕ) → size S m ≡ Some n → (out-Mode m ≡ Mode-F.Byte → ⊥) → n % 2 ≡ 0
  even_sized m n z isnt = even_by m (out-Mode m) n refl z isnt

  -- a place's own bytes are within its size
  room_fits_by : (m : Mode) (l : Mode-F Mode) (n : ℕ) → out-Mode m ≡ l → size S m ≡ Some n → room_by l ≤ n
  room_fits_by m Mode-F.Byte n o z = let q = some_is 1 n (sym (size_at S m Mode-F.Byte o) ∙ z) in omega arith
  room_fits_by m (Mode-F.Record r) n o z = omega arith
  room_fits_by m (Mode-F.Array c e) n o z =
      let in_it = mapped_left (λ x. even (2 + c * x)) (size S e) n (sym (size_at S m (Mode-F.Array c e) o) ∙ z) in
      let q : even (2 + c * in_it.0) ≡ n = in_it.2 in
      let r = even_more (2 + c * in_it.0) in omega arith
  room_fits_by m (Mode-F.Proc ps None) n o z = let q = some_is 2 n (sym (size_at S m (Mode-F.Proc ps None) o) ∙ z) in omega arith
  room_fits_by m (Mode-F.Proc ps (Some r)) n o z = let q = some_is 2 n (sym (size_at S m (Mode-F.Proc ps (Some r)) o) ∙ z) in omega arith
  room_fits_by m l n o z = let q = some_is 2 n (sym (size_at S m l o) ∙ z) in omega arith

  pub room_fits : (m : Mode) (n : ℕ) → size S m ≡ Some n → room_by (out-Mode m) ≤ n
  room_fits m n z = room_fits_by m (out-Mode m) n refl z

  pub size_some : ((r n : ℕ) → S r ≡ Some n → 1 ≤ n) → (m : Mode) (n : ℕ) → size S m ≡ Some n → 1 ≤ n
  size_some some m n z = value_some S some m n z

  -- ---- parts

  abbrev pub Part : ℕ → Mode → Mode → ℕ → Type 0
  Part k m e a = IsPart records S k m e a

  pub record Lies (m e : Mode) (a n : ℕ) : Type 0 where
    pub bytes : ℕ
    pub sized : size S e ≡ Some bytes
    pub inside : a + bytes ≤ n

  field_lies : (k : ℕ) (m e : Mode) (a n : ℕ) → IsField records S k m e a → size S m ≡ Some n → Lies m e a n
  field_lies k m e a n h z =
      let all = record_size m h.number n h.def h.is h.at z in
      let one = is_sized S h.def.fields k 0 all.0 h.field all.1 h.has in
      let bound : a + one.0 ≤ all.0 = ends_within S h.def.fields k 0 a one.0 all.0 h.field h.begins h.has one.1 all.1 in
      let more = even_more all.0 in
      let total : n ≡ even all.0 = all.2 in
      record { bytes = one.0; sized = ap (size S) (sym h.mode) ∙ one.1; inside = omega arith }

  element_lies : (k : ℕ) (m e : Mode) (a n : ℕ) → IsElement records S k m e a → size S m ≡ Some n → Lies m e a n
  element_lies k m e a n h z =
      let total : n ≡ even (2 + h.count * h.bytes) = array_size m e h.count h.bytes n h.is h.sized z in
      let more = even_more (2 + h.count * h.bytes) in
      let less : h.bytes * k + h.bytes ≤ h.count * h.bytes = times_less h.bytes k h.count h.in_it in
      let begin : a ≡ 2 + h.bytes * k = h.begins in
      record { bytes = h.bytes; sized = h.sized; inside = omega arith }

  pub part_lies : (k : ℕ) (m e : Mode) (a n : ℕ) → Part k m e a → size S m ≡ Some n → Lies m e a n
  part_lies k m e a n (inl h) z = field_lies k m e a n h z
  part_lies k m e a n (inr h) z = element_lies k m e a n h z

  -- ---- one part

  one_field : (k : ℕ) (m e f : Mode) (a b : ℕ) → IsField records S k m e a → IsField records S k m f b → (e ≡ f) × (a ≡ b)
  one_field k m e f a b x y =
      let number : x.number ≡ y.number = record_is (out-Mode m) x.number y.number x.is y.is in
      let defs : x.def ≡ y.def = some_is x.def y.def (sym x.at ∙ ap (λ (z : ℕ). slice_get records z) number ∙ y.at) in
      let fields : x.field ≡ y.field = some_is x.field y.field (sym x.has ∙ ap (λ (z : RecordDef). slice_get z.fields k) defs ∙ y.has) in
      let place : Some a ≡ Some b = sym x.begins ∙ ap (λ (z : RecordDef). offset S z.fields k) defs ∙ y.begins in
      (sym x.mode ∙ ap (λ (z : Field). z.mode) fields ∙ y.mode, some_is a b place)

  one_element : (k : ℕ) (m e f : Mode) (a b : ℕ) → IsElement records S k m e a → IsElement records S k m f b → (e ≡ f) × (a ≡ b)
  one_element k m e f a b x y =
      let both = array_is x.count y.count e f (sym x.is ∙ y.is) in
      let bytes : x.bytes ≡ y.bytes = some_is x.bytes y.bytes (sym x.sized ∙ ap (size S) both.1 ∙ y.sized) in
      (both.1, x.begins ∙ ap (λ (z : ℕ). 2 + z * k) bytes ∙ sym y.begins)

  field_or_element : (k j : ℕ) (m e f : Mode) (a b : ℕ) → IsField records S k m e a → IsElement records S j m f b → ⊥
  field_or_element k j m e f a b x y = let bad : Mode-F.Record x.number ≡ Mode-F.Array y.count f = sym x.is ∙ y.is in cc

  pub one_part : (k : ℕ) (m e f : Mode) (a b : ℕ) → Part k m e a → Part k m f b → (e ≡ f) × (a ≡ b)
  one_part k m e f a b (inl x) (inl y) = one_field k m e f a b x y
  one_part k m e f a b (inl x) (inr y) = absurd (field_or_element k k m e f a b x y)
  one_part k m e f a b (inr x) (inl y) = absurd (field_or_element k k m f e b a y x)
  one_part k m e f a b (inr x) (inr y) = one_element k m e f a b x y

  -- ---- one part before another

  field_before : (k j : ℕ) (m e f : Mode) (a b s : ℕ) → k < j → IsField records S k m e a → IsField records S j m f b → size S e ≡ Some s → a + s ≤ b
  field_before k j m e f a b s l x y z =
      let number : x.number ≡ y.number = record_is (out-Mode m) x.number y.number x.is y.is in
      let defs : x.def ≡ y.def = some_is x.def y.def (sym x.at ∙ ap (λ (z : ℕ). slice_get records z) number ∙ y.at) in
      let place : offset S x.def.fields j ≡ Some b = ap (λ (z : RecordDef). offset S z.fields j) defs ∙ y.begins in
      ends_before S x.def.fields k j 0 a b s x.field l x.begins x.has (ap (size S) x.mode ∙ z) place

  element_before : (k j : ℕ) (m e f : Mode) (a b s : ℕ) → k < j → IsElement records S k m e a → IsElement records S j m f b → size S e ≡ Some s → a + s ≤ b
  element_before k j m e f a b s l x y z =
      let both = array_is x.count y.count e f (sym x.is ∙ y.is) in
      let bytes : x.bytes ≡ s = some_is x.bytes s (sym x.sized ∙ z) in
      let same : y.bytes ≡ s = some_is y.bytes s (sym y.sized ∙ ap (size S) (sym both.1) ∙ z) in
      let less : s * k + s ≤ j * s = times_less s k j l in
      let turned : j * s ≡ s * j = mul_comm j s in
      let first : a ≡ 2 + s * k = x.begins ∙ ap (λ (z : ℕ). 2 + z * k) bytes in
      let second : b ≡ 2 + s * j = y.begins ∙ ap (λ (z : ℕ). 2 + z * j) same in omega arith

  pub part_before : (k j : ℕ) (m e f : Mode) (a b s : ℕ) → k < j → Part k m e a → Part j m f b → size S e ≡ Some s → a + s ≤ b
  part_before k j m e f a b s l (inl x) (inl y) z = field_before k j m e f a b s l x y z
  part_before k j m e f a b s l (inl x) (inr y) z = absurd (field_or_element k j m e f a b x y)
  part_before k j m e f a b s l (inr x) (inl y) z = absurd (field_or_element j k m f e b a y x)
  part_before k j m e f a b s l (inr x) (inr y) z = element_before k j m e f a b s l x y z

  -- ---- even places

  element_even : (k : ℕ) (m e : Mode) (a : ℕ) → IsElement records S k m e a → (out-Mode e ≡ Mode-F.Byte → ⊥) → a % 2 ≡ 0
  element_even k m e a h isnt =
      let bytes : h.bytes % 2 ≡ 0 = even_sized e h.bytes h.sized isnt in
      let product : (h.bytes * k) % 2 ≡ 0 = times_even h.bytes k bytes in
      let begin : a ≡ 2 + h.bytes * k = h.begins in omega arith

  pub part_even : (k : ℕ) (m e : Mode) (a : ℕ) → Part k m e a → (out-Mode e ≡ Mode-F.Byte → ⊥) → a % 2 ≡ 0
  part_even k m e a (inl h) isnt = is_even S h.def.fields k 0 a h.field h.begins h.has (subst (λ (x : Mode). out-Mode x ≡ Mode-F.Byte → ⊥) (sym h.mode) isnt)
  part_even k m e a (inr h) isnt = element_even k m e a h isnt

  -- what has parts is no BYTE
  pub has_parts : (k : ℕ) (m e : Mode) (a : ℕ) → Part k m e a → out-Mode m ≡ Mode-F.Byte → ⊥
  has_parts k m e a (inl h) o = never_byte (out-Mode m) h.number h.is o
  has_parts k m e a (inr h) o = let bad : Mode-F.Array h.count e ≡ Mode-F.Byte = sym h.is ∙ o in cc
