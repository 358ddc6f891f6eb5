-- How fields that stand one after the other lie.
use Rattle.std.proofs.Common.{◌≡◌, ℕ, zero, suc, ◌+◌, ◌%◌, ◌<◌, ◌≤◌, List, [], ◌∷◌, take, Option, Some, None, option_map, slice_get, refl, sym, ap, ◌∙◌, subst, arith}
use Rattle.rt_modes.specs.declared.mode.Field.{Field}
use Rattle.rt_modes.specs.declared.mode.Mode.{Mode, out-Mode}
use Rattle.rt_modes.specs.declared.mode.Mode.TheOpen.{Mode-F}
use Rattle.rt_sizes.specs.Sizes.{even, begins, and_then, size, field_end, fields_end, offset_by}
use Rattle.rt_sizes.proofs.Layers.{some_is}

-- ---- even places

pub even_more : (n : ℕ) → n ≤ even n
even_more n = omega arith

pub even_is : (n : ℕ) → even n % 2 ≡ 0
even_is n = omega arith

pub even_least : (n m : ℕ) → n ≤ m → m % 2 ≡ 0 → even n ≤ m
even_least n m l e = omega arith

pub begins_more : (l : Mode-F Mode) (n : ℕ) → n ≤ begins l n
begins_more Mode-F.Byte n = omega arith
begins_more _ n = even_more n

pub begins_even : (l : Mode-F Mode) (n : ℕ) → (l ≡ Mode-F.Byte → ⊥) → begins l n % 2 ≡ 0
begins_even Mode-F.Byte n h = absurd (h refl)
begins_even _ n h = even_is n

pub mapped_left : (op : ℕ → ℕ) (o : Option ℕ) (y : ℕ) → option_map op o ≡ Some y → (x : ℕ) × (o ≡ Some x) × (op x ≡ y)
mapped_left op None y e = absurd cc
mapped_left op (Some x) y e = (x, refl, some_is (op x) y e)

pub then_left : (o : Option ℕ) (go : ℕ → Option ℕ) (y : ℕ) → and_then o go ≡ Some y → (x : ℕ) × (o ≡ Some x) × (go x ≡ Some y)
then_left None go y e = absurd cc
then_left (Some x) go y e = (x, refl, e)

module _ (S : ℕ → Option ℕ) where
  -- where field i begins, of fields that stand behind n bytes
  abbrev pub offset_from : List Field → ℕ → ℕ → Option ℕ
  offset_from fs i n = offset_by S (slice_get fs i) (fields_end S (take i fs) n)

  pub end_of_one : (f : Field) (n x : ℕ) → field_end S f n ≡ Some x → (s : ℕ) × (size S f.mode ≡ Some s) × (begins (out-Mode f.mode) n + s ≡ x)
  end_of_one f n x e = mapped_left (λ s. begins (out-Mode f.mode) n + s) (size S f.mode) x e

  one_more : (f : Field) (n x : ℕ) → field_end S f n ≡ Some x → n ≤ x
  one_more f n x e = let h = end_of_one f n x e in let b = begins_more (out-Mode f.mode) n in let q : begins (out-Mode f.mode) n + h.0 ≡ x = h.2 in omega arith

  pub ends_more : (fs : List Field) (n e : ℕ) → fields_end S fs n ≡ Some e → n ≤ e
  ends_more [] n e h = let q = some_is n e h in omega arith
  ends_more (f ∷ fs) n e h =
      let first = then_left (field_end S f n) (fields_end S fs) e h in
      let a = one_more f n first.0 first.1 in
      let b = ends_more fs first.0 e first.2 in omega arith

  begun_by : (o : Option Field) (fs : List Field) (i : ℕ) (e : Option ℕ) (a : ℕ) → offset_by S o (and_then e (fields_end S (take i fs))) ≡ Some a → (x : ℕ) × (e ≡ Some x) × (offset_by S o (fields_end S (take i fs) x) ≡ Some a)
  begun_by None fs i e a h = absurd cc
  begun_by (Some f) fs i None a h = absurd cc
  begun_by (Some f) fs i (Some x) a h = (x, refl, h)

  pub next_begins : (f : Field) (fs : List Field) (i n a : ℕ) → offset_from (f ∷ fs) (suc i) n ≡ Some a → (x : ℕ) × (field_end S f n ≡ Some x) × (offset_from fs i x ≡ Some a)
  next_begins f fs i n a h = begun_by (slice_get fs i) fs i (field_end S f n) a h

  -- a field begins behind what stands before
  pub begins_behind : (fs : List Field) (i n a : ℕ) → offset_from fs i n ≡ Some a → n ≤ a
  begins_behind [] i n a h = absurd cc
  begins_behind (f ∷ fs) zero n a h = let q = some_is (begins (out-Mode f.mode) n) a h in let b = begins_more (out-Mode f.mode) n in omega arith
  begins_behind (f ∷ fs) (suc i) n a h =
      let next = next_begins f fs i n a h in
      let b = one_more f n next.0 next.1 in
      let c = begins_behind fs i next.0 a next.2 in omega arith

  -- it ends before the end of all
  pub ends_within : (fs : List Field) (i n a s e : ℕ) (f : Field) → offset_from fs i n ≡ Some a → slice_get fs i ≡ Some f → size S f.mode ≡ Some s → fields_end S fs n ≡ Some e → a + s ≤ e
  ends_within [] i n a s e f h at z h2 = absurd cc
  ends_within (g ∷ fs) zero n a s e f h at z h2 =
      let same : g ≡ f = some_is g f at in
      let first = then_left (field_end S g n) (fields_end S fs) e h2 in
      let one = end_of_one g n first.0 first.1 in
      let q : begins (out-Mode g.mode) n ≡ a = some_is (begins (out-Mode g.mode) n) a h in
      let zz : size S g.mode ≡ Some s = ap (λ (x : Field). size S x.mode) same ∙ z in
      let r : one.0 ≡ s = some_is one.0 s (sym one.1 ∙ zz) in
      let t : begins (out-Mode g.mode) n + one.0 ≡ first.0 = one.2 in
      let b = ends_more fs first.0 e first.2 in omega arith
  ends_within (g ∷ fs) (suc i) n a s e f h at z h2 =
      let next = next_begins g fs i n a h in
      let first = then_left (field_end S g n) (fields_end S fs) e h2 in
      let same : first.0 ≡ next.0 = some_is first.0 next.0 (sym first.1 ∙ next.1) in
      ends_within fs i next.0 a s e f next.2 at z (subst (λ (x : ℕ). fields_end S fs x ≡ Some e) same first.2)

  -- an earlier one ends before a later one begins
  pub ends_before : (fs : List Field) (i j n a b s : ℕ) (f : Field) → i < j → offset_from fs i n ≡ Some a → slice_get fs i ≡ Some f → size S f.mode ≡ Some s → offset_from fs j n ≡ Some b → a + s ≤ b
  ends_before [] i j n a b s f l h at z k = absurd cc
  ends_before (g ∷ fs) i zero n a b s f l h at z k = absurd (omega arith)
  ends_before (g ∷ fs) zero (suc j) n a b s f l h at z k =
      let next = next_begins g fs j n b k in
      let same : g ≡ f = some_is g f at in
      let one = end_of_one g n next.0 next.1 in
      let q : begins (out-Mode g.mode) n ≡ a = some_is (begins (out-Mode g.mode) n) a h in
      let zz : size S g.mode ≡ Some s = ap (λ (x : Field). size S x.mode) same ∙ z in
      let r : one.0 ≡ s = some_is one.0 s (sym one.1 ∙ zz) in
      let t : begins (out-Mode g.mode) n + one.0 ≡ next.0 = one.2 in
      let c = begins_behind fs j next.0 b next.2 in omega arith
  ends_before (g ∷ fs) (suc i) (suc j) n a b s f l h at z k =
      let one = next_begins g fs i n a h in
      let two = next_begins g fs j n b k in
      let same : two.0 ≡ one.0 = some_is two.0 one.0 (sym two.1 ∙ one.1) in
      ends_before fs i j one.0 a b s f (omega arith) one.2 at z (subst (λ (x : ℕ). offset_from fs j x ≡ Some b) same two.2)

  -- each has a size and a place where all have an end
  pub is_sized : (fs : List Field) (i n e : ℕ) (f : Field) → fields_end S fs n ≡ Some e → slice_get fs i ≡ Some f → (s : ℕ) × (size S f.mode ≡ Some s)
  is_sized [] i n e f h at = absurd cc
  is_sized (g ∷ fs) zero n e f h at =
      let first = then_left (field_end S g n) (fields_end S fs) e h in
      let one = end_of_one g n first.0 first.1 in
      let same : g ≡ f = some_is g f at in (one.0, ap (λ (x : Field). size S x.mode) (sym same) ∙ one.1)
  is_sized (g ∷ fs) (suc i) n e f h at =
      let first = then_left (field_end S g n) (fields_end S fs) e h in is_sized fs i first.0 e f first.2 at

  pub has_place : (fs : List Field) (i n e : ℕ) (f : Field) → fields_end S fs n ≡ Some e → slice_get fs i ≡ Some f → (a : ℕ) × (offset_from fs i n ≡ Some a)
  has_place [] i n e f h at = absurd cc
  has_place (g ∷ fs) zero n e f h at = (begins (out-Mode g.mode) n, refl)
  has_place (g ∷ fs) (suc i) n e f h at =
      let first = then_left (field_end S g n) (fields_end S fs) e h in
      let rest = has_place fs i first.0 e f first.2 at in
      (rest.0, ap (λ (x : Option ℕ). offset_by S (slice_get fs i) (and_then x (fields_end S (take i fs)))) first.1 ∙ rest.1)

  even_by : (o : Option Field) (x : Option ℕ) (a : ℕ) (f : Field) → offset_by S o x ≡ Some a → o ≡ Some f → (out-Mode f.mode ≡ Mode-F.Byte → ⊥) → a % 2 ≡ 0
  even_by None x a f h at isnt = absurd cc
  even_by (Some g) x a f h at isnt =
      let same : g ≡ f = some_is g f at in
      let in_it = mapped_left (begins (out-Mode g.mode)) x a h in
      let q : begins (out-Mode g.mode) in_it.0 % 2 ≡ 0 = begins_even (out-Mode g.mode) in_it.0 (subst (λ (y : Field). out-Mode y.mode ≡ Mode-F.Byte → ⊥) (sym same) isnt) in
      subst (λ (y : ℕ). y % 2 ≡ 0) in_it.2 q

  pub is_even : (fs : List Field) (i n a : ℕ) (f : Field) → offset_from fs i n ≡ Some a → slice_get fs i ≡ Some f → (out-Mode f.mode ≡ Mode-F.Byte → ⊥) → a % 2 ≡ 0
  is_even fs i n a f h at isnt = even_by (slice_get fs i) (fields_end S (take i fs) n) a f h at isnt
