-- Paths that lead somewhere, and the function that says where.
use Rattle.std.proofs.Common.{◌≡◌, inl, inr, ℕ, ◌+◌, ◌*◌, ◌<◌, Bool, true, false, List, [], ◌∷◌, ◌++◌, Option, Some, None, option_map, slice_get, refl, sym, ap, ◌∙◌, subst, arith}
use Rattle.std.specs.Prelude.{nat_lt, if◌then◌else◌}
use borrow.Author.Tests.{ltb-true}
use Rattle.rt_modes.specs.declared.mode.Field.{Field}
use Rattle.rt_modes.specs.declared.mode.Mode.{Mode, out-Mode}
use Rattle.rt_modes.specs.declared.mode.Mode.TheOpen.{Mode-F}
use Rattle.rt_modes.specs.declared.mode.RecordDef.{RecordDef}
use Rattle.rt_tree_nodes.specs.Scopes.{with, field_at, field_mode}
use Rattle.rt_tree.specs.Modules.{part_mode, mode_along}
use Rattle.rt_sizes.specs.Sizes.{even, size, offset}
use Rattle.rt_sizes.proofs.Layers.{some_is, size_at}
use Rattle.rt_places.specs.Places.{AreSizes, IsField, IsElement, IsPart, Leads}
use Rattle.rt_places.specs.Along.{number, by, fields_in, mode_of, part_begins, part_is, reach}
use Rattle.rt_places.proofs.Fields.{mapped_left, has_place}
use Rattle.rt_places.proofs.Parts.{part_lies}

with_some : {A B : Type 0} (o : Option A) (go : A → Option B) (y : B) → with o go ≡ Some y → (x : A) × (o ≡ Some x) × (go x ≡ Some y)
with_some None go y e = absurd cc
with_some (Some x) go y e = (x, refl, e)

pub field_left : (o : Option Field) (e : Mode) → option_map (λ (f : Field). f.mode) o ≡ Some e → (f : Field) × (o ≡ Some f) × (f.mode ≡ e)
field_left None e h = absurd cc
field_left (Some f) e h = (f, refl, some_is f.mode e h)

less_by : (b : Bool) (m e : Mode) → (if b then Some m else None) ≡ Some e → (b ≡ true) × (m ≡ e)
less_by true m e h = (refl, some_is m e h)
less_by false m e h = absurd cc

less_if : (k n : ℕ) (m e : Mode) → (if nat_lt k n then Some m else None) ≡ Some e → (k < n) × (m ≡ e)
less_if k n m e h = let both = less_by (nat_lt k n) m e h in (ltb-true k n both.0, both.1)

module _ (records : List RecordDef) (S : ℕ → Option ℕ) (sizes : AreSizes records S) where
  -- ---- what a path leads to has a place

  abbrev Found : ℕ → Mode → Mode → Type 0
  Found k m e = (a : ℕ) × IsPart records S k m e a

  found_field : (k : ℕ) (m e : Mode) (r n : ℕ) → out-Mode m ≡ Mode-F.Record r → field_mode records r k ≡ Some e → size S m ≡ Some n → Found k m e
  found_field k m e r n o h z =
      let def = with_some (slice_get records r) (λ d. field_at d.fields k) e h in
      let field = field_left (slice_get def.0.fields k) e def.2 in
      let all = sizes.all r def.0 def.1 in
      let place = has_place S def.0.fields k 0 all.0 field.0 all.1 field.1 in
      (place.0, inl (record { number = r; def = def.0; field = field.0; is = o; at = def.1; has = field.1; mode = field.2; begins = place.1 }))

  found_element : (k : ℕ) (m w e : Mode) (c n : ℕ) → out-Mode m ≡ Mode-F.Array c w → (if nat_lt k c then Some w else None) ≡ Some e → size S m ≡ Some n → Found k m e
  found_element k m w e c n o h z =
      let both = less_if k c w e h in
      let in_it = mapped_left (λ x. even (2 + c * x)) (size S w) n (sym (size_at S m (Mode-F.Array c w) o) ∙ z) in
      (2 + in_it.0 * k, inr (record { count = c; bytes = in_it.0; is = o ∙ ap (λ (x : Mode). Mode-F.Array c x) both.1; in_it = both.0; sized = ap (size S) (sym both.1) ∙ in_it.1; begins = refl }))

  found_by : (k : ℕ) (m e : Mode) (l : Mode-F Mode) (n : ℕ) → out-Mode m ≡ l → part_mode records k l ≡ Some e → size S m ≡ Some n → Found k m e
  found_by k m e (Mode-F.Record r) n o h z = found_field k m e r n o h z
  found_by k m e (Mode-F.Array c w) n o h z = found_element k m w e c n o h z
  found_by k m e _ n o h z = absurd cc

  abbrev pub Somewhere : List ℕ → Mode → Mode → Type 0
  Somewhere path m w = (o : ℕ) × Leads records S path m w o

  pub leads : (path : List ℕ) (m w : Mode) (n : ℕ) → mode_along records path m ≡ Some w → size S m ≡ Some n → Somewhere path m w
  leads [] m w n h z = (0, (some_is m w h, refl))
  leads (k ∷ ks) m w n h z =
      let first = with_some (part_mode records k (out-Mode m)) (mode_along records ks) w h in
      let part = found_by k m first.0 (out-Mode m) n refl first.1 z in
      let one = part_lies records S sizes k m first.0 part.0 n part.1 z in
      let rest = leads ks first.0 w one.bytes first.2 one.sized in
      (part.0 + rest.0, (first.0, part.0, rest.0, part.1, rest.1, refl))

  -- ---- the function tells where

  field_begins : (k : ℕ) (m e : Mode) (a : ℕ) → IsField records S k m e a → (part_begins records S k (out-Mode m) ≡ a) × (part_is records S k (out-Mode m) ≡ Some e)
  field_begins k m e a h =
      let layer = ap (part_begins records S k) h.is in
      let def = ap (λ (x : Option RecordDef). number (offset S (fields_in x) k)) h.at in
      let mode = ap (part_is records S k) h.is in
      let its = ap (λ (x : Option RecordDef). mode_of (slice_get (fields_in x) k)) h.at in
      (layer ∙ def ∙ ap number h.begins, mode ∙ its ∙ ap mode_of h.has ∙ ap (λ (x : Mode). Some x) h.mode)

  element_begins : (k : ℕ) (m e : Mode) (a : ℕ) → IsElement records S k m e a → (part_begins records S k (out-Mode m) ≡ a) × (part_is records S k (out-Mode m) ≡ Some e)
  element_begins k m e a h =
      let layer = ap (part_begins records S k) h.is in
      let mode = ap (part_is records S k) h.is in
      (layer ∙ ap (λ (x : Option ℕ). 2 + number x * k) h.sized ∙ sym h.begins, mode)

  part_tells : (k : ℕ) (m e : Mode) (a : ℕ) → IsPart records S k m e a → (part_begins records S k (out-Mode m) ≡ a) × (part_is records S k (out-Mode m) ≡ Some e)
  part_tells k m e a (inl h) = field_begins k m e a h
  part_tells k m e a (inr h) = element_begins k m e a h

  pub reached : (path : List ℕ) (m w : Mode) (o : ℕ) → Leads records S path m w o → reach records S path m ≡ o
  reached [] m w o h = sym h.1
  reached (k ∷ ks) m w o (e, a, b, part, rest, is) =
      let one = part_tells k m e a part in
      let deep = reached ks e w b rest in
      let next : by (reach records S ks) (part_is records S k (out-Mode m)) ≡ b = ap (by (reach records S ks)) one.1 ∙ deep in
      let first : part_begins records S k (out-Mode m) ≡ a = one.0 in omega arith

  -- ---- one path behind another

  pub joined : (p q : List ℕ) (m v w : Mode) (a b : ℕ) → Leads records S p m v a → Leads records S q v w b → Leads records S (p ++ q) m w (a + b)
  joined [] q m v w a b h i =
      let none : a ≡ 0 = h.1 in
      let same : b ≡ a + b = omega arith in
      subst (λ (x : ℕ). Leads records S q m w x) same (subst (λ (x : Mode). Leads records S q x w b) (sym h.0) i)
  joined (k ∷ ks) q m v w a b (e, x, y, part, rest, is) i =
      let deep = joined ks q e v w y b rest i in (e, x, y + b, part, deep, omega arith)

  pub one_on : (k : ℕ) (m e : Mode) (a : ℕ) → IsPart records S k m e a → Leads records S (k ∷ []) m e a
  one_on k m e a part = (e, a, 0, part, (refl, refl), omega arith)
