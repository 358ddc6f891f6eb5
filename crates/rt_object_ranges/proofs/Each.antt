-- Ranges of each element, and those of all by name.
use Rattle.std.proofs.Common.{◌≡◌, ℕ, ◌*◌, ◌<◌, ◌≤◌, Bool, false, List, [], ◌∷◌, length, map}
use Rattle.std.specs.List.{All, AllByRecursion}
use Rattle.std.proofs.lemmas.List.Elements.{All-from_recursion, recursion_from_All}
use Rattle.rt_modes.specs.Spelling.{MayStand}
use Rattle.rt_modes.specs.declared.mode.Field.{Field}
use Rattle.rt_modes.specs.declared.mode.Mode.{Mode}
use Rattle.rt_object.specs.declared.object.Relocation.{Relocation}
use Rattle.rt_object.specs.Ranges.{AreDifferent, HaveFieldRanges, HaveRelocationRanges, IsName, IsNamed, IsNoLabel, IsWord, Rise, field_names}
use Rattle.rt_object_ranges.specs.Parts.{HasFieldRanges, HasRelocationRanges, MayBe}

-- ---- fields

module _ (records : ℕ) (labels : Bool) where
  names_are : (fs : List Field) → AllByRecursion (HasFieldRanges records labels) fs → AllByRecursion IsName (field_names fs)
  names_are [] h = tt
  names_are (f ∷ fs) h = (h.0.name, names_are fs h.1)

  modes_are : (fs : List Field) → AllByRecursion (HasFieldRanges records labels) fs → AllByRecursion (λ f. MayStand records f.mode × MayBe labels f.mode) fs
  modes_are [] h = tt
  modes_are (f ∷ fs) h = ((h.0.stands, h.0.label), modes_are fs h.1)

  fields_are : (fs : List Field) → AllByRecursion IsName (field_names fs) → AllByRecursion (λ f. MayStand records f.mode × MayBe labels f.mode) fs → AllByRecursion (HasFieldRanges records labels) fs
  fields_are [] h k = tt
  fields_are (f ∷ fs) h k = (record { name = h.0; stands = k.0.0; label = k.0.1 }, fields_are fs h.1 k.1)

  pub all_fields : (fs : List Field) → length fs ≤ 65535 → All (HasFieldRanges records labels) fs → AreDifferent (field_names fs) → HaveFieldRanges records (MayBe labels) fs
  all_fields fs few each names =
      let all = recursion_from_All (HasFieldRanges records labels) fs each in
      record { count = few; each_name = names_are fs all; names = names; modes = modes_are fs all }

  pub each_field : (fs : List Field) → HaveFieldRanges records (MayBe labels) fs → All (HasFieldRanges records labels) fs
  each_field fs h = All-from_recursion (HasFieldRanges records labels) fs (fields_are fs h.each_name h.modes)

-- the same fields, where labels may stand at other places
module _ (records : ℕ) (P Q : Mode → Type 0) (same : (m : Mode) → P m → Q m) where
  modes_same : (fs : List Field) → AllByRecursion (λ f. MayStand records f.mode × P f.mode) fs → AllByRecursion (λ f. MayStand records f.mode × Q f.mode) fs
  modes_same [] h = tt
  modes_same (f ∷ fs) h = ((h.0.0, same f.mode h.0.1), modes_same fs h.1)

  pub fields_same : (fs : List Field) → HaveFieldRanges records P fs → HaveFieldRanges records Q fs
  fields_same fs h = record { count = h.count; each_name = h.each_name; names = h.names; modes = modes_same fs h.modes }

pub no_labels : (m : Mode) → MayBe false m → IsNoLabel m
no_labels m h label = let bad = h label in cc

pub not_labels : (m : Mode) → IsNoLabel m → MayBe false m
not_labels m h label = absurd (h label)

-- ---- relocations

module _ (strings bricks step places : ℕ) where
  abbrev Stands : Relocation → Type 0
  Stands = HasRelocationRanges strings bricks step places

  inside_are : (rs : List Relocation) → AllByRecursion Stands rs → AllByRecursion (λ r. (r.place < places) × ((k : ℕ) × (r.place ≡ step * k))) rs
  inside_are [] h = tt
  inside_are (r ∷ rs) h = ((h.0.inside, h.0.multiple), inside_are rs h.1)

  named_are : (rs : List Relocation) → AllByRecursion Stands rs → AllByRecursion (λ r. IsNamed strings bricks r.of) rs
  named_are [] h = tt
  named_are (r ∷ rs) h = (h.0.named, named_are rs h.1)

  offsets_are : (rs : List Relocation) → AllByRecursion Stands rs → AllByRecursion (λ r. IsWord r.offset) rs
  offsets_are [] h = tt
  offsets_are (r ∷ rs) h = (h.0.offset, offsets_are rs h.1)

  stand_are : (rs : List Relocation) → AllByRecursion (λ r. (r.place < places) × ((k : ℕ) × (r.place ≡ step * k))) rs → AllByRecursion (λ r. IsNamed strings bricks r.of) rs → AllByRecursion (λ r. IsWord r.offset) rs → AllByRecursion Stands rs
  stand_are [] h k w = tt
  stand_are (r ∷ rs) h k w = (record { inside = h.0.0; multiple = h.0.1; named = k.0; offset = w.0 }, stand_are rs h.1 k.1 w.1)

  pub all_relocations : (rs : List Relocation) → length rs ≤ 65535 → Rise (map (λ r. r.place) rs) → All (HasRelocationRanges strings bricks step places) rs → HaveRelocationRanges strings bricks step places rs
  all_relocations rs few rise each =
      let all = recursion_from_All Stands rs each in
      record { count = few; rise = rise; inside = inside_are rs all; named = named_are rs all; offsets = offsets_are rs all }

  pub each_relocation : (rs : List Relocation) → HaveRelocationRanges strings bricks step places rs → All (HasRelocationRanges strings bricks step places) rs
  each_relocation rs h = All-from_recursion Stands rs (stand_are rs h.inside h.named h.offsets)
