-- Maps by which the fields of records are found.
use Rattle.std.specs.Prelude.{◌≡◌, ℕ, List, [], ◌∷◌, Option, Some, None, Vec, if◌then◌else◌, option_map}
use Rattle.std.specs.Str.{bytes_eq}
use Rattle.indexmap.specs.IndexMap.{IndexMap, get_by}
use Rattle.rt_modes.specs.declared.mode.Field.{Field}
use Rattle.rt_modes.specs.declared.mode.RecordDef.{RecordDef}
use Rattle.rt_exprs.specs.Operands.{field_from, or_else}

-- the number that a map has for a name
abbrev pub number_at : {A S : Type 0} → IndexMap (Vec ℕ A) ℕ S → List ℕ → Option ℕ
number_at m name = get_by (λ k. bytes_eq name k.items) m

-- A map has for each name the number of the first field of that name, and none where no field has it.
abbrev pub FindsFields : {A S : Type 0} → List Field → IndexMap (Vec ℕ A) ℕ S → Type 0
FindsFields fields m = (name : List ℕ) → number_at m name ≡ option_map (λ x. x.0) (field_from 0 fields name)

-- each record has a map that finds its fields
abbrev pub FindsAllFields : {A S : Type 0} → List RecordDef → List (IndexMap (Vec ℕ A) ℕ S) → Type 0
FindsAllFields [] [] = Unit {0}
FindsAllFields (r ∷ rs) (m ∷ ms) = FindsFields r.fields m × FindsAllFields rs ms
FindsAllFields _ _ = ⊥

-- a map that has, of one name, the number that it had, and where it had none, this
abbrev pub NotesFirst : {A S : Type 0} → IndexMap (Vec ℕ A) ℕ S → IndexMap (Vec ℕ A) ℕ S → List ℕ → ℕ → Type 0
NotesFirst old new name number = (other : List ℕ) → number_at new other ≡ or_else (number_at old other) (if bytes_eq name other then Some number else None)
