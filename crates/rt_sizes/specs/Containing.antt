-- Which records contain which, other than through REF or PROC.
use Rattle.std.specs.Prelude.{◌≡◌, ℕ, ◌⊎◌, List, [], ◌∷◌, Option, Some, None, slice_get}
use Rattle.rt_modes.specs.declared.mode.Field.{Field}
use Rattle.rt_modes.specs.declared.mode.Mode.{Mode}
use Rattle.rt_modes.specs.declared.mode.Mode.TheFolds.{fold-Mode}
use Rattle.rt_modes.specs.declared.mode.Mode.TheOpen.{Mode-F}
use Rattle.rt_modes.specs.declared.mode.RecordDef.{RecordDef}
use Rattle.rt_modes.specs.FullMode.{fields_in}

-- the record that a value of a mode is, or that its elements are
abbrev pub held_layer : Mode-F (Option ℕ) → Option ℕ
held_layer (Mode-F.Array n r) = r
held_layer (Mode-F.Record r) = Some r
held_layer _ = None

abbrev pub held : Mode → Option ℕ
held = fold-Mode (Option ℕ) held_layer

-- one of the fields has values of record s
abbrev pub HaveOne : List Field → ℕ → Type 0
HaveOne [] s = ⊥
HaveOne (f ∷ fs) s = (held f.mode ≡ Some s) ⊎ HaveOne fs s

module _ (records : List RecordDef) where
  abbrev pub fields_of : ℕ → List Field
  fields_of r = fields_in (slice_get records r)

  -- a value of record r has values of record s in it
  pub data Contains : ℕ → ℕ → Type 0 where
    directly : {r s : ℕ} → HaveOne (fields_of r) s → Contains r s
    through : {r s u : ℕ} → Contains r s → HaveOne (fields_of s) u → Contains r u
