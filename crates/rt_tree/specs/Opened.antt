-- What equal full modes of two modules have in common, level by level.
use Rattle.std.specs.Prelude.{◌≡◌, ◌≢◌, ℕ, true, List, [], ◌∷◌, Option, Some, None, slice_get}
use Rattle.std.specs.List.{AllByRecursion}
use Rattle.rt_modes.specs.declared.mode.Field.{Field}
use Rattle.rt_modes.specs.declared.mode.Mode.{Mode, out-Mode}
use Rattle.rt_modes.specs.declared.mode.Mode.TheOpen.{Mode-F}
use Rattle.rt_modes.specs.declared.mode.ModeTable.{ModeTable}
use Rattle.rt_modes.specs.declared.mode.RecordDef.{RecordDef}
use Rattle.rt_modes.specs.FullMode.{FullMode, name_of, fields_of}
use Rattle.rt_modes.specs.ModeWords.{Other, is_word, word}
use Rattle.rt_tree.specs.FullModes.{AreNames, AreApart, MayStand}

-- a field's name is a word, none of a mode's, and its mode may stand
pub record IsField (t : ModeTable) (f : Field) : Type 0 where
  pub is_name : is_word f.name ≡ true
  pub other : word f.name ≡ Other
  pub stands : MayStand t f.mode

-- The records of a module: their names can be told apart, and none is empty; their fields are fields.
pub record IsTable (t : ModeTable) : Type 0 where
  pub names : AreNames t
  pub apart : AreApart t
  pub some : (r : ℕ) (d : RecordDef) → slice_get t.records r ≡ Some d → d.name ≢ []
  pub fields : (r : ℕ) (d : RecordDef) → slice_get t.records r ≡ Some d → AllByRecursion (IsField t) d.fields

module _ (t u : ModeTable) where
  -- one full mode
  abbrev pub Same : Mode → Mode → Type 0
  Same m n = FullMode t m ≡ FullMode u n

  abbrev pub EachSame : List Mode → List Mode → Type 0
  EachSame [] [] = Unit {0}
  EachSame (m ∷ ms) (n ∷ ns) = Same m n × EachSame ms ns
  EachSame _ _ = ⊥

  abbrev pub AnySame : Option Mode → Option Mode → Type 0
  AnySame None None = Unit {0}
  AnySame (Some m) (Some n) = Same m n
  AnySame _ _ = ⊥

  -- as many fields, of the same names and full modes
  abbrev pub FieldsSame : List Field → List Field → Type 0
  FieldsSame [] [] = Unit {0}
  FieldsSame (f ∷ fs) (g ∷ gs) = (f.name ≡ g.name) × Same f.mode g.mode × FieldsSame fs gs
  FieldsSame _ _ = ⊥

  -- the same first level, and inside it the same full modes
  abbrev pub LevelSame : Mode-F Mode → Mode-F Mode → Type 0
  LevelSame Mode-F.Byte Mode-F.Byte = Unit {0}
  LevelSame Mode-F.Int Mode-F.Int = Unit {0}
  LevelSame Mode-F.Frac Mode-F.Frac = Unit {0}
  LevelSame Mode-F.Label Mode-F.Label = Unit {0}
  LevelSame (Mode-F.Ref m) (Mode-F.Ref n) = Same m n
  LevelSame (Mode-F.RefArray m) (Mode-F.RefArray n) = Same m n
  LevelSame (Mode-F.Array k m) (Mode-F.Array j n) = (k ≡ j) × Same m n
  LevelSame (Mode-F.Record r) (Mode-F.Record q) = (name_of t r ≡ name_of u q) × FieldsSame (fields_of t r) (fields_of u q)
  LevelSame (Mode-F.Proc ps r) (Mode-F.Proc qs q) = EachSame ps qs × AnySame r q
  LevelSame _ _ = ⊥

-- Where two modes of two modules have one full mode, they have the same first level, and inside it the same full modes; and so
-- for the fields of a record.
abbrev pub FullModesOpen : Type 0
FullModesOpen = (t u : ModeTable) (m n : Mode) → IsTable t → IsTable u → MayStand t m → MayStand u n → FullMode t m ≡ FullMode u n → LevelSame t u (out-Mode m) (out-Mode n)
