-- Sizes and offsets are those of the full mode, whichever module's list of records they are counted by; and which modes have a size.
--
-- A module is its list of records here. What is known of its records may be any list: a size that some of it tells is the size
-- that all of it tells.
use Rattle.std.specs.Prelude.{◌≡◌, ℕ, Bool, true, List, length, replicate, None, Some, slice_get}
use Rattle.std.specs.List.{AllByRecursion}
use Rattle.rt_modes.specs.declared.mode.Field.{Field}
use Rattle.rt_modes.specs.declared.mode.Mode.{Mode, out-Mode}
use Rattle.rt_modes.specs.declared.mode.Mode.TheOpen.{Mode-F}
use Rattle.rt_modes.specs.declared.mode.ModeTable.{ModeTable}
use Rattle.rt_modes.specs.declared.mode.RecordDef.{RecordDef}
use Rattle.rt_modes.specs.FullMode.{FullMode, FullData}
use Rattle.rt_tree.specs.FullModes.{MayStand}
use Rattle.rt_tree.specs.Modules.{mode_along}
use Rattle.rt_tree.specs.Opened.{IsTable, IsField, FieldsSame}
use Rattle.rt_sizes.specs.Capped.{table}
use Rattle.rt_sizes.specs.Containing.{held, Contains}
use Rattle.rt_sizes.specs.Rings.{IsFirstRing}
use Rattle.rt_sizes.specs.Sizes.{Table, HasSize, RecordHasSize, Begins, End}

-- each record's fields are known
abbrev pub AllKnown : Table → Type 0
AllKnown t = (k : ℕ) (d : RecordDef) → slice_get t.records k ≡ Some d → slice_get t.known k ≡ Some true

-- each field's mode may stand
abbrev pub AllStand : ModeTable → List Field → Type 0
AllStand t fs = AllByRecursion (λ f. MayStand t f.mode) fs

-- ---- one module

-- Each mode and each record has at most one size, each field begins at most at one place, and fields have at most one end.
pub record TellOnce (t : Table) : Type 0 where
  pub modes : (m : Mode) (a b : ℕ) → HasSize t m a → HasSize t m b → a ≡ b
  pub records : (k a b : ℕ) → RecordHasSize t k a → RecordHasSize t k b → a ≡ b
  pub begins : (fs : List Field) (k a b : ℕ) → Begins t fs k a → Begins t fs k b → a ≡ b
  pub ends : (fs : List Field) (a b : ℕ) → End t fs a → End t fs b → a ≡ b

abbrev pub TablesTellOnce : Type 0
TablesTellOnce = (t : Table) → TellOnce t

-- ---- two modules

module _ (t u : ModeTable) where
  -- a mode of each module, both of one full mode
  pub record AreOne (m n : Mode) : Type 0 where
    pub left : MayStand t m
    pub right : MayStand u n
    pub same : FullMode t m ≡ FullMode u n

  -- The modes have one size; and where all records of the second module are known, it has the size that the first one has.
  pub record OneSize (m n : Mode) : Type 0 where
    pub one : (known others : List Bool) (a b : ℕ) → HasSize (table t.records known) m a → HasSize (table u.records others) n b → a ≡ b
    pub too : (known others : List Bool) (a : ℕ) → AllKnown (table u.records others) → HasSize (table t.records known) m a → HasSize (table u.records others) n a

  -- The fields at each place have one name, one full mode and one size, and begin at one place; and all end at one.
  pub record LieAlike (fs gs : List Field) : Type 0 where
    pub each : length fs ≡ length gs
    pub names : (k : ℕ) (f g : Field) → slice_get fs k ≡ Some f → slice_get gs k ≡ Some g → f.name ≡ g.name
    pub modes : (k : ℕ) (f g : Field) → slice_get fs k ≡ Some f → slice_get gs k ≡ Some g → AreOne f.mode g.mode
    pub sizes : (k : ℕ) (f g : Field) → slice_get fs k ≡ Some f → slice_get gs k ≡ Some g → OneSize f.mode g.mode
    pub begin : (known others : List Bool) (k a b : ℕ) → Begins (table t.records known) fs k a → Begins (table u.records others) gs k b → a ≡ b
    pub begin_too : (known others : List Bool) (k a : ℕ) → AllKnown (table u.records others) → Begins (table t.records known) fs k a → Begins (table u.records others) gs k a
    pub end : (known others : List Bool) (a b : ℕ) → End (table t.records known) fs a → End (table u.records others) gs b → a ≡ b
    pub end_too : (known others : List Bool) (a : ℕ) → AllKnown (table u.records others) → End (table t.records known) fs a → End (table u.records others) gs a

-- Two modes, of two modules, of one full mode have one size.
abbrev pub FullModesHaveOneSize : Type 0
FullModesHaveOneSize = (t u : ModeTable) (m n : Mode) → IsTable t → IsTable u → AreOne t u m n → OneSize t u m n

-- So have two records of one full mode, by their numbers.
abbrev pub RecordsHaveOneSize : Type 0
RecordsHaveOneSize = (t u : ModeTable) (m n : Mode) (r q : ℕ) (known others : List Bool) (a b : ℕ) → IsTable t → IsTable u → AreOne t u m n → out-Mode m ≡ Mode-F.Record r → out-Mode n ≡ Mode-F.Record q
    → RecordHasSize (table t.records known) r a → RecordHasSize (table u.records others) q b → a ≡ b

-- Two arrays of one full mode have as many elements, of one full mode and one size.
abbrev pub ElementsHaveOneSize : Type 0
ElementsHaveOneSize = (t u : ModeTable) (m n e f : Mode) (j k : ℕ) → IsTable t → IsTable u → AreOne t u m n → out-Mode m ≡ Mode-F.Array j e → out-Mode n ≡ Mode-F.Array k f → (j ≡ k) × AreOne t u e f × OneSize t u e f

-- The fields of two records of one full mode lie alike.
abbrev pub RecordsLieAlike : Type 0
RecordsLieAlike = (t u : ModeTable) (m n : Mode) (r q : ℕ) (d e : RecordDef) → IsTable t → IsTable u → AreOne t u m n → out-Mode m ≡ Mode-F.Record r → out-Mode n ≡ Mode-F.Record q
    → slice_get t.records r ≡ Some d → slice_get u.records q ≡ Some e → LieAlike t u d.fields e.fields

-- So do the items of two data bricks of one full mode, ..
abbrev pub DataLieAlike : Type 0
DataLieAlike = (t u : ModeTable) (fs gs : List Field) → IsTable t → IsTable u → AllByRecursion (IsField t) fs → AllByRecursion (IsField u) gs → FullData t fs ≡ FullData u gs → LieAlike t u fs gs

-- .. and any fields that have one name and one full mode at each place.
abbrev pub FieldsLieAlike : Type 0
FieldsLieAlike = (t u : ModeTable) (fs gs : List Field) → IsTable t → IsTable u → AllStand t fs → AllStand u gs → FieldsSame t u fs gs → LieAlike t u fs gs

-- A path of fields and elements that leads on from one of two modes of one full mode leads on from the other, and to modes of one
-- full mode and one size.
abbrev pub PathsLeadAlike : Type 0
PathsLeadAlike = (t u : ModeTable) (m n v : Mode) (path : List ℕ) → IsTable t → IsTable u → AreOne t u m n → mode_along t.records path m ≡ Some v → (w : Mode) × (mode_along u.records path n ≡ Some w) × AreOne t u v w × OneSize t u v w

-- ---- what has a size

-- The record that a value of the mode is, or that its elements are, contains neither itself nor one that contains itself.
abbrev pub HasNoRing : List RecordDef → Mode → Type 0
HasNoRing records m = (r : ℕ) → held m ≡ Some r → (Contains records r r → ⊥) × ((s : ℕ) → Contains records r s → Contains records s s → ⊥)

-- Where all records are known, a mode that may stand has a size unless it has a ring. How large a size is plays no part.
abbrev pub ModesHaveSizes : Type 0
ModesHaveSizes = (t : ModeTable) (known : List Bool) (m : Mode) → IsTable t → AllKnown (table t.records known) → MayStand t m → HasNoRing t.records m → (n : ℕ) × HasSize (table t.records known) m n

-- What has a size has no ring.
abbrev pub SizesHaveNoRing : Type 0
SizesHaveNoRing = (t : Table) (m : Mode) (n : ℕ) → HasSize t m n → HasNoRing t.records m

-- Fields that have no ring begin somewhere, each, and end somewhere.
pub record HavePlaces (t : Table) (fs : List Field) : Type 0 where
  pub begins : (k : ℕ) (f : Field) → slice_get fs k ≡ Some f → (n : ℕ) × Begins t fs k n
  pub ends : (n : ℕ) × End t fs n

abbrev pub FieldsHavePlaces : Type 0
FieldsHavePlaces = (t : ModeTable) (known : List Bool) (fs : List Field) → IsTable t → AllKnown (table t.records known) → AllStand t fs → AllByRecursion (λ f. HasNoRing t.records f.mode) fs → HavePlaces (table t.records known) fs

-- No mode has a ring where no record contains itself.
abbrev pub NoRings : Type 0
NoRings = (records : List RecordDef) (m : Mode) → IsFirstRing records None → HasNoRing records m

-- All records are known of a list in which that is said of each.
abbrev pub WholeListsAreKnown : Type 0
WholeListsAreKnown = (records : List RecordDef) → AllKnown (table records (replicate (length records) true))
