-- The ranges that an object keeps.
use Rattle.std.specs.Prelude.{◌≡◌, ℕ, ◌*◌, ◌^◌, ◌<◌, ◌≤◌, ◌⊎◌, true, List, length, map, replicate, Some, slice_get, codes}
use Rattle.std.specs.List.{AllByRecursion}
use Rattle.rt_modes.specs.declared.mode.Field.{Field}
use Rattle.rt_modes.specs.declared.mode.Mode.{Mode, out-Mode}
use Rattle.rt_modes.specs.declared.mode.Mode.TheOpen.{Mode-F}
use Rattle.rt_modes.specs.declared.mode.RecordDef.{RecordDef}
use Rattle.rt_modes.specs.Spelling.{MayStand}
use Rattle.rt_sizes.specs.Containing.{Contains}
use Rattle.rt_sizes.specs.Sizes.{Table, End, RecordHasSize, even}
use Rattle.rt_words.specs.Named.{IsNameLength}
use Rattle.rt_object.specs.declared.object.Brick.{Brick}
use Rattle.rt_object.specs.declared.object.BrickKind.{BrickKind}
use Rattle.rt_object.specs.declared.object.BrickKind.TheVariants.{Own, Ent, Ext, Svc}
use Rattle.rt_object.specs.declared.object.Call.{Call}
use Rattle.rt_object.specs.declared.object.Content.{Content}
use Rattle.rt_object.specs.declared.object.Content.TheVariants as content
use Rattle.rt_object.specs.declared.object.DataContent.{DataContent}
use Rattle.rt_object.specs.declared.object.External.{External}
use Rattle.rt_object.specs.declared.object.External.TheVariants as external
use Rattle.rt_object.specs.declared.object.ObjectParts.{ObjectParts}
use Rattle.rt_object.specs.declared.object.ProcContent.{ProcContent}
use Rattle.rt_object.specs.declared.object.Relocated.{Relocated}
use Rattle.rt_object.specs.declared.object.Relocated.TheVariants as relocated
use Rattle.rt_object.specs.declared.object.Relocation.{Relocation}
use Rattle.rt_object.specs.declared.object.Supplied.{Supplied}
use Rattle.rt_object.specs.declared.object.Supplied.TheVariants as supplied
use Rattle.rt_object.specs.declared.object.Target.{Target}
use Rattle.rt_object.specs.declared.object.Target.TheVariants as target

abbrev pub IsByte : ℕ → Type 0
IsByte b = b < 2 ^ 8

abbrev pub IsWord : ℕ → Type 0
IsWord w = w < 2 ^ 16

-- so many of them are counted by one word
abbrev pub IsCounted : {A : Type 0} → List A → Type 0
IsCounted xs = length xs ≤ 65535

pub record IsName (name : List ℕ) : Type 0 where
  pub size : IsNameLength (length name)
  pub each_letter : AllByRecursion IsByte name

-- no two of some names are one
abbrev pub AreDifferent : List (List ℕ) → Type 0
AreDifferent names = (i j : ℕ) (m n : List ℕ) → i < j → slice_get names i ≡ Some m → slice_get names j ≡ Some n → m ≡ n → ⊥

-- each number is greater than the one before it
abbrev pub Rise : List ℕ → Type 0
Rise ns = (i j m n : ℕ) → i < j → slice_get ns i ≡ Some m → slice_get ns j ≡ Some n → m < n

-- ---- modes

abbrev pub IsLabel : Mode → Type 0
IsLabel m = out-Mode m ≡ Mode-F.Label

abbrev pub IsProcLayer : Mode-F Mode → Type 0
IsProcLayer (Mode-F.Proc ps r) = Unit {0}
IsProcLayer _ = ⊥

abbrev pub IsProcMode : Mode → Type 0
IsProcMode m = IsProcLayer (out-Mode m)

abbrev pub IsValueLayer : Mode-F Mode → Type 0
IsValueLayer (Mode-F.Array n m) = ⊥
IsValueLayer Mode-F.Label = ⊥
IsValueLayer _ = Unit {0}

-- the mode of a value that stands alone: no array and no label
abbrev pub IsValueMode : Mode → Type 0
IsValueMode m = IsValueLayer (out-Mode m)

-- ---- fields and records

abbrev pub field_names : List Field → List (List ℕ)
field_names = map (λ f. f.name)

abbrev pub record_names : List RecordDef → List (List ℕ)
record_names = map (λ r. r.name)

abbrev pub brick_names : List Brick → List (List ℕ)
brick_names = map (λ b. b.name)

-- Fields over so many records. Labels stand where they may.
pub record HaveFieldRanges (records : ℕ) (MayBe : Mode → Type 0) (fields : List Field) : Type 0 where
  pub count : IsCounted fields
  pub each_name : AllByRecursion IsName (field_names fields)
  pub names : AreDifferent (field_names fields)
  pub modes : AllByRecursion (λ f. MayStand records f.mode × MayBe f.mode) fields

abbrev pub IsNoLabel : Mode → Type 0
IsNoLabel m = IsLabel m → ⊥

-- no record has a label
pub record HasRecordRanges (records : ℕ) (r : RecordDef) : Type 0 where
  pub name : IsName r.name
  pub fields : HaveFieldRanges records IsNoLabel r.fields

-- the records of an object, all of whose fields are known
abbrev pub table_of : List RecordDef → Table
table_of records = record { records = records; known = replicate (length records) true }

-- a record that contains itself other than through REF or PROC, or has more than 57,344 bytes
abbrev pub IsBadRecord : List RecordDef → ℕ → Type 0
IsBadRecord records k = Contains records k k ⊎ ((n : ℕ) × RecordHasSize (table_of records) k n × (57344 < n))

pub record HaveRecordRanges (records : List RecordDef) : Type 0 where
  pub count : IsCounted records
  pub names : AreDifferent (record_names records)
  pub each : AllByRecursion (HasRecordRanges (length records)) records
  pub none_bad : (k : ℕ) → k < length records → IsBadRecord records k → ⊥

-- fields of a data brick of any kind, which have so many bytes
abbrev pub HaveSize : List RecordDef → List Field → ℕ → Type 0
HaveSize records fields n = End (table_of records) fields n × (n ≤ 57344)

-- fields of a data brick that take so many bytes: they lie as those of a record do, so these are rounded up to an even number
abbrev pub HaveBytes : List RecordDef → List Field → ℕ → Type 0
HaveBytes records fields n = (size : ℕ) × HaveSize records fields size × (n ≡ even size)

-- ---- relocations

-- what is named is there, among so many strings and bricks
abbrev pub IsNamed : ℕ → ℕ → Relocated → Type 0
IsNamed strings bricks (relocated.Brick k) = k < bricks
IsNamed strings bricks (relocated.String k) = k < strings
IsNamed strings bricks (relocated.Support k) = (1 ≤ k) × (k ≤ 32)

-- the relocations of a part of so many places, of which each is a multiple of step
pub record HaveRelocationRanges (strings bricks step places : ℕ) (relocations : List Relocation) : Type 0 where
  pub count : IsCounted relocations
  pub rise : Rise (map (λ r. r.place) relocations)
  pub inside : AllByRecursion (λ r. (r.place < places) × ((k : ℕ) × (r.place ≡ step * k))) relocations
  pub named : AllByRecursion (λ r. IsNamed strings bricks r.of) relocations
  pub offsets : AllByRecursion (λ r. IsWord r.offset) relocations

-- ---- bricks

abbrev pub rrerr : List ℕ
rrerr = codes "RRERR"

-- what bricks of an object may name: its records, so many strings, and so many bricks
module _ (records : List RecordDef) (strings bricks : ℕ) where
  abbrev pub IsTarget : Target → Type 0
  IsTarget (target.Brick k) = k < bricks
  IsTarget (target.Mode m) = MayStand (length records) m × IsValueMode m
  IsTarget target.Error = Unit {0}

  pub record HasCallRanges (c : Call) : Type 0 where
    pub depth : IsWord c.depth
    pub args : IsWord c.args
    pub target : IsTarget c.target

  pub record HasProcRanges (p : ProcContent) : Type 0 where
    pub mode : MayStand (length records) p.mode
    pub is_proc : IsProcMode p.mode
    pub items : IsWord p.items
    pub locals : IsWord p.locals
    pub deep : IsWord p.deep
    pub calls : IsCounted p.calls
    pub each_call : AllByRecursion HasCallRanges p.calls
    pub words : length p.words ≤ 16383
    pub each_word : AllByRecursion IsWord p.words
    pub marks : length p.marks ≡ length p.words
    pub each_mark : AllByRecursion (λ m. m ≤ 2) p.marks
    pub relocations : HaveRelocationRanges strings bricks 1 (length p.words) p.relocations

  pub record HasDataRanges (d : DataContent) : Type 0 where
    pub fields : HaveFieldRanges (length records) IsNoLabel d.fields
    pub size : HaveBytes records d.fields (length d.bytes)
    pub each_byte : AllByRecursion IsByte d.bytes
    pub relocations : HaveRelocationRanges strings bricks 2 (length d.bytes) d.relocations

  -- fields of a data brick that isn't of this module
  pub record HaveOutsideRanges (MayBe : Mode → Type 0) (all : List Field) : Type 0 where
    pub fields : HaveFieldRanges (length records) MayBe all
    pub size : (n : ℕ) × HaveSize records all n

  abbrev pub HasContentRanges : Content → Type 0
  HasContentRanges (content.Proc p) = HasProcRanges p
  HasContentRanges (content.Data d) = HasDataRanges d
  HasContentRanges (content.Stack n) = (1 ≤ n) × (n ≤ 28672)

  abbrev pub HasExternalRanges : External → Type 0
  HasExternalRanges (external.Proc m) = MayStand (length records) m × IsProcMode m
  HasExternalRanges (external.Data fields) = HaveOutsideRanges IsNoLabel fields
  HasExternalRanges external.Stack = Unit {0}

  -- a label stands in the data brick RRERR alone
  abbrev pub HasSuppliedRanges : List ℕ → Supplied → Type 0
  HasSuppliedRanges name (supplied.Proc m) = MayStand (length records) m × IsProcMode m
  HasSuppliedRanges name (supplied.Data fields) = HaveOutsideRanges (λ m. IsLabel m → name ≡ rrerr) fields

  abbrev pub HasKindRanges : List ℕ → BrickKind → Type 0
  HasKindRanges name (Own c) = HasContentRanges c
  HasKindRanges name (Ent c) = HasContentRanges c
  HasKindRanges name (Ext e) = HasExternalRanges e
  HasKindRanges name (Svc s) = HasSuppliedRanges name s

  pub record HasBrickRanges (b : Brick) : Type 0 where
    pub name : IsName b.name
    pub kind : HasKindRanges b.name b.kind

-- ---- taken numbers

abbrev pub IsProcKind : BrickKind → Type 0
IsProcKind (Own (content.Proc p)) = Unit {0}
IsProcKind (Ent (content.Proc p)) = Unit {0}
IsProcKind (Ext (external.Proc m)) = Unit {0}
IsProcKind (Svc (supplied.Proc m)) = Unit {0}
IsProcKind _ = ⊥

-- the number of a procedure, of any kind
abbrev pub IsProcNumber : List Brick → ℕ → Type 0
IsProcNumber bricks k = (b : Brick) × (slice_get bricks k ≡ Some b) × IsProcKind b.kind

-- ---- the object

pub record HasObjectRanges (o : ObjectParts) : Type 0 where
  pub title : IsName o.title
  pub records : HaveRecordRanges o.records.records
  pub strings : IsCounted o.strings
  pub each_string : AllByRecursion (λ s. (length s ≤ 8191) × AllByRecursion IsByte s) o.strings
  pub bricks : IsCounted o.bricks
  pub brick_names : AreDifferent (brick_names o.bricks)
  pub each_brick : AllByRecursion (HasBrickRanges o.records.records (length o.strings) (length o.bricks)) o.bricks
  pub taken : IsCounted o.taken
  pub taken_rise : Rise o.taken
  pub each_taken : AllByRecursion (IsProcNumber o.bricks) o.taken
