-- Typed stores: what the places of a system's data bricks and strings, and a task's own supplied data, may hold. A system is
-- the list of its modules, which count from 1; module 0 has the supplied procedures, by their numbers.
use Rattle.std.specs.Prelude.{◌≡◌, ℕ, zero, suc, ◌<◌, true, List, [], ◌∷◌, codes, length, Option, Some, None, slice_get, slice_set}
use Rattle.std.specs.List.{Contains}
use Rattle.rt_modes.specs.declared.mode.Field.{Field}
use Rattle.rt_modes.specs.declared.mode.Mode.{Mode, out-Mode}
use Rattle.rt_modes.specs.declared.mode.Mode.TheOpen.{Mode-F}
use Rattle.rt_modes.specs.declared.mode.Mode.TheVariants as mode
use Rattle.rt_modes.specs.declared.mode.ModeTable.{ModeTable}
use Rattle.rt_modes.specs.declared.mode.RecordDef.{RecordDef}
use Rattle.rt_modes.specs.FullMode.{FullMode}
use Rattle.rt_tree_nodes.specs.declared.brick.Brick.{Brick}
use Rattle.rt_tree_nodes.specs.declared.brick.BrickSort.TheVariants as sort
use Rattle.rt_tree_nodes.specs.declared.brick.DataStart.{DataStart}
use Rattle.rt_tree_nodes.specs.declared.brick.Kind.TheVariants as kind
use Rattle.rt_tree_nodes.specs.declared.brick.ModuleParts.{ModuleParts}
use Rattle.rt_tree_nodes.specs.declared.store.Contents.{Contents, out-Contents}
use Rattle.rt_tree_nodes.specs.declared.store.Contents.TheOpen.{Contents-F}
use Rattle.rt_tree_nodes.specs.declared.store.Contents.TheVariants as contents
use Rattle.rt_tree_nodes.specs.declared.store.Datum.{Datum}
use Rattle.rt_tree_nodes.specs.declared.store.Datum.TheVariants as datum
use Rattle.rt_tree_nodes.specs.declared.store.Location.{Location}
use Rattle.rt_tree_nodes.specs.declared.store.Location.TheVariants as location
use Rattle.rt_tree_nodes.specs.declared.store.Origin.{Origin}
use Rattle.rt_tree_nodes.specs.declared.store.Origin.TheVariants as origin
use Rattle.rt_tree_nodes.specs.declared.store.Proc.{Proc}
use Rattle.rt_tree.specs.Modules.{is_here, mode_along}
use Rattle.rt_tree_nodes.specs.Scopes.{faces, field_at, proc_mode}
use Rattle.rt_tree.specs.Taken.{taken}
use Rattle.rt_modes.specs.Bricks.{supplied_names}

abbrev pub System : Type 0
System = List ModuleParts

abbrev pub module_of : System → ℕ → Option ModuleParts
module_of ps zero = None
module_of ps (suc m) = slice_get ps m

-- p is module m of the system, and d its brick b
pub record HasBrick (ps : System) (m b : ℕ) (p : ModuleParts) (d : Brick) : Type 0 where
  pub of : module_of ps m ≡ Some p
  pub at : slice_get p.bricks b ≡ Some d

-- ---- bricks that stand for one another

abbrev pub brick : ℕ → ℕ → Proc
brick m b = record { «module» = m; brick = b }

-- Brick b of module m stands for brick f: an own or ENT one for itself, an EXT one for an ENT brick of its name, an SVC one
-- for the supplied procedure of its name.
pub data StandsFor (ps : System) : ℕ → ℕ → Proc → Type 0 where
  itself : {m b : ℕ} {p : ModuleParts} {d : Brick} → HasBrick ps m b p d → is_here d.kind ≡ true → StandsFor ps m b (brick m b)
  entry : {m b n c : ℕ} {p q : ModuleParts} {d e : Brick} → HasBrick ps m b p d → d.kind ≡ kind.Ext → HasBrick ps n c q e → e.kind ≡ kind.Ent → e.name ≡ d.name → StandsFor ps m b (brick n c)
  supplied : {m b k : ℕ} {p : ModuleParts} {d : Brick} → HasBrick ps m b p d → d.kind ≡ kind.Svc → slice_get supplied_names k ≡ Some d.name → StandsFor ps m b (brick 0 (suc k))

-- ---- candidates

-- RRIN, RROUT and RRGEL are taken always
pub data Standard : List ℕ → ℕ → Type 0 where
  rrin : Standard (codes "PROC() BYTE") 1
  rrout : Standard (codes "PROC(BYTE)") 2
  rrgel : Standard (codes "PROC(INT)") 10

-- A candidate of a full PROC mode: a procedure of this full mode whose name stands as a value or start in some module.
pub data IsCandidate (ps : System) (full : List ℕ) : Proc → Type 0 where
  named : {m b : ℕ} {p : ModuleParts} {w : Mode} {f : Proc} → module_of ps m ≡ Some p → Contains (taken p) b → proc_mode (faces p.bricks) b ≡ Some w → FullMode p.modes w ≡ full
      → StandsFor ps m b f → IsCandidate ps full f
  standard : {k : ℕ} → Standard full k → IsCandidate ps full (brick 0 k)

-- ---- places

-- the mode of a string, as that of an array
abbrev pub text_mode : List ℕ → Mode
text_mode s = mode.Array (length s) mode.Byte

-- A location is there, and has the mode, in the sight of the records of its module: a place of an own or ENT data brick, or of
-- a string. The places of a task's own data are none of these.
pub data StandsAt (ps : System) : Location → ModeTable → Mode → Type 0 where
  in_brick : {m b j : ℕ} {path : List ℕ} {p : ModuleParts} {d : Brick} {fs : List Field} {ss : List DataStart} {v w : Mode} → HasBrick ps m b p d → is_here d.kind ≡ true
      → d.sort ≡ sort.Data fs ss → field_at fs j ≡ Some v → mode_along p.modes.records path v ≡ Some w → StandsAt ps (location.Shared (origin.Brick m b) (j ∷ path)) p.modes w
  in_text : {m k : ℕ} {path : List ℕ} {p : ModuleParts} {s : List ℕ} {w : Mode} → module_of ps m ≡ Some p → slice_get p.strings k ≡ Some s
      → mode_along p.modes.records path (text_mode s) ≡ Some w → StandsAt ps (location.Shared (origin.Text m k) path) p.modes w

-- ---- what a place of a mode holds, in the sight of the records t

pub data Suits (ps : System) (t : ModeTable) (m : Mode) : Datum → Type 0 where
  byte : {n : ℕ} → out-Mode m ≡ Mode-F.Byte → n < 256 → Suits ps t m (datum.Word n)
  int : {n : ℕ} → out-Mode m ≡ Mode-F.Int → n < 65536 → Suits ps t m (datum.Word n)
  frac : {n : ℕ} → out-Mode m ≡ Mode-F.Frac → n < 65536 → Suits ps t m (datum.Word n)
  -- ERL holds nothing
  unset : out-Mode m ≡ Mode-F.Label → Suits ps t m (datum.Word 0)
  reference : {l : Location} {u : ModeTable} {v w : Mode} → out-Mode m ≡ Mode-F.Ref w → StandsAt ps l u v → FullMode u v ≡ FullMode t w → Suits ps t m (datum.Reference l)
  row : {l : Location} {u : ModeTable} {n : ℕ} {v e w : Mode} → out-Mode m ≡ Mode-F.RefArray w → StandsAt ps l u v → out-Mode v ≡ Mode-F.Array n e → FullMode u e ≡ FullMode t w
      → Suits ps t m (datum.Row l n)
  procedure : {f : Proc} {ws : List Mode} {r : Option Mode} → out-Mode m ≡ Mode-F.Proc ws r → IsCandidate ps (FullMode t m) f → Suits ps t m (datum.Procedure f)

mutual
  pub data Holds (ps : System) (t : ModeTable) : Mode → Contents → Type 0 where
    one : {m : Mode} {c : Contents} {d : Datum} → out-Contents c ≡ Contents-F.Datum d → Suits ps t m d → Holds ps t m c
    of_array : {m w : Mode} {c : Contents} {cs : List Contents} → out-Mode m ≡ Mode-F.Array (length cs) w → out-Contents c ≡ Contents-F.Parts cs → HoldAll ps t w cs → Holds ps t m c
    of_record : {m : Mode} {r : ℕ} {d : RecordDef} {c : Contents} {cs : List Contents} → out-Mode m ≡ Mode-F.Record r → slice_get t.records r ≡ Some d → out-Contents c ≡ Contents-F.Parts cs
        → HoldEach ps t d.fields cs → Holds ps t m c

  -- elements of one mode
  pub data HoldAll (ps : System) (t : ModeTable) : Mode → List Contents → Type 0 where
    no_element : {m : Mode} → HoldAll ps t m []
    one_element : {m : Mode} {c : Contents} {cs : List Contents} → Holds ps t m c → HoldAll ps t m cs → HoldAll ps t m (c ∷ cs)

  -- one for each field, or item
  pub data HoldEach (ps : System) (t : ModeTable) : List Field → List Contents → Type 0 where
    no_field : HoldEach ps t [] []
    one_field : {f : Field} {fs : List Field} {c : Contents} {cs : List Contents} → Holds ps t f.mode c → HoldEach ps t fs cs → HoldEach ps t (f ∷ fs) (c ∷ cs)

-- ---- what a path leads to in contents

abbrev pub part_of : Contents-F Contents → ℕ → Option Contents
part_of (Contents-F.Parts parts) k = slice_get parts k
part_of (Contents-F.Datum d) k = None

abbrev pub part : Contents → ℕ → Option Contents
part c k = part_of (out-Contents c) k

abbrev pub inside : Option Contents → List ℕ → Option Contents
inside None path = None
inside (Some c) [] = Some c
inside (Some c) (k ∷ path) = inside (part c k) path

-- Contents that suit a mode have at each path of it what suits the mode there.
abbrev pub HoldsInside : Type 0
HoldsInside = (ps : System) (t : ModeTable) (m w : Mode) (c : Contents) (path : List ℕ) → Holds ps t m c → mode_along t.records path m ≡ Some w
    → (d : Contents) × (inside (Some c) path ≡ Some d) × Holds ps t w d

-- ---- what is written where a path leads

abbrev pub change_found : {A : Type 0} → Option A → List A → ℕ → (A → A) → List A
change_found None xs k f = xs
change_found (Some x) xs k f = slice_set xs k (f x)

-- a list with one element changed
abbrev pub changed : {A : Type 0} → List A → ℕ → (A → A) → List A
changed xs k f = change_found (slice_get xs k) xs k f

abbrev pub with_datum : Datum → Contents-F Contents → Contents
with_datum d (Contents-F.Datum old) = contents.Datum d
with_datum d (Contents-F.Parts parts) = contents.Parts parts

abbrev pub with_part : ℕ → (Contents → Contents) → Contents-F Contents → Contents
with_part k f (Contents-F.Datum old) = contents.Datum old
with_part k f (Contents-F.Parts parts) = contents.Parts (changed parts k f)

-- contents with a datum written where a path leads
abbrev pub written : List ℕ → Datum → Contents → Contents
written [] d c = with_datum d (out-Contents c)
written (k ∷ path) d c = with_part k (λ x. written path d x) (out-Contents c)

-- Contents that suit a mode still do with a datum written that suits the place.
abbrev pub HoldsWritten : Type 0
HoldsWritten = (ps : System) (t : ModeTable) (m w : Mode) (c : Contents) (path : List ℕ) (d : Datum) → Holds ps t m c → mode_along t.records path m ≡ Some w → Suits ps t w d
    → Holds ps t m (written path d c)

-- ---- stores

-- what data bricks and strings contain; a store is a finite map from places
abbrev pub Store : Type 0
Store = Origin → Option Contents

-- The store is there for each own and ENT data brick and each string, and each value suits the mode of its place.
pub record Typed (ps : System) (S : Store) : Type 0 where
  pub bricks : {m b : ℕ} {p : ModuleParts} {d : Brick} {fs : List Field} {ss : List DataStart} → HasBrick ps m b p d → is_here d.kind ≡ true → d.sort ≡ sort.Data fs ss
      → (c : Contents) × (cs : List Contents) × (S (origin.Brick m b) ≡ Some c) × (out-Contents c ≡ Contents-F.Parts cs) × HoldEach ps p.modes fs cs
  pub texts : {m k : ℕ} {p : ModuleParts} {s : List ℕ} → module_of ps m ≡ Some p → slice_get p.strings k ≡ Some s
      → (c : Contents) × (S (origin.Text m k) ≡ Some c) × Holds ps p.modes (text_mode s) c

-- A task's own data, of which each task has an instance: ERL, ERN, ERP, IN and OUT.
pub record TypedOwn (ps : System) (ds : List Datum) : Type 0 where
  pub erl : slice_get ds 0 ≡ Some (datum.Word 0)
  pub ern : (n : ℕ) × (n < 65536) × (slice_get ds 1 ≡ Some (datum.Word n))
  pub erp : (f : Proc) × IsCandidate ps (codes "PROC(INT)") f × (slice_get ds 2 ≡ Some (datum.Procedure f))
  pub input : (f : Proc) × IsCandidate ps (codes "PROC() BYTE") f × (slice_get ds 3 ≡ Some (datum.Procedure f))
  pub output : (f : Proc) × IsCandidate ps (codes "PROC(BYTE)") f × (slice_get ds 4 ≡ Some (datum.Procedure f))
