-- The records of a module, and the faults of their declarations.
use Rattle.std.specs.Prelude.{◌≡◌, ℕ, Bool, true, false, List, [], ◌∷◌, length, map, Option, Some, None, slice_get}
use Rattle.rt_grammar.specs.declared.at.Ident.{Ident}
use Rattle.rt_bricks.specs.declared.tree.Declaration.{Declaration}
use Rattle.rt_bricks.specs.declared.tree.Declaration.TheVariants as declares
use Rattle.rt_bricks.specs.declared.tree.RecordMode.{RecordMode}
use Rattle.rt_check_declared.specs.Names.{second_fields}
use Rattle.rt_modes.specs.declared.mode.RecordDef.{RecordDef}
use Rattle.rt_check_faults.specs.declared.fault.CheckFault.{CheckFault}
use Rattle.rt_check_faults.specs.declared.fault.CheckFault.TheVariants as fault
use Rattle.rt_check_faults.specs.Outcomes.{IsLeast}
use Rattle.rt_sizes.specs.Containing.{Contains}
use Rattle.rt_sizes.specs.Sizes.{Table, PassWith}
use Rattle.rt_check_declared.specs.declared.site.Site.TheVariants as site
use Rattle.rt_check_declared.specs.Verdicts.{IsIn}
use Rattle.rt_check_declared.specs.Written.{Names}
use Rattle.rt_check_declared.specs.Fields.{written_fields, mode_faults, idents}

-- the MODEs of a module
abbrev pub record_modes : List Declaration → List RecordMode
record_modes [] = []
record_modes (declares.Record r ∷ ds) = r ∷ record_modes ds
record_modes (_ ∷ ds) = record_modes ds

abbrev pub has_none : List CheckFault → Bool
has_none [] = true
has_none (f ∷ fs) = false

module _ (names : Names) where
  -- a record, of whose fields each has its mode as far as it can be known
  abbrev pub definition : RecordMode → RecordDef
  definition r = record { name = r.name.name; fields = written_fields names site.Item r.fields }

  -- the faults of the modes of its fields
  abbrev pub field_faults : RecordMode → List CheckFault
  field_faults r = mode_faults names site.Item r.fields

  -- The records; the fields of one are all known where the mode of none holds a fault.
  abbrev pub table : List Declaration → Table
  table ds = record { records = map definition (record_modes ds); known = map (λ r. has_none (field_faults r)) (record_modes ds) }

  -- Fault g stands in the modes of the fields of MODE k, which is r, or in the record as a whole. Where a mode is unfit that isn't judged.
  pub data ModeFault (t : Table) (k : ℕ) (r : RecordMode) : CheckFault → Type 0 where
    in_fields : {g : CheckFault} → IsIn g (field_faults r) → ModeFault t k r g
    in_itself : field_faults r ≡ [] → Contains t.records k k → ModeFault t k r (fault.DeclaredTwice r.name.at)
    too_large : {i : ℕ} {f : Ident} → field_faults r ≡ [] → (Contains t.records k k → ⊥) → PassWith t (written_fields names site.Item r.fields) i → slice_get (idents r.fields) i ≡ Some f → ModeFault t k r (fault.BadStart f.at)

  -- It stands there, or is a second name of a field, which makes no MODE unfit.
  pub data RecordFault (t : Table) (k : ℕ) (r : RecordMode) : CheckFault → Type 0 where
    of_modes : {g : CheckFault} → ModeFault t k r g → RecordFault t k r g
    of_names : {g : CheckFault} → IsIn g (second_fields r.fields) → RecordFault t k r g

  -- a fault stands in some MODE of the module
  abbrev pub Stands : List Declaration → CheckFault → Type 0
  Stands ds g = (k : ℕ) × (r : RecordMode) × (slice_get (record_modes ds) k ≡ Some r) × RecordFault (table ds) k r g

-- What is kept of the faults that stand somewhere: none where none stands, else the one that counts.
abbrev pub Counts : (CheckFault → Type 0) → Option CheckFault → Type 0
Counts Stands None = (g : CheckFault) → Stands g → ⊥
Counts Stands (Some g) = IsLeast Stands g

-- Of each MODE the fault that counts.
pub record AllCount (names : Names) (t : Table) (rs : List RecordMode) (us : List (Option CheckFault)) : Type 0 where
  pub one_each : length us ≡ length rs
  pub counts : (k : ℕ) (r : RecordMode) (u : Option CheckFault) → slice_get rs k ≡ Some r → slice_get us k ≡ Some u → Counts (RecordFault names t k r) u
