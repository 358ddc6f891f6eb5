-- What an expression is by itself, and the value that it is where a mode is wanted.
use Rattle.std.specs.Prelude.{ℕ, ◌+◌, ◌==◌, ◌||◌, Bool, true, false, nat_le, if◌then◌else◌, List, [], ◌∷◌, Option, Some, None, Ok, Err, slice_get}
use Rattle.std.specs.Str.{bytes_eq}
use Rattle.rt_grammar.specs.declared.at.At.{At}
use Rattle.rt_modes.specs.declared.mode.Field.{Field}
use Rattle.rt_modes.specs.declared.mode.Mode.{Mode, out-Mode}
use Rattle.rt_modes.specs.declared.mode.Mode.TheOpen.{Mode-F}
use Rattle.rt_modes.specs.declared.mode.RecordDef.{RecordDef}
use Rattle.rt_tree_nodes.specs.declared.value.Place.{Place}
use Rattle.rt_tree_nodes.specs.declared.value.Place.TheVariants as places
use Rattle.rt_tree_nodes.specs.declared.value.Value.{Value}
use Rattle.rt_tree_nodes.specs.declared.value.Value.TheVariants as values
use Rattle.rt_check_faults.specs.declared.fault.CheckFault.TheVariants as fault
use Rattle.rt_exprs.specs.declared.operand.Base.{Base}
use Rattle.rt_exprs.specs.declared.operand.Base.TheVariants as base
use Rattle.rt_exprs.specs.declared.operand.Meant.{Meant}
use Rattle.rt_exprs.specs.declared.operand.Meant.TheVariants as meant
use Rattle.rt_exprs.specs.declared.operand.Operand.{Operand}
use Rattle.rt_exprs.specs.declared.operand.Standing.{Standing}
use Rattle.rt_exprs.specs.declared.operand.Standing.TheVariants as standing
use Rattle.rt_exprs.specs.declared.operand.Wanted.{Wanted}
use Rattle.rt_exprs.specs.declared.operand.Wanted.TheVariants as wanted
use Rattle.rt_exprs.specs.declared.scope.Meaning.{Meaning}
use Rattle.rt_exprs.specs.declared.scope.Meaning.TheVariants as meaning
use Rattle.rt_exprs.specs.Modes.{Layer, Want, basic, ref, row, proc, nothing, same, becomes, basic_becomes, is_ref, is_row, is_proc, is_byte, is_int, only_if}
use Rattle.rt_check_faults.specs.declared.fault.CheckFault.{CheckFault}
use Rattle.rt_check_faults.specs.Outcomes.{Outcome, ◌>>=◌, or_fault, unknown}

-- What an expression is by itself: a number, a string, a procedure brick, a place, the variable of a FOR loop, the result
-- of a call, the result of an operator, or a call without result.
pub data Is : Type 0 where
  number : ℕ → Is
  text : ℕ → Is
  brick : ℕ → Mode → Is
  place : Place → Mode → Standing → Is
  loop : ℕ → Is
  result : Value → Mode → Is
  computed : Value → Base → Is
  done : Value → Is

-- an expression that begins at an item, and what it is
pub record Found : Type 0 where
  pub at : At
  pub is : Is

-- ---- what the program's values stand for

abbrev pub seen : Meant → Is
seen (meant.Number n) = number n
seen (meant.Text n) = text n
seen (meant.Brick k m) = brick k m.now
seen (meant.Place p m st) = place p m.now st
seen (meant.Loop k) = loop k
seen (meant.Result v m) = result v m.now
seen (meant.Computed v b) = computed v b
seen (meant.Done v) = done v

-- An expression, and whether all of it is known. Where it isn't its mode is known, and others stand for those of its parts that
-- can't be known; nothing looks at them.
pub record Judged : Type 0 where
  pub found : Found
  pub known : Bool

abbrev pub judged_of : Operand → Judged
judged_of o = record { found = record { at = o.at; is = seen o.is }; known = o.known }

abbrev pub want_of : Wanted → Want
want_of (wanted.Basic b) = basic b
want_of (wanted.Ref m) = ref m.now
want_of (wanted.Row m) = row m.now
want_of (wanted.Proc m) = proc m.now
want_of wanted.Nothing = nothing

-- ---- names

abbrev pub or_else : {A : Type 0} → Option A → Option A → Option A
or_else (Some x) other = Some x
or_else None other = other

-- A name that stands by itself: what it is, or its fault. Where its mode is unfit it can't be known.
abbrev pub named : At → Option Meaning → Outcome Is
named at None = Err (fault.UnknownName at)
named at (Some (meaning.Proc k m)) = Ok (brick k m)
named at (Some (meaning.Item b i m)) = Ok (place (places.Item b i) m standing.Shared)
named at (Some (meaning.SvcItem b i m)) = Ok (place (places.Item b i) m standing.Private)
named at (Some (meaning.Svc k m)) = if k == 0 then Err (fault.LeftOut 2 at) else Ok (place (places.Svc k) m standing.Private)
named at (Some (meaning.Local k m)) = Ok (place (places.Local k) m standing.Private)
named at (Some (meaning.Loop k)) = Ok (loop k)
named at (Some meaning.UnknownProc) = unknown
named at (Some meaning.Unknown) = unknown
named at (Some other) = Err (fault.WrongMode at)

-- the number, from k, and the mode of the first field of a name
unfoldable pub field_from : ℕ → List Field → List ℕ → Option (ℕ × Mode)
field_from k [] name = None
field_from k (f ∷ fs) name = if bytes_eq f.name name then Some (k, f.mode) else field_from (k + 1) fs name

abbrev pub field_in : Option RecordDef → List ℕ → Option (ℕ × Mode)
field_in None name = None
field_in (Some r) name = field_from 0 r.fields name

-- the first field of a name in a record, by the record's number
abbrev pub first_field : List RecordDef → ℕ → List ℕ → Option (ℕ × Mode)
first_field records r name = field_in (slice_get records r) name

-- A field whose mode is unfit has LABEL, which no field may have: its mode can't be known.
abbrev pub is_label : Mode-F Mode → Bool
is_label Mode-F.Label = true
is_label _ = false

abbrev pub unless_label : Bool → ℕ × Mode → Option (ℕ × Mode)
unless_label true x = None
unless_label false x = Some x

abbrev pub if_known_mode : Option (ℕ × Mode) → Option (ℕ × Mode)
if_known_mode None = None
if_known_mode (Some x) = unless_label (is_label (out-Mode x.1)) x

-- the field of a name in a record, by the record's number, where its mode is known
abbrev pub field_of : List RecordDef → ℕ → List ℕ → Option (ℕ × Mode)
field_of records r name = if_known_mode (first_field records r name)

-- ---- the value where a mode is wanted

abbrev pub number_fits : ℕ → Want → Bool
number_fits n (basic base.Int) = true
number_fits n (basic base.Byte) = nat_le n 255
number_fits n _ = false

-- where the reference of a place of this mode is wanted: REF to the mode, or REF ARRAY of an array's elements
abbrev pub row_by : Layer → Want → Bool
row_by (Mode-F.Array k e) w = is_row (same e) w
row_by _ w = false

abbrev pub wants_reference : Mode → Want → Bool
wants_reference m w = is_ref (same m) w || row_by (out-Mode m) w

-- a reference that leaves the procedure's own places
abbrev pub refer : At → Place → Standing → Outcome Value
refer at p standing.Shared = Ok (values.Reference p)
refer at p _ = Err (fault.RefOfLocal at)

abbrev pub place_suits : At → Place → Mode → Standing → Want → Outcome Value
place_suits at p m st w = if wants_reference m w then refer at p st else or_fault (fault.WrongMode at) (becomes m w (values.Read p))

abbrev pub loop_suits : At → ℕ → Want → Outcome Value
loop_suits at k w = if is_ref (λ m. is_int (out-Mode m)) w then Err (fault.RefOfLocal at) else or_fault (fault.WrongMode at) (basic_becomes base.Int w (values.Read (places.Local k)))

abbrev pub suits_by : At → Is → Want → Outcome Value
suits_by at (number n) w = or_fault (fault.WrongMode at) (only_if (number_fits n w) (values.Number n))
suits_by at (text n) w = or_fault (fault.WrongMode at) (only_if (is_row (λ m. is_byte (out-Mode m)) w) (values.Text n))
suits_by at (brick k m) w = or_fault (fault.WrongMode at) (only_if (is_proc (same m) w) (values.Proc k))
suits_by at (place p m st) w = place_suits at p m st w
suits_by at (loop k) w = loop_suits at k w
suits_by at (result v m) w = or_fault (fault.WrongMode at) (becomes m w v)
suits_by at (computed v b) w = or_fault (fault.WrongMode at) (basic_becomes b w v)
suits_by at (done v) w = Err (fault.WrongMode at)

-- the value of an expression where a mode is wanted
abbrev pub suits : Found → Want → Outcome Value
suits f w = suits_by f.at f.is w

-- what would be a value, but isn't all known, can't be known
abbrev pub if_known : {A : Type 0} → Bool → Outcome A → Outcome A
if_known true t = t
if_known false (Ok x) = unknown
if_known false (Err g) = Err g

abbrev pub suits_as : Judged → Want → Outcome Value
suits_as j w = if_known j.known (suits j.found w)

abbrev pub fits : Outcome Judged → Want → Outcome Value
fits t w = t >>= λ j. suits_as j w

-- The fault of an expression of which no mode is known to be wanted, which is judged by itself: a call without result fits no
-- mode. Where none stands, that is what can't be known.
abbrev pub alone_is : At → Is → CheckFault
alone_is at (done v) = fault.WrongMode at
alone_is at _ = fault.Unknown

abbrev pub by_itself : Outcome Judged → CheckFault
by_itself (Ok j) = alone_is j.found.at j.found.is
by_itself (Err g) = g
