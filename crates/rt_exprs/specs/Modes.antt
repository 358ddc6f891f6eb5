-- Modes that are the same, what is wanted of a value, and what a value of a mode gives there.
use Rattle.std.specs.Prelude.{ℕ, ◌==◌, Bool, true, false, ◌&&◌, if◌then◌else◌, List, [], ◌∷◌, Option, Some, None}
use Rattle.rt_modes.specs.declared.mode.Mode.{Mode, out-Mode}
use Rattle.rt_modes.specs.declared.mode.Mode.TheFolds.{fold-Mode}
use Rattle.rt_modes.specs.declared.mode.Mode.TheOpen.{Mode-F}
use Rattle.rt_tree_nodes.specs.declared.operators.Op1.TheVariants as one
use Rattle.rt_tree_nodes.specs.declared.value.Place.{Place}
use Rattle.rt_tree_nodes.specs.declared.value.Place.TheVariants as place
use Rattle.rt_tree_nodes.specs.declared.value.Value.{Value}
use Rattle.rt_tree_nodes.specs.declared.value.Value.TheVariants as value
use Rattle.rt_exprs.specs.declared.operand.Base.{Base}
use Rattle.rt_exprs.specs.declared.operand.Base.TheVariants as base

-- one level of a mode
abbrev pub Layer : Type 0
Layer = Mode-F Mode

-- The mode that is wanted of a value: one of one word, REF, REF ARRAY or PROC. A record, an array and LABEL have no value.
pub data Want : Type 0 where
  basic : Base → Want
  ref : Mode → Want
  row : Mode → Want
  proc : Mode → Want
  nothing : Want

abbrev pub want_by : Mode → Layer → Want
want_by m Mode-F.Byte = basic base.Byte
want_by m Mode-F.Int = basic base.Int
want_by m Mode-F.Frac = basic base.Frac
want_by m (Mode-F.Ref n) = ref n
want_by m (Mode-F.RefArray n) = row n
want_by m (Mode-F.Proc ps r) = proc m
want_by m _ = nothing

abbrev pub want : Mode → Want
want m = want_by m (out-Mode m)

-- What is known of a mode: which modes are the same, and what a value of it gives where another is wanted.
pub record Way : Type 0 where
  pub is : Mode → Bool
  pub becomes : Want → Value → Option Value

abbrev pub passes : {A : Type 0} → (A → Bool) → Option A → Bool
passes test None = false
passes test (Some x) = test x

abbrev pub all_same : List Way → List Mode → Bool
all_same [] [] = true
all_same (f ∷ fs) (m ∷ ms) = f.is m && all_same fs ms
all_same _ _ = false

abbrev pub result_same : Option Way → Option Mode → Bool
result_same None None = true
result_same (Some f) (Some m) = f.is m
result_same _ _ = false

-- what one level of a mode is
abbrev pub is_byte : Layer → Bool
is_byte Mode-F.Byte = true
is_byte _ = false

abbrev pub is_int : Layer → Bool
is_int Mode-F.Int = true
is_int _ = false

abbrev pub is_frac : Layer → Bool
is_frac Mode-F.Frac = true
is_frac _ = false

abbrev pub is_label : Layer → Bool
is_label Mode-F.Label = true
is_label _ = false

abbrev pub ref_of : Layer → Option Mode
ref_of (Mode-F.Ref m) = Some m
ref_of _ = None

abbrev pub row_of : Layer → Option Mode
row_of (Mode-F.RefArray m) = Some m
row_of _ = None

abbrev pub array_of : Layer → Option (ℕ × Mode)
array_of (Mode-F.Array n m) = Some (n, m)
array_of _ = None

abbrev pub record_of : Layer → Option ℕ
record_of (Mode-F.Record r) = Some r
record_of _ = None

abbrev pub parameters_of : Layer → Option (List Mode)
parameters_of (Mode-F.Proc ps r) = Some ps
parameters_of _ = None

abbrev pub answer_of : Layer → Option (Option Mode)
answer_of (Mode-F.Proc ps r) = Some r
answer_of _ = None

-- one level of a mode, with what is known of the modes inside it, and one of another
abbrev pub layer_same : Mode-F Way → Layer → Bool
layer_same Mode-F.Byte l = is_byte l
layer_same Mode-F.Int l = is_int l
layer_same Mode-F.Frac l = is_frac l
layer_same Mode-F.Label l = is_label l
layer_same (Mode-F.Ref f) l = passes f.is (ref_of l)
layer_same (Mode-F.RefArray f) l = passes f.is (row_of l)
layer_same (Mode-F.Array k f) l = passes (λ x. k == x.0 && f.is x.1) (array_of l)
layer_same (Mode-F.Record k) l = passes (λ n. n == k) (record_of l)
layer_same (Mode-F.Proc fs f) l = passes (all_same fs) (parameters_of l) && passes (result_same f) (answer_of l)

-- where REF to, a REF ARRAY of, or a PROC of a mode that passes the test is wanted
abbrev pub is_ref : (Mode → Bool) → Want → Bool
is_ref test (ref n) = test n
is_ref test _ = false

abbrev pub is_row : (Mode → Bool) → Want → Bool
is_row test (row n) = test n
is_row test _ = false

abbrev pub is_proc : (Mode → Bool) → Want → Bool
is_proc test (proc n) = test n
is_proc test _ = false

-- the value, where the test is passed
abbrev pub only_if : {A : Type 0} → Bool → A → Option A
only_if true v = Some v
only_if false v = None

-- A value of a mode of one word where another is wanted: a BYTE is an INT by zeros in front.
abbrev pub basic_becomes : Base → Want → Value → Option Value
basic_becomes base.Byte (basic base.Byte) v = Some v
basic_becomes base.Byte (basic base.Int) v = Some (value.Monadic one.Int v)
basic_becomes base.Int (basic base.Int) v = Some v
basic_becomes base.Frac (basic base.Frac) v = Some v
basic_becomes _ _ v = None

-- what a REF leads to, read
abbrev pub past : Value → Value
past v = value.Read (place.Through v)

-- A value of a mode where another is wanted: itself, or followed, if it is a REF.
abbrev pub layer_becomes : Mode-F Way → Want → Value → Option Value
layer_becomes Mode-F.Byte w v = basic_becomes base.Byte w v
layer_becomes Mode-F.Int w v = basic_becomes base.Int w v
layer_becomes Mode-F.Frac w v = basic_becomes base.Frac w v
layer_becomes (Mode-F.Ref f) w v = if is_ref f.is w then Some v else f.becomes w (past v)
layer_becomes (Mode-F.RefArray f) w v = only_if (is_row f.is w) v
layer_becomes (Mode-F.Proc ps r) w v = only_if (is_proc (λ n. layer_same (Mode-F.Proc ps r) (out-Mode n)) w) v
layer_becomes _ w v = None

abbrev pub way_by : Mode-F Way → Way
way_by l = record { is = λ m. layer_same l (out-Mode m); becomes = λ w v. layer_becomes l w v }

unfoldable pub way : Mode → Way
way = fold-Mode Way way_by

abbrev pub same : Mode → Mode → Bool
same m n = (way m).is n

abbrev pub becomes : Mode → Want → Value → Option Value
becomes m w v = (way m).becomes w v

-- the place to which the reference at a place leads
abbrev pub through : Place → Place
through p = place.Through (value.Read p)

-- the array at a place of this mode, REFs followed: the place of the array
abbrev pub array_by : Mode-F (Place → Option Place) → Place → Option Place
array_by (Mode-F.Array k f) p = Some p
array_by (Mode-F.RefArray f) p = Some (through p)
array_by (Mode-F.Ref f) p = f (through p)
array_by _ p = None

unfoldable pub array_at : Mode → Place → Option Place
array_at = fold-Mode (Place → Option Place) array_by

-- the mode of one word that is left where REFs are taken off; INT where it is another
abbrev pub base_by : Mode-F Base → Base
base_by Mode-F.Byte = base.Byte
base_by Mode-F.Frac = base.Frac
base_by (Mode-F.Ref b) = b
base_by _ = base.Int

unfoldable pub base_of : Mode → Base
base_of = fold-Mode Base base_by
