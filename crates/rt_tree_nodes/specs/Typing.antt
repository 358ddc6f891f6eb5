-- Which places and values fit: the mode of each, and its plain tree. A place or value that doesn't fit has no mode.
use Rattle.std.specs.Prelude.{ℕ, Bool, true, false, ◌&&◌, ◌||◌, ◌==◌, nat_lt, nat_le, if◌then◌else◌, List, [], ◌∷◌, length, Option, Some, None, option_map, slice_get}
use Rattle.rt_modes.specs.declared.mode.Mode.{Mode, out-Mode}
use Rattle.rt_modes.specs.declared.mode.Mode.TheOpen.{Mode-F}
use Rattle.rt_modes.specs.declared.mode.Mode.TheVariants as mode
use Rattle.rt_modes.specs.declared.mode.RecordDef.{RecordDef}
use Rattle.rt_tree_nodes.specs.declared.brick.Local.{Local}
use Rattle.rt_tree_nodes.specs.declared.brick.Local.TheVariants as local
use Rattle.rt_tree_nodes.specs.declared.operators.Op1.{Op1}
use Rattle.rt_tree_nodes.specs.declared.operators.Op1.TheVariants as one
use Rattle.rt_tree_nodes.specs.declared.operators.Op2.{Op2}
use Rattle.rt_tree_nodes.specs.declared.operators.Op2.TheVariants as two
use Rattle.rt_tree_nodes.specs.declared.operators.Rel.{Rel}
use Rattle.rt_tree_nodes.specs.declared.operators.Rel.TheVariants as rel
use Rattle.rt_tree_nodes.specs.declared.value.Callee.{Callee}
use Rattle.rt_tree_nodes.specs.declared.value.Callee.TheFolds.{fold-Callee, fold-Place, fold-Value}
use Rattle.rt_tree_nodes.specs.declared.value.Callee.TheOpen.{Callee-F, Place-F, Value-F}
use Rattle.rt_tree_nodes.specs.declared.value.Place.{Place}
use Rattle.rt_tree_nodes.specs.declared.value.Value.{Value}
use Rattle.rt_tree_nodes.specs.Scopes.{with, only, passes, same, Scope, Face, is_svc, items_of, field_at, field_mode, svc_mode, proc_mode}
use Rattle.rt_tree_nodes.specs.Tree.{Term, Num, Str, Name, Own, Get, Ref, RefRow, Count, CountRow, One, Two, Over, Apply, ApplyBy, Path, ItemAt, Svc, FieldOf, Elem, ElemRow, Past, Terms, NoTerm, MoreTerms}

-- ---- modes

-- records, arrays and labels are no values
abbrev pub is_value : Mode-F Mode → Bool
is_value (Mode-F.Record r) = false
is_value (Mode-F.Array n m) = false
is_value Mode-F.Label = false
is_value _ = true

-- what is read or written at a place of this mode
abbrev pub value_mode : Mode → Option Mode
value_mode m = only (is_value (out-Mode m)) m

abbrev pub is_byte : Mode → Bool
is_byte = same mode.Byte

abbrev pub is_int : Mode → Bool
is_int = same mode.Int

abbrev pub is_frac : Mode → Bool
is_frac = same mode.Frac

-- both of them
abbrev pub both : (Mode → Bool) → Mode → Mode → Bool
both test a b = test a && test b

-- ---- places

-- what a place is
pub data Found : Type 0 where
  Variable : (m : Mode) → Found  -- a parameter or local
  Loop : Found  -- one of a loop's own, of mode INT
  Shared : (m : Mode) → Found  -- an item, a field or an element that all tasks share, or where a REF leads
  Private : (m : Mode) → Found  -- an item of SVC data, of which each task has its own, or a field or element of one
  Row : (m : Mode) → Found  -- the array of elements of mode m to which a REF ARRAY leads

-- the plain tree of a place
pub data Spot : Type 0 where
  OnLocal : (i : ℕ) → Spot
  OnPath : (p : Path) → Spot
  OnRow : (v : Term) → Spot

pub record Placed : Type 0 where
  pub found : Option Found
  pub tree : Spot

-- A value: its mode; where it is a number, which; where it is a call that fits, the mode of its result, if any; and its
-- plain tree.
pub record Valued : Type 0 where
  pub mode : Option Mode
  pub number : Option ℕ
  pub call : Option (Option Mode)
  pub tree : Term

-- What is called: its PROC mode, and the plain tree of the call with given arguments.
pub record Called : Type 0 where
  pub mode : Option Mode
  pub tree : Terms → Term

abbrev pub local_found : Local → Found
local_found (local.Variable m) = Variable m
local_found local.Loop = Loop

-- an item of SVC data, or one that all tasks share
abbrev pub kept : Bool → Mode → Found
kept true = Private
kept false = Shared

-- item j of data brick b
abbrev pub item_found : List Face → ℕ → ℕ → Option Found
item_found bricks b j = with (slice_get bricks b) (λ d. with (items_of d) (λ fs. option_map (kept (is_svc d.kind)) (field_at fs j)))

-- a field of a record
abbrev pub field_by : List RecordDef → ℕ → Mode-F Mode → Option Mode
field_by records k (Mode-F.Record r) = field_mode records r k
field_by records k _ = None

abbrev pub field_found : List RecordDef → ℕ → Found → Option Found
field_found records k (Shared m) = option_map Shared (field_by records k (out-Mode m))
field_found records k (Private m) = option_map Private (field_by records k (out-Mode m))
field_found records k _ = None

abbrev pub field_path : Mode-F Mode → Path → ℕ → Path
field_path (Mode-F.Record r) p k = FieldOf p r k
field_path _ p k = p

abbrev pub field_in : Option Found → Spot → ℕ → Spot
field_in (Some (Shared m)) (OnPath q) k = OnPath (field_path (out-Mode m) q k)
field_in (Some (Private m)) (OnPath q) k = OnPath (field_path (out-Mode m) q k)
field_in _ other k = other

abbrev pub field_tree : Placed → ℕ → Spot
field_tree p k = field_in p.found p.tree k

-- an element of an array
abbrev pub element_by : Mode-F Mode → Option Mode
element_by (Mode-F.Array n m) = Some m
element_by _ = None

abbrev pub element_found : Found → Option Found
element_found (Shared m) = option_map Shared (element_by (out-Mode m))
element_found (Private m) = option_map Private (element_by (out-Mode m))
element_found (Row m) = Some (Shared m)
element_found _ = None

abbrev pub element_path : Mode-F Mode → Path → Term → Path
element_path (Mode-F.Array n m) p v = Elem p v n m
element_path _ p v = p

abbrev pub element_in : Option Found → Spot → Term → Spot
element_in (Some (Shared m)) (OnPath q) v = OnPath (element_path (out-Mode m) q v)
element_in (Some (Private m)) (OnPath q) v = OnPath (element_path (out-Mode m) q v)
element_in (Some (Row m)) (OnRow a) v = OnPath (ElemRow a v m)
element_in _ other v = other

-- where a reference leads
abbrev pub led_by : Mode-F Mode → Option Found
led_by (Mode-F.Ref m) = Some (Shared m)
led_by (Mode-F.RefArray m) = Some (Row m)
led_by _ = None

abbrev pub led : Mode → Option Found
led m = led_by (out-Mode m)

abbrev pub led_spot : Mode-F Mode → Term → Spot
led_spot (Mode-F.Ref m) v = OnPath (Past v)
led_spot _ v = OnRow v

abbrev pub led_tree : Option Mode → Term → Spot
led_tree (Some m) v = led_spot (out-Mode m) v
led_tree None v = OnRow v

module _ (c : Scope) where
  abbrev pub one_place : Place-F Called Placed Valued → Placed
  one_place (Place-F.Local i) = record { found = option_map local_found (slice_get c.locals i); tree = OnLocal i }
  one_place (Place-F.Item b j) = record { found = item_found c.bricks b j; tree = OnPath (ItemAt b j) }
  one_place (Place-F.Svc k) = record { found = option_map Private (svc_mode c k); tree = OnPath (Svc k) }
  one_place (Place-F.Field p k) = record { found = with p.found (field_found c.records k); tree = field_tree p k }
  one_place (Place-F.Element p v) = record { found = with p.found (λ f. with v.mode (λ m. if is_int m then element_found f else None)); tree = element_in p.found p.tree v.tree }
  one_place (Place-F.«Place::Through» v) = record { found = with v.mode led; tree = led_tree v.mode v.tree }

-- ---- what is done with a place

-- the mode of what is read there
abbrev pub read_mode : Found → Option Mode
read_mode (Variable m) = value_mode m
read_mode Loop = Some mode.Int
read_mode (Shared m) = value_mode m
read_mode (Private m) = value_mode m
read_mode (Row m) = None

-- the mode of what may be assigned there
abbrev pub assigned_mode : Found → Option Mode
assigned_mode Loop = None
assigned_mode f = read_mode f

abbrev pub mode_at : Option Found → Mode
mode_at (Some (Shared m)) = m
mode_at (Some (Private m)) = m
mode_at _ = mode.Int

abbrev pub read_tree : Placed → Term
read_tree p = elim p.tree [
  | OnLocal i ↦ Own i
  | OnPath q ↦ Get (mode_at p.found) q
  | OnRow v ↦ v
]

-- Its reference. That of a local or of a place of SVC data can't be taken.
abbrev pub reference_by : Mode-F Mode → Mode → Option Mode
reference_by (Mode-F.Array n m) _ = Some (mode.RefArray m)
reference_by Mode-F.Label _ = None
reference_by _ m = Some (mode.Ref m)

abbrev pub reference_mode : Found → Option Mode
reference_mode (Shared m) = reference_by (out-Mode m) m
reference_mode _ = None

abbrev pub reference_path : Mode-F Mode → Path → Term
reference_path (Mode-F.Array n m) p = RefRow p n
reference_path _ p = Ref p

abbrev pub reference_tree : Placed → Term
reference_tree p = elim p.tree [
  | OnLocal i ↦ Own i
  | OnPath q ↦ reference_path (out-Mode (mode_at p.found)) q
  | OnRow v ↦ v
]

-- the LENGTH of an array
abbrev pub length_by : Mode-F Mode → Option Mode
length_by (Mode-F.Array n m) = Some mode.Int
length_by _ = None

abbrev pub length_mode : Found → Option Mode
length_mode (Shared m) = length_by (out-Mode m)
length_mode (Private m) = length_by (out-Mode m)
length_mode (Row m) = Some mode.Int
length_mode _ = None

abbrev pub length_path : Mode-F Mode → Path → Term
length_path (Mode-F.Array n m) p = Count p n
length_path _ p = Ref p

abbrev pub length_tree : Placed → Term
length_tree p = elim p.tree [
  | OnLocal i ↦ Own i
  | OnPath q ↦ length_path (out-Mode (mode_at p.found)) q
  | OnRow v ↦ CountRow v
]

-- ---- operators

-- the result of an operator of INT or FRAC, which has the mode of its operand
abbrev pub signed_mode : Mode → Option Mode
signed_mode m = only (is_int m || is_frac m) m

abbrev pub monadic_mode : Op1 → Mode → Option Mode
monadic_mode one.Plus m = signed_mode m
monadic_mode one.Minus m = signed_mode m
monadic_mode one.Abs m = signed_mode m
monadic_mode one.Not m = only (is_int m) mode.Int
monadic_mode one.Byte m = only (is_int m) mode.Byte
monadic_mode one.Int m = only (is_byte m || (is_int m || is_frac m)) mode.Int
monadic_mode one.Frac m = only (is_int m || is_frac m) mode.Frac

-- both operands of INT
abbrev pub whole_mode : Mode → Mode → Option Mode
whole_mode a b = only (both is_int a b) mode.Int

-- both of INT or both of FRAC
abbrev pub alike_mode : Mode → Mode → Option Mode
alike_mode a b = if both is_frac a b then Some mode.Frac else whole_mode a b

-- the count of a shift is INT
abbrev pub shift_mode : Mode → Mode → Option Mode
shift_mode a b = if is_int b then signed_mode a else None

abbrev pub dyadic_mode : Op2 → Mode → Mode → Option Mode
dyadic_mode two.Sll a b = shift_mode a b
dyadic_mode two.Srl a b = shift_mode a b
dyadic_mode two.Sla a b = shift_mode a b
dyadic_mode two.Sra a b = shift_mode a b
dyadic_mode two.Times a b = whole_mode a b
dyadic_mode two.FracTimes a b = only (both is_frac a b) mode.Frac
dyadic_mode two.Divide a b = whole_mode a b
dyadic_mode two.Mod a b = whole_mode a b
dyadic_mode two.Land a b = whole_mode a b
dyadic_mode two.Plus a b = alike_mode a b
dyadic_mode two.Minus a b = alike_mode a b
dyadic_mode two.Lor a b = whole_mode a b
dyadic_mode two.Nev a b = whole_mode a b

abbrev pub dyadic_tree : Op2 → Term → Term → Term
dyadic_tree two.Divide a b = Over two.Divide a b
dyadic_tree two.Mod a b = Over two.Mod a b
dyadic_tree o a b = Two o a b

-- ---- values where a mode is wanted, and calls

abbrev pub is_small : Option ℕ → Bool
is_small = passes (λ n. nat_le n 255)

-- A value suits where its own mode is wanted, and a number up to 255 where BYTE is.
abbrev pub suits : Mode → Valued → Bool
suits w v = passes (λ m. same w m || (is_byte w && is_small v.number)) v.mode

abbrev pub all_suit : List Mode → List Valued → Bool
all_suit ws [] = length ws == 0
all_suit [] (v ∷ vs) = false
all_suit (w ∷ ws) (v ∷ vs) = suits w v && all_suit ws vs

abbrev pub terms_of : List Valued → Terms
terms_of [] = NoTerm
terms_of (v ∷ vs) = MoreTerms v.tree (terms_of vs)

-- the modes of the parameters of a procedure, and that of its result
pub record Signature : Type 0 where
  pub parameters : List Mode
  pub answer : Option Mode

abbrev pub signature_by : Mode-F Mode → Option Signature
signature_by (Mode-F.Proc ws r) = Some (record { parameters = ws; answer = r })
signature_by _ = None

-- the result of a call with these arguments, if any
abbrev pub call_mode : Option Mode → List Valued → Option (Option Mode)
call_mode f vs = with f (λ m. with (signature_by (out-Mode m)) (λ s. only (all_suit s.parameters vs) s.answer))

-- a value that is no number and no call
abbrev pub value : Option Mode → Term → Valued
value m t = record { mode = m; number = None; call = None; tree = t }

-- the mode of what is called; where it has none, any
abbrev pub mode_or_int : Option Mode → Mode
mode_or_int (Some m) = m
mode_or_int None = mode.Int

module _ (c : Scope) where
  abbrev pub one_value : Value-F Called Placed Valued → Valued
  one_value (Value-F.Number n) = record { mode = Some mode.Int; number = Some n; call = None; tree = Num n }
  one_value (Value-F.Text n) = value (only (nat_lt n c.strings) (mode.RefArray mode.Byte)) (Str n)
  one_value (Value-F.Proc b) = value (proc_mode c.bricks b) (Name b)
  one_value (Value-F.Read p) = value (with p.found read_mode) (read_tree p)
  one_value (Value-F.Reference p) = value (with p.found reference_mode) (reference_tree p)
  one_value (Value-F.Length p) = value (with p.found length_mode) (length_tree p)
  one_value (Value-F.Monadic o v) = value (with v.mode (monadic_mode o)) (One o v.tree)
  one_value (Value-F.Dyadic o a b) = value (with a.mode (λ x. with b.mode (dyadic_mode o x))) (dyadic_tree o a.tree b.tree)
  one_value (Value-F.Call f vs) = record { mode = with (call_mode f.mode vs) (λ r. r); number = None; call = call_mode f.mode vs; tree = f.tree (terms_of vs) }

  abbrev pub one_callee : Callee-F Called Placed Valued → Called
  one_callee (Callee-F.Brick b) = record { mode = proc_mode c.bricks b; tree = Apply b }
  one_callee (Callee-F.«Callee::Through» v) = record { mode = v.mode; tree = ApplyBy (mode_or_int v.mode) v.tree }

  -- ---- the places, values and callees of a tree

  abbrev pub placed : Place → Placed
  placed = fold-Place Called Placed Valued one_callee (one_place c) one_value

  abbrev pub valued : Value → Valued
  valued = fold-Value Called Placed Valued one_callee (one_place c) one_value

  abbrev pub called : Callee → Called
  called = fold-Callee Called Placed Valued one_callee (one_place c) one_value

-- ---- comparisons

abbrev pub is_reference : Mode-F Mode → Bool
is_reference (Mode-F.Ref m) = true
is_reference (Mode-F.RefArray m) = true
is_reference _ = false

-- numbers of one mode, both INT or both FRAC
abbrev pub numbers_compare : Mode → Mode → Bool
numbers_compare a b = both is_int a b || both is_frac a b

-- references of one mode
abbrev pub references_compare : Mode → Mode → Bool
references_compare a b = is_reference (out-Mode a) && same a b

abbrev pub compare_fits : Rel → Mode → Mode → Bool
compare_fits rel.Same a b = references_compare a b
compare_fits rel.Different a b = references_compare a b
compare_fits _ a b = numbers_compare a b
