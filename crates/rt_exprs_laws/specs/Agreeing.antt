-- Where the names that an expression may use and the tree of the module agree: what a name stands for is there in the tree.
use Rattle.std.specs.Prelude.{◌≡◌, ◌≢◌, ℕ, Bool, true, false, ◌&&◌, List, [], ◌∷◌, length, Option, Some, None, slice_get}
use Rattle.std.specs.List.{AllByRecursion}
use Rattle.rt_modes.specs.declared.mode.Field.{Field}
use Rattle.rt_modes.specs.declared.mode.Mode.{Mode}
use Rattle.rt_modes.specs.declared.mode.Mode.TheFolds.{fold-Mode}
use Rattle.rt_modes.specs.declared.mode.Mode.TheOpen.{Mode-F}
use Rattle.rt_modes.specs.declared.mode.RecordDef.{RecordDef}
use Rattle.rt_tree_nodes.specs.declared.brick.Local.TheVariants as local
use Rattle.rt_tree_nodes.specs.Scopes.{Scope, svc_mode, proc_mode}
use Rattle.rt_tree_nodes.specs.Typing.{Shared, Private, item_found}
use Rattle.rt_exprs.specs.declared.scope.Meaning.{Meaning}
use Rattle.rt_exprs.specs.declared.scope.Meaning.TheVariants as meaning
use Rattle.rt_exprs.specs.Sights.{Sight}
use Rattle.rt_exprs.specs.Names.{find}

-- ---- where a mode may stand

pub record Places : Type 0 where
  pub item : Bool  -- that of an item or a field
  pub inner : Bool  -- inside REF, REF ARRAY and ARRAY
  pub value : Bool  -- that of a parameter, a result or a local

abbrev pub all_if : Bool → Places
all_if b = record { item = b; inner = b; value = b }

abbrev pub all_values : List Places → Bool
all_values [] = true
all_values (p ∷ ps) = p.value && all_values ps

abbrev pub answer_value : Option Places → Bool
answer_value None = true
answer_value (Some p) = p.value

-- A record is no value. An array is no value, and stands inside no other mode. LABEL stands nowhere.
abbrev pub stands_by : Mode-F Places → Places
stands_by Mode-F.Byte = all_if true
stands_by Mode-F.Int = all_if true
stands_by Mode-F.Frac = all_if true
stands_by Mode-F.Label = all_if false
stands_by (Mode-F.Ref m) = all_if m.inner
stands_by (Mode-F.RefArray m) = all_if m.inner
stands_by (Mode-F.Array n m) = record { item = m.inner; inner = false; value = false }
stands_by (Mode-F.Record r) = record { item = true; inner = true; value = false }
stands_by (Mode-F.Proc ps r) = all_if (all_values ps && answer_value r)

unfoldable pub stands : Mode → Places
stands = fold-Mode Places stands_by

abbrev pub IsItem : Mode → Type 0
IsItem m = (stands m).item ≡ true

abbrev pub IsValue : Mode → Type 0
IsValue m = (stands m).value ≡ true

-- ---- what names stand for

-- What a name stands for is there in the tree, and has the mode. Of ERL, which is item 0 of the task's own data, nothing is
-- asked, since no expression may use it.
abbrev pub IsThere : Scope → Meaning → Type 0
IsThere c (meaning.Proc b m) = (proc_mode c.bricks b ≡ Some m) × IsValue m
IsThere c (meaning.Item b i m) = (item_found c.bricks b i ≡ Some (Shared m)) × IsItem m
IsThere c (meaning.SvcItem b i m) = (item_found c.bricks b i ≡ Some (Private m)) × IsItem m
IsThere c (meaning.Svc k m) = k ≢ 0 → (svc_mode c k ≡ Some m) × IsItem m
IsThere c (meaning.Local k m) = (slice_get c.locals k ≡ Some (local.Variable m)) × IsValue m
IsThere c (meaning.Loop k) = slice_get c.locals k ≡ Some local.Loop
IsThere c _ = Unit {0}

abbrev pub HasItems : RecordDef → Type 0
HasItems d = AllByRecursion (λ (f : Field). IsItem f.mode) d.fields

-- The names and the tree agree.
pub record Agree (s : Sight) (c : Scope) : Type 0 where
  pub records : s.records ≡ c.records
  pub fields : (r : ℕ) (d : RecordDef) → slice_get c.records r ≡ Some d → HasItems d
  pub strings : length s.strings ≡ c.strings
  pub names : (name : List ℕ) (is : Meaning) → find s name ≡ Some is → IsThere c is
