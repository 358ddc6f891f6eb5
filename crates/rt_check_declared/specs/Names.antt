-- The names that a module declares, in one scope: MODE names, bricks, and the items of its data bricks.
use Rattle.std.specs.Prelude.{ℕ, ◌+◌, Bool, true, false, if◌then◌else◌, List, [], ◌∷◌, ◌++◌, length, Option, Some, None}
use Rattle.std.specs.Str.{bytes_eq}
use Rattle.rt_grammar.specs.declared.at.At.{At}
use Rattle.rt_grammar.specs.declared.at.Ident.{Ident}
use Rattle.rt_bricks.specs.declared.tree.DataItem.{DataItem}
use Rattle.rt_bricks.specs.declared.tree.DataLine.{DataLine}
use Rattle.rt_bricks.specs.declared.tree.Declaration.{Declaration}
use Rattle.rt_bricks.specs.declared.tree.Declaration.TheVariants as declares
use Rattle.rt_bricks.specs.declared.tree.Fields.{Fields}
use Rattle.rt_check_faults.specs.declared.fault.CheckFault.{CheckFault}
use Rattle.rt_check_faults.specs.declared.fault.CheckFault.TheVariants as fault
use Rattle.rt_check_declared.specs.declared.names.Declared.{Declared}
use Rattle.rt_check_declared.specs.declared.names.Declared.TheVariants as what

-- a name, where it stands, and what it declares
pub record Named : Type 0 where
  pub name : List ℕ
  pub at : At
  pub is : Declared

abbrev pub named : Ident → Declared → Named
named i d = record { name = i.name; at = i.at; is = d }

-- ---- the names in their order

-- items of brick b, from number k on
abbrev pub items_of : ℕ → ℕ → List Ident → List Named
items_of b k [] = []
items_of b k (i ∷ rest) = named i (what.Item b k) ∷ items_of b (k + 1) rest

abbrev pub idents : List DataItem → List Ident
idents [] = []
idents (i ∷ rest) = i.name ∷ idents rest

-- the items of an imported data brick
abbrev pub fields_names : ℕ → ℕ → List Fields → List Named
fields_names b k [] = []
fields_names b k (f ∷ fs) = items_of b k f.names ++ fields_names b (k + length f.names) fs

-- the items of a data brick of the module
abbrev pub lines_names : ℕ → ℕ → List DataLine → List Named
lines_names b k [] = []
lines_names b k (l ∷ ls) = items_of b k (idents l.items) ++ lines_names b (k + length l.items) ls

-- bricks from number b on
abbrev pub bricks_of : ℕ → List Ident → List Named
bricks_of b [] = []
bricks_of b (i ∷ rest) = named i (what.Brick b) ∷ bricks_of (b + 1) rest

-- how many bricks a declaration declares, and how many records
abbrev pub bricks_in : Declaration → ℕ
bricks_in (declares.Record r) = 0
bricks_in (declares.ImportedProcedures p) = length p.names
bricks_in (declares.ImportedStacks s) = length s.names
bricks_in _ = 1

abbrev pub records_in : Declaration → ℕ
records_in (declares.Record r) = 1
records_in _ = 0

-- the names of a declaration before which r records and b bricks are declared
abbrev pub names_in : ℕ → ℕ → Declaration → List Named
names_in r b (declares.Record m) = named m.name (what.Record r) ∷ []
names_in r b (declares.Data d) = named d.name (what.Brick b) ∷ lines_names b 0 d.lines
names_in r b (declares.Stack s) = named s.name (what.Brick b) ∷ []
names_in r b (declares.Procedure p) = named p.name (what.Brick b) ∷ []
names_in r b (declares.ImportedProcedures p) = bricks_of b p.names
names_in r b (declares.ImportedData d) = named d.name (what.Brick b) ∷ fields_names b 0 d.lines
names_in r b (declares.ImportedStacks s) = bricks_of b s.names

abbrev pub names_from : ℕ → ℕ → List Declaration → List Named
names_from r b [] = []
names_from r b (d ∷ ds) = names_in r b d ++ names_from (r + records_in d) (b + bricks_in d) ds

-- all names of a module, in their order
abbrev pub names : List Declaration → List Named
names ds = names_from 0 0 ds

-- ---- one scope

-- What names stand for, in the order of declaration.
abbrev pub Known : Type 0
Known = List (List ℕ × Declared)

-- what a name stands for
unfoldable pub find : Known → List ℕ → Option Declared
find [] n = None
find (k ∷ ks) n = if bytes_eq n k.0 then Some k.1 else find ks n

abbrev pub is_there : {A : Type 0} → Option A → Bool
is_there None = false
is_there (Some x) = true

-- whether a name is among those that stand before it
abbrev pub is_second : Known → Named → Bool
is_second known m = is_there (find known m.name)

abbrev pub with_name : Known → Named → Known
with_name known m = if is_second known m then known else known ++ (m.name, m.is) ∷ []

-- The first of each name counts.
unfoldable pub counting : Known → List Named → Known
counting known [] = known
counting known (m ∷ ms) = counting (with_name known m) ms

-- the faults of all others, each at its name
unfoldable pub twice : Known → List Named → List CheckFault
twice known [] = []
twice known (m ∷ ms) = if is_second known m then fault.DeclaredTwice m.at ∷ twice known ms else twice (with_name known m) ms

-- the scope of a module, and the faults of its names
abbrev pub scope : List Declaration → Known
scope ds = counting [] (names ds)

abbrev pub name_faults : List Declaration → List CheckFault
name_faults ds = twice [] (names ds)

-- The names of a record's fields are a scope of their own: the faults of the second of two fields of one name.
abbrev pub second_fields : List Fields → List CheckFault
second_fields fs = twice [] (fields_names 0 0 fs)
