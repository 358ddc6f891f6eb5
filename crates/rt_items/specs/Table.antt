-- The table of LET texts as a function of the name.
use Rattle.std.specs.Prelude.{◌≡◌, ℕ, if◌then◌else◌, List, Option, Some, None}
use Rattle.std.specs.Str.{bytes_eq}
use Rattle.std.specs.Option.{option_map}
use Rattle.std.specs.Global.{Vec}
use Rattle.std.specs.Ordering.{nat_cmp}
use Rattle.std.specs.Cmp.Lexicographic.{slice_cmp}
use Rattle.std.specs.Map.{lookup}
use Rattle.std.specs.BTreeMap.{is_at}
use Rattle.rt_items.specs.Texts.{Lets}
use Rattle.rt_items.specs.Ropes.{Kinds, text_at, IsRoot}

-- the texts, which of them each LET name in force stands for, and the text of the LET that is being read
pub record Known : Type 0 where
  pub names : List (Vec ℕ × Option ℕ)
  pub texts : List Kinds
  pub text : Kinds

-- what stands at the name
abbrev pub name_in : List (Vec ℕ × Option ℕ) → List ℕ → Option (Option ℕ)
name_in names name = lookup (is_at (λ (k : Vec ℕ). slice_cmp nat_cmp name k.items)) names

-- the same with one name more
abbrev pub with_root : List ℕ → Option ℕ → List (Vec ℕ × Option ℕ) → List ℕ → Option (Option ℕ)
with_root key root names name = if bytes_eq name key then Some root else name_in names name

-- the text that the name stands for
abbrev pub lets_of : Known → Lets
lets_of table name = option_map (text_at table.texts) (name_in table.names name)

-- each name stands for no text, or for one that is not empty
abbrev pub IsNamed : List Kinds → Option (Option ℕ) → Type 0
IsNamed texts None = Unit {0}
IsNamed texts (Some root) = IsRoot texts root

-- the LET names in force are the same
abbrev pub SameLets : Known → Known → Type 0
SameLets old new = (q : List ℕ) → lets_of new q ≡ lets_of old q
