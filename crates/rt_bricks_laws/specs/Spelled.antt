-- How the names of a text are spelled.
use Rattle.std.specs.Prelude.{◌≡◌, ◌≢◌, ℕ, true, List, [], Ok}
use Rattle.std.specs.List.{AllByRecursion}
use Rattle.rt_pieces.specs.declared.item.Item.{Item}
use Rattle.rt_pieces.specs.declared.item.ItemKind.{ItemKind}
use Rattle.rt_pieces.specs.declared.item.ItemKind.TheVariants as kind
use Rattle.rt_items.specs.Lets.{Items}
use Rattle.rt_modes.specs.ModeWords.{Other, is_word, word}

-- The bytes are digits and letters, at least one, and are none of the words of modes.
pub record IsSpelledName (s : List ℕ) : Type 0 where
  pub is_name : is_word s ≡ true
  pub other : word s ≡ Other
  pub some : s ≢ []

-- a name is spelled so, and of anything else nothing is asked
abbrev pub KindSpelled : ItemKind → Type 0
KindSpelled (kind.Name s) = IsSpelledName s
KindSpelled _ = Unit {0}

abbrev pub IsSpelled : Item → Type 0
IsSpelled i = KindSpelled i.kind

-- Each item of a text is well spelled.
abbrev pub NamesAreWords : Type 0
NamesAreWords = (bytes : List ℕ) (items : List Item) → Items bytes (Ok items) → AllByRecursion IsSpelled items
