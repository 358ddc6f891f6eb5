-- The strings of a module, in the order of their items.
use Rattle.std.specs.Prelude.{◌≡◌, ℕ, ◌+◌, ◌<◌, ◌≤◌, List, [], ◌∷◌, length, Option, Some, None, slice_get}
use Rattle.std.specs.List.{AllByRecursion}
use Rattle.rt_pieces.specs.declared.item.Item.{Item}
use Rattle.rt_pieces.specs.declared.item.ItemKind.TheVariants as kind
use Rattle.rt_items.specs.Ranges.{IsByte, InRange}
use Rattle.rt_bricks.specs.declared.tree.DataItem.{DataItem}
use Rattle.rt_bricks.specs.declared.tree.DataLine.{DataLine}
use Rattle.rt_bricks.specs.declared.tree.Declaration.{Declaration}
use Rattle.rt_bricks.specs.declared.tree.Declaration.TheVariants as declaration
use Rattle.rt_bricks.specs.declared.tree.Module.{Module}
use Rattle.rt_bricks.specs.declared.tree.Start.{Start}
use Rattle.rt_bricks.specs.declared.tree.Start.TheFolds.{fold-Start}
use Rattle.rt_bricks.specs.declared.tree.Start.TheOpen.{Start-F}
use Rattle.rt_bricks.specs.Derives.{Derives}
use Rattle.rt_syntax.specs.Strings.{Texts, Finds, one, all, in_body}

-- ---- which they are

abbrev pub start_finds : Start-F Finds → Finds
start_finds (Start-F.Number sign n copies at) found = found
start_finds (Start-F.Text bytes at) found = one at.item bytes found
start_finds (Start-F.Place n selectors) found = found
start_finds (Start-F.List fs copies at) found = all fs found

abbrev pub in_start : Start → Finds
in_start = fold-Start Finds start_finds

abbrev pub in_any : Option Start → Finds
in_any None found = found
in_any (Some s) found = in_start s found

abbrev pub in_items : List DataItem → Finds
in_items [] found = found
in_items (i ∷ items) found = in_items items (in_any i.start found)

abbrev pub in_lines : List DataLine → Finds
in_lines [] found = found
in_lines (l ∷ ls) found = in_lines ls (in_items l.items found)

abbrev pub in_declaration : Declaration → Finds
in_declaration (declaration.Data b) found = in_lines b.lines found
in_declaration (declaration.Procedure b) found = in_body b.body found
in_declaration _ found = found

-- all strings of the bodies and of the starts of data
abbrev pub in_declarations : List Declaration → Finds
in_declarations [] found = found
in_declarations (d ∷ ds) found = in_declarations ds (in_declaration d found)

-- ---- their order

-- They stand from item low on, before item high, each behind the one before it.
abbrev pub Rise : ℕ → ℕ → Texts → Type 0
Rise low high [] = low ≤ high
Rise low high (t ∷ ts) = (low ≤ t.0) × (t.0 < high) × Rise (t.0 + 1) high ts

abbrev pub StringsRise : Type 0
StringsRise = (items : List Item) (it : Module) → length items < 65536 → Derives items it → Rise 0 (length items) (in_declarations it.declarations [])

-- ---- whose they are

-- It is the string of the item at its number.
pub record IsItemText (items : List Item) (t : ℕ × List ℕ) : Type 0 where
  pub item : Item
  pub there : slice_get items t.0 ≡ Some item
  pub is : item.kind ≡ kind.Text t.1

abbrev pub StringsAreItems : Type 0
StringsAreItems = (items : List Item) (it : Module) → length items < 65536 → Derives items it → AllByRecursion (IsItemText items) (in_declarations it.declarations [])

-- a string of at most 8,191 bytes
abbrev pub IsShortText : ℕ × List ℕ → Type 0
IsShortText t = (length t.1 ≤ 8191) × AllByRecursion IsByte t.1

-- Where each item is in range, each string is.
abbrev pub StringsAreShort : Type 0
StringsAreShort = (items : List Item) (it : Module) → length items < 65536 → AllByRecursion InRange items → Derives items it → AllByRecursion IsShortText (in_declarations it.declarations [])

-- ---- some of them

-- The first are some of the others, in the same order.
pub data AreSome : Texts → Texts → Type 0 where
  none : AreSome [] []
  taken : {t : ℕ × List ℕ} {xs ys : Texts} → AreSome xs ys → AreSome (t ∷ xs) (t ∷ ys)
  left : {t : ℕ × List ℕ} {xs ys : Texts} → AreSome xs ys → AreSome xs (t ∷ ys)

-- Some of the strings rise as well, as those without the starts of arrays of bytes do.
abbrev pub SomeRise : Type 0
SomeRise = (low high : ℕ) (xs ys : Texts) → AreSome xs ys → Rise low high ys → Rise low high xs

-- and some of those that are short are short
abbrev pub SomeAreShort : Type 0
SomeAreShort = (xs ys : Texts) → AreSome xs ys → AllByRecursion IsShortText ys → AllByRecursion IsShortText xs
