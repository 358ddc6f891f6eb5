-- How large the items of a text may be.
use Rattle.std.specs.Prelude.{ℕ, ◌<◌, ◌≤◌, List, length, Ok}
use Rattle.std.specs.List.{AllByRecursion}
use Rattle.rt_pieces.specs.declared.item.Item.{Item}
use Rattle.rt_pieces.specs.declared.item.ItemKind.{ItemKind}
use Rattle.rt_pieces.specs.declared.item.ItemKind.TheVariants as kind
use Rattle.rt_items.specs.Lets.{Items}

abbrev pub IsByte : ℕ → Type 0
IsByte b = b < 256

-- A name has at most 32 bytes, a number 16 bits, and a string at most 8,191 bytes; each byte has 8 bits.
abbrev pub KindInRange : ItemKind → Type 0
KindInRange (kind.Name s) = (length s ≤ 32) × AllByRecursion IsByte s
KindInRange (kind.Number n) = n < 65536
KindInRange (kind.Text s) = (length s ≤ 8191) × AllByRecursion IsByte s
KindInRange _ = Unit {0}

abbrev pub InRange : Item → Type 0
InRange i = KindInRange i.kind

abbrev pub ItemsAreInRange : Type 0
ItemsAreInRange = (bytes : List ℕ) (items : List Item) → AllByRecursion IsByte bytes → Items bytes (Ok items) → AllByRecursion InRange items
