-- The strings of starts that are strings of the module.
use Rattle.std.specs.Prelude.{◌≡◌, ℕ, ◌==◌, ◌||◌, Bool, false, if◌then◌else◌, List, [], ◌∷◌, ◌++◌, Option, Some, None, drop, length}
use Rattle.rt_bricks.specs.declared.tree.DataItem.{DataItem}
use Rattle.rt_bricks.specs.declared.tree.DataLine.{DataLine}
use Rattle.rt_bricks.specs.declared.tree.Start.{Start}
use Rattle.rt_bricks.specs.declared.tree.Start.TheFolds.{fold-Start}
use Rattle.rt_bricks.specs.declared.tree.Start.TheOpen.{Start-F}
use Rattle.rt_check_declared.specs.declared.parts.Given.{Given}
use Rattle.rt_check_declared.specs.declared.parts.Given.TheVariants as given
use Rattle.rt_check_declared.specs.declared.parts.Part.{Part}
use Rattle.rt_modes.specs.declared.mode.Mode.{Mode}
use Rattle.rt_modes.specs.declared.mode.RecordDef.{RecordDef}
use Rattle.rt_syntax.specs.Strings.{Texts}
use Rattle.rt_check_module.specs.Starts.{written}

-- The items of the strings in a start that are strings of the module, where a mode is wanted. They don't depend on names, nor on
-- the numbers of strings.
abbrev pub used : List RecordDef → Start → Mode → List ℕ
used records s m = (written records (λ n. None) [] s).used m

abbrev pub is_in : List ℕ → ℕ → Bool
is_in [] k = false
is_in (x ∷ xs) k = x == k || is_in xs k

abbrev pub all : List Texts → Texts
all [] = []
all (t ∷ ts) = t ++ all ts

-- the same items, in whatever order
abbrev pub HasSame : List ℕ → List ℕ → Type 0
HasSame xs ys = (k : ℕ) → is_in xs k ≡ is_in ys k

-- one more item
abbrev pub HasOneMore : List ℕ → List ℕ → ℕ → Type 0
HasOneMore more xs x = (k : ℕ) → is_in more k ≡ is_in xs k || x == k

-- the strings in a start that begin at some items, each once, in the order of their items
abbrev pub texts_layer : List ℕ → Start-F Texts → Texts
texts_layer items (Start-F.Text t at) = if is_in items at.item then (at.item, t) ∷ [] else []
texts_layer items (Start-F.List ts c at) = all ts
texts_layer items _ = []

abbrev pub texts : List ℕ → Start → Texts
texts items = fold-Start Texts (texts_layer items)

module _ (records : List RecordDef) where
  abbrev pub start_texts : Option Start → Given → Texts
  start_texts (Some s) (given.Mode m) = texts (used records s m) s
  start_texts _ _ = []

  abbrev pub items_texts : List DataItem → List Part → Texts
  items_texts [] ps = []
  items_texts (i ∷ is) [] = []
  items_texts (i ∷ is) (p ∷ ps) = start_texts i.start p.has ++ items_texts is ps

  -- of the items of a data brick, with what they are declared with
  abbrev pub brick_texts : List DataLine → List Part → Texts
  brick_texts [] ps = []
  brick_texts (l ∷ ls) ps = items_texts l.items ps ++ brick_texts ls (drop (length l.items) ps)
