-- The strings of a module are some of all that stand in it, so they rise.
use Rattle.std.proofs.Common.{◌≡◌, ℕ, Bool, true, false, List, [], ◌∷◌, ◌++◌, length, map, drop, Option, Some, None, if◌then◌else◌, sym, ap, ◌∙◌, subst}
use Rattle.std.specs.List.{AllByRecursion}
use Rattle.rt_bricks.specs.declared.tree.DataItem.{DataItem}
use Rattle.rt_bricks.specs.declared.tree.DataLine.{DataLine}
use Rattle.rt_bricks.specs.declared.tree.Declaration.{Declaration}
use Rattle.rt_bricks.specs.declared.tree.Declaration.TheVariants as declares
use Rattle.rt_bricks.specs.declared.tree.Module.{Module}
use Rattle.rt_bricks.specs.declared.tree.Start.{Start, out-Start, roll-Start, map-Start}
use Rattle.rt_bricks.specs.declared.tree.Start as start_lemmas
use Rattle.rt_bricks.specs.declared.tree.Start.TheFolds.{ind-Start}
use Rattle.rt_bricks.specs.declared.tree.Start.TheOpen.{Start-F}
use Rattle.rt_check_declared.specs.declared.bricks.Heading.{Heading}
use Rattle.rt_check_declared.specs.declared.parts.Given.{Given}
use Rattle.rt_check_declared.specs.declared.parts.Given.TheVariants as given
use Rattle.rt_check_declared.specs.declared.parts.Part.{Part}
use Rattle.rt_modes.specs.declared.mode.RecordDef.{RecordDef}
use Rattle.rt_pieces.specs.declared.item.Item.{Item}
use Rattle.rt_check_declared.specs.Names.{bricks_in}
use Rattle.rt_check_module.specs.Strings.{used, is_in, texts, start_texts, items_texts, brick_texts}
use Rattle.rt_check_module.specs.Strings.{all as all_texts}
use Rattle.rt_check_module_laws.proofs.StartTexts.{found_at, texts_at}
use Rattle.rt_syntax.specs.Strings.{Texts, Finds, all, in_body}
use Rattle.rt_bricks_laws.specs.Strings.{in_start, in_any, in_items, in_lines, in_declaration, in_declarations, AreSome, none, taken, left, Rise}
use Rattle.rt_bricks_laws.proofs.Strings.{some_strings_rise}
use Rattle.rt_bricks_laws.proofs.StringBricks.{strings_rise}
use Rattle.rt_check_module_laws.specs.Modules.{IsText}
use Rattle.rt_check_module_laws.proofs.Adding.{Adds, add_all, body_adds, start_adds, items_add, data_lines_add}
use Rattle.rt_check_module.specs.Tree.{first, items_in, texts_in, texts_from}

none_of : (ys : Texts) → AreSome [] ys
none_of [] = none
none_of (y ∷ ys) = left (none_of ys)

some_joined : {xs ys vs ws : Texts} → AreSome xs ys → AreSome vs ws → AreSome (xs ++ vs) (ys ++ ws)
some_joined none b = b
some_joined (taken a) b = taken (some_joined a b)
some_joined (left a) b = left (some_joined a b)

-- what is found stands behind what was found before
apart : (f : Finds) (found : Texts) → Adds f → f found ≡ found ++ f []
apart f found a = a.is found ∙ ap (λ (ts : Texts). found ++ ts) (sym (a.is []))

some_then : (f : Finds) (xs vs found : Texts) → Adds f → AreSome xs found → AreSome vs (f []) → AreSome (xs ++ vs) (f found)
some_then f xs vs found a s t = subst (AreSome (xs ++ vs)) (sym (apart f found a)) (some_joined s t)

-- ---- starts

module _ (keys : List ℕ) where
  abbrev Chosen : Start → Type 0
  Chosen x = AreSome (texts keys x) (in_start x [])

  abbrev Pair : Type 0
  Pair = (x : Start) × Chosen x

  finds_add : (ps : List Pair) → AllByRecursion Adds (map in_start (map (λ (e : Pair). e.0) ps))
  finds_add [] = tt
  finds_add (p ∷ ps) = (start_adds p.0, finds_add ps)

  all_chosen : (ps : List Pair) → AreSome (all_texts (map (texts keys) (map (λ (e : Pair). e.0) ps))) (all (map in_start (map (λ (e : Pair). e.0) ps)) [])
  all_chosen [] = none
  all_chosen (p ∷ ps) =
      some_then (all (map in_start (map (λ (e : Pair). e.0) ps))) (texts keys p.0) (all_texts (map (texts keys) (map (λ (e : Pair). e.0) ps))) (in_start p.0 []) (add_all (map in_start (map (λ (e : Pair). e.0) ps)) (finds_add ps)) p.1 (all_chosen ps)

  chosen_as : (x : Start) (ts : Texts) (f : Finds) → texts keys x ≡ ts → in_start x ≡ f → AreSome ts (f []) → Chosen x
  chosen_as x ts f e g s = subst (λ (h : Finds). AreSome (texts keys x) (h [])) (sym g) (subst (λ (us : Texts). AreSome us (f [])) (sym e) s)

  one_by : (item : ℕ) (bytes : List ℕ) (t : Bool) → AreSome (if t then (item, bytes) ∷ [] else []) ((item, bytes) ∷ [])
  one_by item bytes true = taken none
  one_by item bytes false = left none

  opened : (x : Start) (y : Start-F Pair) → out-Start x ≡ map-Start Pair Start (λ (e : Pair). e.0) y → Chosen x
  opened x (Start-F.Number sign n copies at) o = chosen_as x [] _ (texts_at keys x (Start-F.Number sign n copies at) o) (found_at x (Start-F.Number sign n copies at) o) none
  opened x (Start-F.Text bytes at) o = chosen_as x _ _ (texts_at keys x (Start-F.Text bytes at) o) (found_at x (Start-F.Text bytes at) o) (one_by at.item bytes (is_in keys at.item))
  opened x (Start-F.Place i ss) o = chosen_as x [] _ (texts_at keys x (Start-F.Place i ss) o) (found_at x (Start-F.Place i ss) o) none
  opened x (Start-F.List ps copies at) o =
      chosen_as x _ _ (texts_at keys x (Start-F.List (map (λ (e : Pair). e.0) ps) copies at) o) (found_at x (Start-F.List (map (λ (e : Pair). e.0) ps) copies at) o) (all_chosen ps)

  rolled : (x : Start-F Start) → out-Start (roll-Start x) ≡ x
  rolled x = search start_lemmas.the_lemmas

  start_chosen : (x : Start) → Chosen x
  start_chosen = ind-Start Chosen (λ x y is. opened (roll-Start x) y (rolled x ∙ sym is))

-- ---- data

module _ (records : List RecordDef) where
  given_chosen : (o : Option Start) (g : Given) → AreSome (start_texts records o g) (in_any o [])
  given_chosen None g = none
  given_chosen (Some x) (given.Mode m) = start_chosen (used records x m) x
  given_chosen (Some x) given.Unknown = none_of (in_start x [])

  items_chosen : (is : List DataItem) (ps : List Part) → AreSome (items_texts records is ps) (in_items is [])
  items_chosen [] ps = none
  items_chosen (i ∷ is) [] = none_of (in_items (i ∷ is) [])
  items_chosen (i ∷ is) (p ∷ ps) = some_then (in_items is) (start_texts records i.start p.has) (items_texts records is ps) (in_any i.start []) (items_add is) (given_chosen i.start p.has) (items_chosen is ps)

  lines_chosen : (ls : List DataLine) (ps : List Part) → AreSome (brick_texts records ls ps) (in_lines ls [])
  lines_chosen [] ps = none
  lines_chosen (l ∷ ls) ps =
      some_then (in_lines ls) (items_texts records l.items ps) (brick_texts records ls (drop (length l.items) ps)) (in_items l.items []) (data_lines_add ls) (items_chosen l.items ps) (lines_chosen ls (drop (length l.items) ps))

  -- ---- declarations

  body_chosen : (f : Finds) (xs found : Texts) → Adds f → AreSome xs found → AreSome (f xs) (f found)
  body_chosen f xs found a s = subst (λ (ts : Texts). AreSome ts (f found)) (sym (a.is xs)) (subst (AreSome (xs ++ a.more)) (sym (a.is found)) (some_joined s (all_of a.more))) where
    all_of : (ts : Texts) → AreSome ts ts
    all_of [] = none
    all_of (t ∷ ts) = taken (all_of ts)

  one_chosen : (h : Option Heading) (d : Declaration) (xs found : Texts) → AreSome xs found → AreSome (texts_in records h d xs) (in_declaration d found)
  one_chosen h (declares.Data d) xs found s = some_then (in_lines d.lines) xs (brick_texts records d.lines (items_in h)) found (data_lines_add d.lines) s (lines_chosen d.lines (items_in h))
  one_chosen h (declares.Procedure p) xs found s = body_chosen (in_body p.body) xs found (body_adds p.body) s
  one_chosen h (declares.Record r) xs found s = s
  one_chosen h (declares.Stack x) xs found s = s
  one_chosen h (declares.ImportedProcedures p) xs found s = s
  one_chosen h (declares.ImportedData d) xs found s = s
  one_chosen h (declares.ImportedStacks x) xs found s = s

  all_are_chosen : (xs found : Texts) (hs : List Heading) (ds : List Declaration) → AreSome xs found → AreSome (texts_from records xs hs ds) (in_declarations ds found)
  all_are_chosen xs found hs [] s = s
  all_are_chosen xs found hs (d ∷ ds) s = all_are_chosen (texts_in records (first hs) d xs) (in_declaration d found) (drop (bricks_in d) hs) ds (one_chosen (first hs) d xs found s)

  pub texts_rise : (items : List Item) (m : Module) (hs : List Heading) → IsText items m → Rise 0 (length items) (texts_from records [] hs m.declarations)
  texts_rise items m hs t = some_strings_rise 0 (length items) (texts_from records [] hs m.declarations) (in_declarations m.declarations []) (all_are_chosen [] [] hs m.declarations none) (strings_rise items m t.few t.derived)
