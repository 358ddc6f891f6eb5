-- The strings in a start.
use Rattle.std.proofs.Common.{◌≡◌, ℕ, ◌<◌, ◌==◌, true, List, [], ◌∷◌, Option, Some, None, length, map, arith, refl, sym, ap, ◌∙◌, subst}
use Rattle.std.specs.Prelude.{nat_lt, nat_le, position}
use Rattle.std.specs.List.{AllByRecursion}
use Rattle.std.proofs.lemmas.Bool.Decides.{nat_tests}
use Rattle.std.proofs.lemmas.List.Quantifiers.{position-Some}
use Rattle.rt_bricks.specs.declared.tree.DataItem.{DataItem}
use Rattle.rt_bricks.specs.declared.tree.DataLine.{DataLine}
use Rattle.rt_bricks.specs.declared.tree.Start.{Start, out-Start, roll-Start, map-Start, the_lemmas}
use Rattle.rt_bricks.specs.declared.tree.Start.TheFolds.{ind-Start, fold_out-Start}
use Rattle.rt_bricks.specs.declared.tree.Start.TheOpen.{Start-F}
use Rattle.rt_modes.specs.declared.mode.Mode.{Mode, out-Mode}
use Rattle.rt_modes.specs.declared.mode.Mode.TheOpen.{Mode-F}
use Rattle.rt_tree_nodes.specs.declared.brick.DataStart.TheVariants as start
use Rattle.rt_tree_nodes.specs.Scopes.{Scope}
use Rattle.rt_items.specs.Ranges.{IsByte}
use Rattle.rt_syntax.specs.Strings.{Texts, Finds, all}
use Rattle.rt_bricks_laws.specs.Strings.{start_finds, in_start, in_any, in_items, in_lines}
use Rattle.rt_check_module.specs.Starts.{number_by, number_of}
use Rattle.rt_check_module.specs.Strings.{is_in, texts_layer, texts}
use Rattle.rt_tree.specs.Modules.{number_starts, starts, all_start}
use Rattle.rt_check_module_laws.specs.Starts.{AreBytes}
use Rattle.rt_check_module_laws.proofs.Tests.{all_left, both}
use Rattle.rt_check_module_laws.proofs.Layers.{a_number}

-- ---- the bytes of an array

byte_starts : (b : ℕ) → IsByte b → nat_le b 255 ≡ true
byte_starts b h = grind (arith, nat_tests)

pub bytes_start : (c : Scope) (bytes : List ℕ) (e : Mode) → out-Mode e ≡ Mode-F.Byte → AllByRecursion IsByte bytes → all_start (map (starts c) (map (λ b. start.Number b) bytes)) e ≡ true
bytes_start c [] e o h = refl
bytes_start c (b ∷ bs) e o h = both (starts c (start.Number b) e) _ (a_number c b e ∙ ap (number_starts b) o ∙ byte_starts b h.0) (bytes_start c bs e o h.1)

-- ---- the number of a string of the module

some_there : (keys : List ℕ) (k : ℕ) → is_in keys k ≡ true → 0 < length keys
some_there [] k e = absurd cc
some_there (x ∷ xs) k e = omega arith

tested : (a b : ℕ) → a < b → nat_lt a b ≡ true
tested a b l = grind (arith, nat_tests)

number_below : (keys : List ℕ) (k : ℕ) (o : Option ℕ) → position (λ x. x == k) keys ≡ o → 0 < length keys → nat_lt (number_by o) (length keys) ≡ true
number_below keys k None e l = tested 0 (length keys) l
number_below keys k (Some i) e l = tested i (length keys) (position-Some (λ x. x == k) keys i 0 e).0

pub number_there : (keys : List ℕ) (k : ℕ) → is_in keys k ≡ true → nat_lt (number_of keys k) (length keys) ≡ true
number_there keys k h = number_below keys k (position (λ x. x == k) keys) refl (some_there keys k h)

-- ---- the strings of a start, in its parts

pub found_at : (x : Start) (l : Start-F Start) → out-Start x ≡ l → in_start x ≡ start_finds (map-Start Start Finds in_start l)
found_at x l o = rw (fold_out-Start, o) refl

pub texts_at : (items : List ℕ) (x : Start) (l : Start-F Start) → out-Start x ≡ l → texts items x ≡ texts_layer items (map-Start Start Texts (texts items) l)
texts_at items x l o = rw (fold_out-Start, o) refl

out_roll : (l : Start-F Start) → out-Start (roll-Start l) ≡ l
out_roll l = search the_lemmas

abbrev Keeps : Start → Type 0
Keeps x = (found : Texts) → AreBytes (in_start x found) → AreBytes found

abbrev Pair : Type 0
Pair = (x : Start) × Keeps x

pairs_keep : (ps : List Pair) (found : Texts) → AreBytes (all (map in_start (map (λ p. p.0) ps)) found) → AreBytes found
pairs_keep [] found h = h
pairs_keep (p ∷ ps) found h = p.1 found (pairs_keep ps (in_start p.0 found) h)

opened : (x : Start) (y : Start-F Pair) → out-Start x ≡ map-Start Pair Start (λ p. p.0) y → Keeps x
opened x (Start-F.Number sign n copies at) o found h = subst (λ (f : Finds). AreBytes (f found)) (found_at x (Start-F.Number sign n copies at) o) h
opened x (Start-F.Text bytes at) o found h =
    all_left (λ (t : ℕ × List ℕ). AllByRecursion IsByte t.1) found ((at.item, bytes) ∷ []) (subst (λ (f : Finds). AreBytes (f found)) (found_at x (Start-F.Text bytes at) o) h)
opened x (Start-F.Place i ss) o found h = subst (λ (f : Finds). AreBytes (f found)) (found_at x (Start-F.Place i ss) o) h
opened x (Start-F.List ps copies at) o found h = pairs_keep ps found (subst (λ (f : Finds). AreBytes (f found)) (found_at x (Start-F.List (map (λ p. p.0) ps) copies at) o) h)

-- what is found in a start stands behind what was found before
pub start_keeps : (x : Start) → Keeps x
start_keeps = ind-Start Keeps (λ x y is. opened (roll-Start x) y (out_roll x ∙ sym is))

pub all_keep : (xs : List Start) (found : Texts) → AreBytes (all (map in_start xs) found) → AreBytes found
all_keep [] found h = h
all_keep (x ∷ xs) found h = start_keeps x found (all_keep xs (in_start x found) h)

any_keeps : (o : Option Start) (found : Texts) → AreBytes (in_any o found) → AreBytes found
any_keeps None found h = h
any_keeps (Some x) found h = start_keeps x found h

pub items_keep : (is : List DataItem) (found : Texts) → AreBytes (in_items is found) → AreBytes found
items_keep [] found h = h
items_keep (i ∷ is) found h = any_keeps i.start found (items_keep is (in_any i.start found) h)

pub lines_keep : (ls : List DataLine) (found : Texts) → AreBytes (in_lines ls found) → AreBytes found
lines_keep [] found h = h
lines_keep (l ∷ ls) found h = items_keep l.items found (lines_keep ls (in_items l.items found) h)
