-- The strings of the starts of data rise.
use Rattle.std.proofs.Common.{◌≡◌, ℕ, zero, suc, ◌<◌, List, [], ◌∷◌, map, Option, refl, arith}
use Rattle.rt_grammar.specs.declared.at.At.{At}
use Rattle.rt_grammar.specs.declared.at.Ident.{Ident}
use Rattle.rt_grammar.specs.Parts.{Part, either, optional, push, turns}
use Rattle.rt_syntax_exprs.specs.declared.limits.Context.{Context}
use Rattle.rt_bricks.specs.declared.tree.DataItem.{DataItem}
use Rattle.rt_bricks.specs.declared.tree.DataLine.{DataLine}
use Rattle.rt_bricks.specs.declared.tree.Parenthesized.{Parenthesized}
use Rattle.rt_bricks.specs.declared.tree.Selector.{Selector}
use Rattle.rt_bricks.specs.declared.tree.Sign.{Sign}
use Rattle.rt_bricks.specs.declared.tree.Start.{Start, out-Start}
use Rattle.rt_bricks.specs.declared.tree.Start as starts
use Rattle.rt_bricks.specs.declared.tree.Start.TheFolds.{fold_out-Start}
use Rattle.rt_bricks.specs.declared.tree.Start.TheOpen.{Start-F}
use Rattle.rt_bricks.specs.declared.tree.Start.TheVariants as s
use Rattle.rt_bricks.specs.Declarations as line
use Rattle.rt_bricks.specs.Starts as start_line
use Rattle.rt_syntax.specs.Strings.{Texts, one, all}
use Rattle.rt_bricks_laws.proofs.Parts.{Counts, done, one_item, thn as counts_then, or_else as counts_or, maybe as counts_maybe, turned as counts_turned, opened, a_mark, a_number, a_place, an_ident}
use Rattle.rt_bricks_laws.proofs.Modes.{written_counts}
use Rattle.rt_bricks_laws.specs.Strings.{in_start, in_any, in_items, in_lines}
use Rattle.rt_bricks_laws.proofs.Strings.{Strung, it, not, thn, behind, or_else, maybe, turned, a_string}
use Rattle.rt_bricks_laws.proofs.StringExpressions.{all_push}

-- ---- those of each

start_number : (sign : Option Sign) (n : ℕ) (copies : Option Parenthesized) (at : At) (found : Texts) → in_start (s.Number sign n copies at) found ≡ found
start_number sign n copies at found = let o : out-Start (s.Number sign n copies at) ≡ Start-F.Number sign n copies at = search starts.the_lemmas in rw (fold_out-Start, o) refl

start_text : (bytes : List ℕ) (at : At) (found : Texts) → in_start (s.Text bytes at) found ≡ one at.item bytes found
start_text bytes at found = let o : out-Start (s.Text bytes at) ≡ Start-F.Text bytes at = search starts.the_lemmas in rw (fold_out-Start, o) refl

start_place : (n : Ident) (all : List Selector) (found : Texts) → in_start (s.Place n all) found ≡ found
start_place n all found = let o : out-Start (s.Place n all) ≡ Start-F.Place n all = search starts.the_lemmas in rw (fold_out-Start, o) refl

start_list : (ss : List Start) (copies : Option Parenthesized) (at : At) (found : Texts) → in_start (s.List ss copies at) found ≡ all (map in_start ss) found
start_list ss copies at found = let o : out-Start (s.List ss copies at) ≡ Start-F.List ss copies at = search starts.the_lemmas in rw (fold_out-Start, o) refl

items_push : (ls : List DataItem) (l : DataItem) (found : Texts) → in_items (push ls l) found ≡ in_any l.start (in_items ls found)
items_push [] l found = refl
items_push (k ∷ ks) l found = items_push ks l (in_any k.start found)

lines_push : (ls : List DataLine) (l : DataLine) (found : Texts) → in_lines (push ls l) found ≡ in_items l.items (in_lines ls found)
lines_push [] l found = refl
lines_push (k ∷ ks) l found = lines_push ks l (in_items k.items found)

-- ---- the lines

parenthesized_counts : (c : Context) (levels : ℕ) → Counts 0 (start_line.parenthesized c levels) (λ _. 0)
parenthesized_counts c levels = counts_then (a_place c.total) (λ at. counts_then (opened levels (a_mark _)) (λ _. counts_then a_number (λ n. counts_then (a_mark _) (λ _. done (omega arith)))))

copies_count : (c : Context) (levels : ℕ) → Counts 0 (optional (start_line.parenthesized c levels)) (λ _. 0)
copies_count c levels = counts_maybe (parenthesized_counts c levels) (λ p. omega arith) (omega arith)

selectors_count : (c : Context) (levels : ℕ) → Counts 0 (either (start_line.dot c) (start_line.subscript c levels)) (λ _. 0)
selectors_count c levels = counts_or (counts_then (a_place c.total) (λ at. counts_then (a_mark _) (λ _. counts_then (an_ident c.total) (λ n. done (omega arith))))) (counts_then (parenthesized_counts c levels) (λ n. done (omega arith)))

module _ (c : Context) (few : c.total < 65536) where
  numeral_rises : (levels : ℕ) (found : Texts) → Strung c.total (start_line.numeral c levels) found (λ x. in_start x found)
  numeral_rises levels found = behind (a_place c.total) (λ at. behind (counts_maybe {g = λ _. 0} one_item (λ x. omega arith) (omega arith)) (λ sign. behind a_number (λ n. behind (copies_count c levels) (λ copies.
      it (start_number sign n copies at found)))))

  string_rises : (found : Texts) → Strung c.total (start_line.string c) found (λ x. in_start x found)
  string_rises found = a_string (λ bytes at. s.Text bytes at) (λ x. in_start x found) few (λ bytes at. start_text bytes at found)

  place_rises : (levels : ℕ) (found : Texts) → Strung c.total (start_line.place c levels) found (λ x. in_start x found)
  place_rises levels found = behind (an_ident c.total) (λ n. behind (counts_turned push _ (λ _. 0) (λ _. 0) (selectors_count c levels) (λ a b. omega arith) (omega arith)) (λ all. it (start_place n all found)))

  module _ (levels : ℕ) (inner : Part Start) (h : (found : Texts) → Strung c.total inner found (λ x. in_start x found)) where
    listed_rise : (found : Texts) → Strung c.total (start_line.listed c levels inner) found (λ ss. all (map in_start ss) found)
    listed_rise found = thn (h found) (λ first. turned c.total push _ (λ ss. all (map in_start ss) found) in_start (λ so_far. behind (a_mark _) (λ _. h so_far)) (λ ss x. all_push in_start ss x found) refl)

    list_rises : (found : Texts) → Strung c.total (start_line.list c levels inner) found (λ x. in_start x found)
    list_rises found = behind (a_place c.total) (λ at. behind (opened levels (a_mark _)) (λ _. thn (listed_rise found) (λ ss. behind (a_mark _) (λ _. behind (copies_count c levels) (λ copies. it (start_list ss copies at found))))))

    start_rises : (found : Texts) → Strung c.total (start_line.start_of c levels inner) found (λ x. in_start x found)
    start_rises found = or_else (place_rises levels found) (or_else (string_rises found) (or_else (list_rises found) (numeral_rises levels found)))

  inside_rises : (levels : ℕ) (found : Texts) → Strung c.total (start_line.inside c levels) found (λ x. in_start x found)
  unfolding start_line.inside
  inside_rises zero found = not
  inside_rises (suc levels) found = start_rises levels (start_line.inside c levels) (inside_rises levels) found

  whole_start_rises : (found : Texts) → Strung c.total (start_line.start c) found (λ x. in_start x found)
  whole_start_rises found = start_rises c.limits.parentheses (start_line.inside c c.limits.parentheses) (inside_rises c.limits.parentheses) found

  item_rises : (found : Texts) → Strung c.total (line.data_item c) found (λ i. in_any i.start found)
  item_rises found = behind (an_ident c.total) (λ n. thn {f = λ o. in_any o found} (maybe (behind (a_mark _) (λ _. whole_start_rises found)) (λ x. refl) refl) (λ st. it refl))

  items_rise : (found : Texts) → Strung c.total (line.data_items c) found (λ all. in_items all found)
  items_rise found = thn (item_rises found) (λ first. turned c.total push _ (λ is. in_items is found) (λ i so_far. in_any i.start so_far) (λ so_far. behind (a_mark _) (λ _. item_rises so_far)) (λ is i. items_push is i found) refl)

  pub line_rises : (found : Texts) → Strung c.total (line.data_line c) found (λ l. in_items l.items found)
  line_rises found = behind (a_place c.total) (λ at. behind (written_counts c c.limits.modes c.limits.parentheses) (λ md. thn (items_rise found) (λ all. behind (a_mark _) (λ _. it refl))))

  pub lines_rise : (found : Texts) → Strung c.total (turns push [] (line.data_line c)) found (λ ls. in_lines ls found)
  lines_rise found = turned c.total push _ (λ ls. in_lines ls found) (λ l so_far. in_items l.items so_far) line_rises (λ ls l. lines_push ls l found) refl
