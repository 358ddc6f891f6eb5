-- The parser of each line of starts is right for its line.
use Rattle.std.proofs.Common.{◌≡◌, ◌≢◌, ℕ, zero, suc, if◌then◌else◌, List, [], ◌∷◌, ◌⊎◌, refl, arith}
use Rattle.rt_pieces.specs.declared.item.Item.{Item}
use Rattle.rt_pieces.specs.declared.item.Mark.TheVariants as m
use Rattle.rt_pieces.specs.declared.item.Word.TheVariants as w
use Rattle.rt_grammar.specs.declared.next.Next.{Next}
use Rattle.rt_grammar.specs.declared.next.Next.TheVariants as next
use Rattle.rt_grammar.specs.Parts.{Part, next_of}
use Rattle.rt_grammar.specs.Parts as part
use Rattle.rt_grammar.specs.Parsing.{Parser, in_table, same_mark, is_mark, is_name, is_text}
use Rattle.rt_grammar.specs.Parsing as parse
use Rattle.rt_grammar.proofs.Numbers.{next_no, Goes, In, in_range, range_goes, table_true, mark_goes, name_goes, text_goes}
use Rattle.rt_grammar.proofs.Good.{Good, weaken, seq, good_equal, good_nothing, good_never, good_here, good_within}
use Rattle.rt_grammar.proofs.OneItem.{good_mark, good_number, good_text, good_ident, good_listed_in}
use Rattle.rt_grammar.proofs.Choices.{good_turns, good_choose, good_optional, good_after_mark}
use Rattle.rt_syntax_exprs.specs.declared.limits.Context.{Context}
use Rattle.rt_syntax_exprs.proofs.ExpressionLines.{NoLink, link_goes}
use Rattle.rt_bricks.specs.declared.tree.Start.{Start}
use Rattle.rt_bricks.specs.Tables.{sign_of}
use Rattle.rt_bricks.specs.Starts as line
use Rattle.rt_bricks.specs.StartParser as reads

-- a start begins with ( , a name, a number, a string, or a sign
abbrev pub First : ℕ → Type 0
First c = In 11 14 c ⊎ In 22 23 c

sign_same : (n : Next) → in_table sign_of n ≡ in_range 22 23 (next_no n)
unfolding sign_of
sign_same (next.Mark m.Plus) = refl
sign_same (next.Word w.Abs) = refl
sign_same _ = refl

sign_goes : (n : Next) → Goes (in_table sign_of) (In 22 23) n
sign_goes = range_goes (in_table sign_of) 22 23 sign_same

-- ---- the lines

good_parenthesized : (c : Context) (levels : ℕ) → Good (reads.parenthesized c levels) (line.parenthesized c levels) (λ n. n ≡ 11) (λ _. Unit {0}) ⊥
unfolding reads.parenthesized
good_parenthesized c levels = weaken (λ n. n ≡ 11) (λ _. Unit {0}) ⊥
    (seq (good_here c.total) (λ at. seq (good_within levels (good_mark m.Open)) (λ _. seq good_number (λ n. seq (good_mark m.Close) (λ _. good_nothing _) (λ n h. tt)) (λ n h. tt)) (λ n h. tt)) (λ n h. tt))
    (λ n h. grind arith) (λ n h. grind arith) (λ h. h.1.0)

good_copies : (c : Context) (levels : ℕ) → Good (reads.any_copies c levels) (part.optional (line.parenthesized c levels)) (λ n. n ≡ 11) (λ n. n ≢ 11) (Unit {0})
unfolding reads.any_copies
good_copies c levels = weaken (λ n. n ≡ 11) (λ n. n ≢ 11) (Unit {0}) (good_optional (is_mark m.Open) (good_parenthesized c levels) (mark_goes m.Open)) (λ n h. h) (λ n h. (tt, h)) (λ h. h)

good_sign : Good reads.any_sign (part.optional (part.listed_in sign_of)) (In 22 23) (λ n. In 22 23 n → ⊥) (Unit {0})
unfolding reads.any_sign
good_sign = weaken (In 22 23) (λ n. In 22 23 n → ⊥) (Unit {0})
    (good_optional (in_table sign_of) (good_listed_in sign_of (In 22 23) (table_true sign_of (In 22 23) sign_goes)) sign_goes)
    (λ n h. h) (λ n h. (tt, h)) (λ h. h)

good_numeral : (c : Context) (levels : ℕ) → Good (reads.numeral c levels) (line.numeral c levels) (λ n. (n ≡ 13) ⊎ In 22 23 n) NoLink ⊥
unfolding reads.numeral
good_numeral c levels = weaken (λ n. (n ≡ 13) ⊎ In 22 23 n) NoLink ⊥
    (seq (good_here c.total) (λ at. seq good_sign (λ sign. seq good_number (λ n. seq (good_copies c levels) (λ copies. good_nothing _) (λ n h. absurd h)) (λ n h. tt)) (λ n h. grind arith)) (λ n h. tt))
    (λ n h. grind arith) (λ n h. grind arith) (λ h. h.1.1.0)

good_string : (c : Context) → Good (reads.string c) (line.string c) (λ n. n ≡ 14) (λ _. Unit {0}) ⊥
unfolding reads.string
good_string c = weaken (λ n. n ≡ 14) (λ _. Unit {0}) ⊥
    (seq (good_here c.total) (λ at. seq good_text (λ bytes. good_nothing _) (λ n h. tt)) (λ n h. tt))
    (λ n h. grind arith) (λ n h. grind arith) (λ h. h.1.0)

good_dot : (c : Context) → Good (reads.dot c) (line.dot c) (λ n. n ≡ 10) (λ _. Unit {0}) ⊥
unfolding reads.dot
good_dot c = weaken (λ n. n ≡ 10) (λ _. Unit {0}) ⊥
    (seq (good_here c.total) (λ at. seq (good_mark m.Dot) (λ _. seq (good_ident c.total) (λ n. good_nothing _) (λ n h. tt)) (λ n h. tt)) (λ n h. tt))
    (λ n h. grind arith) (λ n h. grind arith) (λ h. h.1.0)

good_subscript : (c : Context) (levels : ℕ) → Good (reads.subscript c levels) (line.subscript c levels) (λ n. n ≡ 11) (λ _. Unit {0}) ⊥
unfolding reads.subscript
good_subscript c levels = weaken (λ n. n ≡ 11) (λ _. Unit {0}) ⊥ (seq (good_parenthesized c levels) (λ n. good_nothing _) (λ n h. tt)) (λ n h. grind arith) (λ n h. grind arith) (λ h. h.0)

selector_by_dot : (c : Context) (levels : ℕ) (n : Next) (l : List Item) → reads.selector_by c levels n l ≡ (if is_mark m.Dot n then reads.dot c l else reads.subscript c levels l)
unfolding same_mark
selector_by_dot c levels (next.Mark m.Dot) l = refl
selector_by_dot c levels (next.Word w.Abs) l = refl
selector_by_dot c levels _ l = refl

good_selector : (c : Context) (levels : ℕ) → Good (reads.selector_of c levels) (part.either (line.dot c) (line.subscript c levels)) (In 10 11) (λ _. Unit {0}) ⊥
unfolding reads.selector_of
good_selector c levels = weaken (In 10 11) (λ _. Unit {0}) ⊥
    (good_equal (λ l. selector_by_dot c levels (next_of l) l) (good_choose (is_mark m.Dot) (good_dot c) (good_subscript c levels) (mark_goes m.Dot) (λ n h k. grind arith)))
    (λ n h. grind arith) (λ n h. (tt, tt, λ e. absurd e)) (λ h. h)

good_selectors : (c : Context) (levels : ℕ) → Good (reads.selectors c levels) (part.turns part.push [] (part.either (line.dot c) (line.subscript c levels))) (In 10 11) NoLink (Unit {0})
unfolding reads.selectors
good_selectors c levels = weaken (In 10 11) NoLink (Unit {0})
    (good_turns _ part.push _ _ _ _ (good_selector c levels) (λ l. link_goes (next_of l)) (λ n h. tt) (λ h. grind arith) [])
    (λ n h. h) (λ n h. (tt, λ k. grind arith)) (λ h. h)

good_place : (c : Context) (levels : ℕ) → Good (reads.place c levels) (line.place c levels) (λ n. n ≡ 12) NoLink ⊥
unfolding reads.place
good_place c levels = weaken (λ n. n ≡ 12) NoLink ⊥
    (seq (good_ident c.total) (λ n. seq (good_selectors c levels) (λ all. good_nothing _) (λ n h. absurd h)) (λ n h. tt))
    (λ n h. grind arith) (λ n h. grind arith) (λ h. h.0)

module _ (c : Context) (levels : ℕ) (p : Parser Start) (P : Part Start) (g : Good p P First NoLink ⊥) where
  good_next_start : Good (reads.next_start c levels p) (part.◌>>=◌ (part.mark m.Comma) (λ _. P)) (λ n. n ≡ 9) NoLink ⊥
  unfolding reads.next_start
  good_next_start = good_after_mark m.Comma g

  good_listed : Good (reads.listed c levels p) (line.listed c levels P) First (λ n. NoLink n × (n ≢ 9)) ⊥
  unfolding reads.listed
  good_listed = weaken First (λ n. NoLink n × (n ≢ 9)) ⊥
      (seq g (λ first. good_turns (parse.mark_comes m.Comma) part.push _ _ _ _ good_next_start (λ l. mark_goes m.Comma (next_of l)) (λ n h. grind arith) (λ h. omega arith) (first ∷ [])) (λ n h. grind arith))
      (λ n h. grind arith) (λ n h. grind arith) (λ h. h.0)

  good_list : Good (reads.list c levels p) (line.list c levels P) (λ n. n ≡ 11) NoLink ⊥
  unfolding reads.list
  good_list = weaken (λ n. n ≡ 11) NoLink ⊥
      (seq (good_here c.total) (λ at. seq (good_within levels (good_mark m.Open)) (λ _. seq good_listed (λ all. seq (good_mark m.Close) (λ _. seq (good_copies c levels) (λ copies. good_nothing _) (λ n h. absurd h)) (λ n h. tt)) (λ n h. grind arith)) (λ n h. tt)) (λ n h. tt))
      (λ n h. grind arith) (λ n h. grind arith) (λ h. h.1.0)

  -- the choices of a start, one by one
  abbrev start_tests : Next → List Item → parse.Outcome Start
  start_tests n l = if is_name n then reads.place c levels l else (if is_text n then reads.string c l else (if is_mark m.Open n then reads.list c levels p l else reads.numeral c levels l))

  start_by_tests : (n : Next) (l : List Item) → reads.start_by c levels p n l ≡ start_tests n l
  unfolding same_mark
  start_by_tests next.Name l = refl
  start_by_tests next.Text l = refl
  start_by_tests (next.Mark m.Open) l = refl
  start_by_tests (next.Word w.Abs) l = refl
  start_by_tests _ l = refl

  good_start_of : Good (reads.start_of c levels p) (line.start_of c levels P) First NoLink ⊥
  unfolding reads.start_of
  good_start_of = weaken First NoLink ⊥
      (good_equal (λ l. start_by_tests (next_of l) l)
      (good_choose is_name (good_place c levels)
      (good_choose is_text (good_string c)
      (good_choose (is_mark m.Open) good_list (good_numeral c levels) (mark_goes m.Open) (λ n h k. grind arith))
      text_goes (λ n h k. grind arith))
      name_goes (λ n h k. grind arith)))
      (λ n h. grind arith) (λ n h. (h, (tt, (h, h, λ e. absurd e), λ e. absurd e), λ e. absurd e)) (λ h. h)

good_inside : (c : Context) (levels : ℕ) → Good (reads.inside c levels) (line.inside c levels) First NoLink ⊥
unfolding reads.inside line.inside
good_inside c zero = weaken First NoLink ⊥ good_never (λ n h. absurd h) (λ n h. tt) (λ h. h)
good_inside c (suc levels) = good_start_of c levels (reads.inside c levels) (line.inside c levels) (good_inside c levels)

pub good_start : (c : Context) → Good (reads.start c) (line.start c) First NoLink ⊥
unfolding reads.start
good_start c = good_start_of c c.limits.parentheses (reads.inside c c.limits.parentheses) (line.inside c c.limits.parentheses) (good_inside c c.limits.parentheses)
