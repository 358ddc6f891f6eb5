-- The parser of each line of expressions and conditions is right for its line.
use Rattle.std.proofs.Common.{◌≡◌, ◌≢◌, ℕ, zero, suc, ◌<◌, ◌≤◌, if◌then◌else◌, List, [], ◌∷◌, ◌⊎◌, refl, arith}
use Rattle.rt_pieces.specs.declared.item.Item.{Item}
use Rattle.rt_pieces.specs.declared.item.Mark.TheVariants as m
use Rattle.rt_pieces.specs.declared.item.Word.TheVariants as w
use Rattle.rt_grammar.specs.declared.next.Next.{Next}
use Rattle.rt_grammar.specs.declared.next.Next.TheVariants as next
use Rattle.rt_grammar.specs.Parts.{Part, next_of}
use Rattle.rt_grammar.specs.Parts as part
use Rattle.rt_grammar.specs.Parsing.{Parser, in_table, same_mark, same_word, is_mark, is_word, is_name, is_number, is_text}
use Rattle.rt_grammar.specs.Parsing as parse
use Rattle.rt_grammar.proofs.Numbers.{next_no, Goes, In, in_range, range_goes, table_true, mark_goes, word_goes, name_goes, number_goes, text_goes}
use Rattle.rt_grammar.proofs.Good.{Good, weaken, seq, good_equal, good_nothing, good_never, good_here, good_within}
use Rattle.rt_grammar.proofs.OneItem.{good_mark, good_word, good_number, good_text, good_ident, good_listed_in}
use Rattle.rt_grammar.proofs.Choices.{good_turns, good_choose, good_after_mark, good_after_word}
use Rattle.rt_grammar.proofs.Wider.{good_counted}
use Rattle.rt_syntax_exprs.specs.declared.limits.Context.{Context}
use Rattle.rt_syntax_exprs.specs.declared.table.Level.{Level}
use Rattle.rt_syntax_exprs.specs.declared.table.Level.TheVariants as level
use Rattle.rt_syntax_exprs.specs.declared.tree.Expr.{Expr}
use Rattle.rt_syntax_exprs.specs.Tables.{monadic_of, shift_of, product_of, land_of, sum_of, dyadic_of, relation_of, is_link, begins_expression}
use Rattle.rt_syntax_exprs.specs.Expressions as line
use Rattle.rt_syntax_exprs.specs.ExpressionParser as reads

-- an expression begins with ( to -
abbrev pub First : ℕ → Type 0
First = In 11 23

-- what follows a chain: no link
abbrev pub NoLink : ℕ → Type 0
NoLink c = (c < 10) ⊎ (12 ≤ c)

-- what follows operands of a level: no link, no operator from k on
abbrev pub Below : ℕ → ℕ → Type 0
Below k c = (c < 10) ⊎ (((12 ≤ c) × (c < k)) ⊎ (34 ≤ c))

-- what follows an expression
abbrev pub After : ℕ → Type 0
After c = (c < 10) ⊎ (34 ≤ c)

-- ---- tables by numbers

monadic_same : (n : Next) → in_table monadic_of n ≡ in_range 16 23 (next_no n)
unfolding monadic_of
monadic_same (next.Mark m.Plus) = refl
monadic_same (next.Word w.Abs) = refl
monadic_same _ = refl

pub monadic_goes : (n : Next) → Goes (in_table monadic_of) (In 16 23) n
monadic_goes = range_goes (in_table monadic_of) 16 23 monadic_same

-- the first and the last number of a level's operators
abbrev pub low : Level → ℕ
low level.Shift = 30
low level.Product = 27
low level.Land = 26
low level.Sum = 22

abbrev pub high : Level → ℕ
high level.Shift = 33
high level.Product = 29
high level.Land = 26
high level.Sum = 25

shift_same : (n : Next) → in_table shift_of n ≡ in_range 30 33 (next_no n)
unfolding shift_of
shift_same (next.Mark m.Plus) = refl
shift_same (next.Word w.Abs) = refl
shift_same _ = refl

product_same : (n : Next) → in_table product_of n ≡ in_range 27 29 (next_no n)
unfolding product_of
product_same (next.Mark m.Plus) = refl
product_same (next.Word w.Abs) = refl
product_same _ = refl

land_same : (n : Next) → in_table land_of n ≡ in_range 26 26 (next_no n)
unfolding land_of
land_same (next.Mark m.Plus) = refl
land_same (next.Word w.Abs) = refl
land_same _ = refl

sum_same : (n : Next) → in_table sum_of n ≡ in_range 22 25 (next_no n)
unfolding sum_of
sum_same (next.Mark m.Plus) = refl
sum_same (next.Word w.Abs) = refl
sum_same _ = refl

pub dyadic_goes : (lv : Level) (n : Next) → Goes (in_table (dyadic_of lv)) (In (low lv) (high lv)) n
unfolding dyadic_of
dyadic_goes level.Shift = range_goes (in_table shift_of) 30 33 shift_same
dyadic_goes level.Product = range_goes (in_table product_of) 27 29 product_same
dyadic_goes level.Land = range_goes (in_table land_of) 26 26 land_same
dyadic_goes level.Sum = range_goes (in_table sum_of) 22 25 sum_same

relation_same : (n : Next) → in_table relation_of n ≡ in_range 40 47 (next_no n)
unfolding relation_of
relation_same (next.Mark m.Plus) = refl
relation_same (next.Word w.Abs) = refl
relation_same _ = refl

relation_goes : (n : Next) → Goes (in_table relation_of) (In 40 47) n
relation_goes = range_goes (in_table relation_of) 40 47 relation_same

link_same : (n : Next) → is_link n ≡ in_range 10 11 (next_no n)
unfolding is_link
link_same (next.Mark m.Plus) = refl
link_same (next.Word w.Abs) = refl
link_same _ = refl

pub link_goes : (n : Next) → Goes is_link (In 10 11) n
link_goes = range_goes is_link 10 11 link_same

expression_same : (n : Next) → begins_expression n ≡ in_range 11 23 (next_no n)
unfolding begins_expression
expression_same (next.Mark m.Plus) = refl
expression_same (next.Word w.Abs) = refl
expression_same _ = refl

pub expression_goes : (n : Next) → Goes begins_expression First n
expression_goes = range_goes begins_expression 11 23 expression_same

-- ---- the lines

good_literal : (c : Context) → Good (reads.literal c) (line.literal c) (λ n. n ≡ 13) (λ _. Unit {0}) ⊥
unfolding reads.literal
good_literal c = weaken (λ n. n ≡ 13) (λ _. Unit {0}) ⊥
    (seq (good_here c.total) (λ at. seq good_number (λ n. good_nothing _) (λ n h. tt)) (λ n h. tt))
    (λ n h. grind arith) (λ n h. grind arith) (λ h. h.1.0)

good_string : (c : Context) → Good (reads.string c) (line.string c) (λ n. n ≡ 14) (λ _. Unit {0}) ⊥
unfolding reads.string
good_string c = weaken (λ n. n ≡ 14) (λ _. Unit {0}) ⊥
    (seq (good_here c.total) (λ at. seq good_text (λ n. good_nothing _) (λ n h. tt)) (λ n h. tt))
    (λ n h. grind arith) (λ n h. grind arith) (λ h. h.1.0)

good_dot : (c : Context) → Good (reads.dot c) (line.dot c) (λ n. n ≡ 10) (λ _. Unit {0}) ⊥
unfolding reads.dot
good_dot c = weaken (λ n. n ≡ 10) (λ _. Unit {0}) ⊥
    (seq (good_here c.total) (λ at. seq (good_mark m.Dot) (λ _. seq (good_ident c.total) (λ n. good_nothing _) (λ n h. tt)) (λ n h. tt)) (λ n h. tt))
    (λ n h. grind arith) (λ n h. grind arith) (λ h. h.1.0)

good_operator : (c : Context) → Good (reads.operator c) (line.operator c) (In 16 23) (λ _. Unit {0}) ⊥
unfolding reads.operator
good_operator c = weaken (In 16 23) (λ _. Unit {0}) ⊥
    (seq (good_here c.total) (λ at. seq (good_listed_in monadic_of (In 16 23) (table_true monadic_of (In 16 23) monadic_goes)) (λ op. good_nothing _) (λ n h. tt)) (λ n h. tt))
    (λ n h. grind arith) (λ n h. grind arith) (λ h. h.1.0)

good_operators : (c : Context) → Good (reads.operators c) (part.turns part.push [] (line.operator c)) (In 16 23) (λ n. In 16 23 n → ⊥) (Unit {0})
unfolding reads.operators
good_operators c = weaken (In 16 23) (λ n. In 16 23 n → ⊥) (Unit {0})
    (good_turns reads.operator_comes part.push _ _ _ _ (good_operator c) (λ l. monadic_goes (next_of l)) (λ n h. tt) (λ h. grind arith) [])
    (λ n h. h) (λ n h. (tt, h)) (λ h. h)

module _ (c : Context) (levels : ℕ) (p : Parser Expr) (P : Part Expr) (g : Good p P First After ⊥) where
  good_another : Good (reads.another c levels p) (part.◌>>=◌ (part.mark m.Comma) (λ _. P)) (λ n. n ≡ 9) After ⊥
  unfolding reads.another
  good_another = good_after_mark m.Comma g

  good_listed : Good (reads.listed c levels p) (line.listed c levels P) First (λ n. After n × (n ≢ 9)) ⊥
  unfolding reads.listed
  good_listed = weaken First (λ n. After n × (n ≢ 9)) ⊥
      (seq g (λ first. good_turns (parse.mark_comes m.Comma) part.push _ _ _ _ good_another (λ l. mark_goes m.Comma (next_of l)) (λ n h. grind arith) (λ h. omega arith) (first ∷ [])) (λ n h. grind arith))
      (λ n h. grind arith) (λ n h. grind arith) (λ h. h.0)

  good_arguments : Good (reads.arguments c levels p) (part.either (line.listed c levels P) (part.nothing [])) First (λ n. After n × (n ≢ 9)) (Unit {0})
  unfolding reads.arguments
  good_arguments = weaken First (λ n. After n × (n ≢ 9)) (Unit {0})
      (good_choose begins_expression good_listed (good_nothing []) expression_goes (λ n h k. k))
      (λ n h. grind arith) (λ n h. (h, tt, λ _ k. grind arith)) (λ h. h)

  good_apply : Good (reads.apply c levels p) (line.apply c levels P) (λ n. n ≡ 11) (λ _. Unit {0}) ⊥
  unfolding reads.apply
  good_apply = weaken (λ n. n ≡ 11) (λ _. Unit {0}) ⊥
      (seq (good_here c.total) (λ at. seq (good_within levels (good_mark m.Open)) (λ _. seq good_arguments (λ es. seq (good_mark m.Close) (λ _. good_nothing _) (λ n h. tt)) (λ n h. grind arith)) (λ n h. tt)) (λ n h. tt))
      (λ n h. grind arith) (λ n h. grind arith) (λ h. h.1.0)

  link_by_dot : (n : Next) (l : List Item) → reads.link_by c levels p n l ≡ (if is_mark m.Dot n then reads.dot c l else reads.apply c levels p l)
  unfolding same_mark
  link_by_dot (next.Mark m.Dot) l = refl
  link_by_dot (next.Word w.Abs) l = refl
  link_by_dot _ l = refl

  good_link : Good (reads.link_of c levels p) (part.either (line.dot c) (line.apply c levels P)) (In 10 11) (λ _. Unit {0}) ⊥
  unfolding reads.link_of
  good_link = weaken (In 10 11) (λ _. Unit {0}) ⊥
      (good_equal (λ l. link_by_dot (next_of l) l) (good_choose (is_mark m.Dot) (good_dot c) good_apply (mark_goes m.Dot) (λ n h k. grind arith)))
      (λ n h. grind arith) (λ n h. (tt, tt, λ e. absurd e)) (λ h. h)

  pub good_chain : Good (reads.chain c levels p) (line.chain c levels P) (λ n. n ≡ 12) NoLink ⊥
  unfolding reads.chain
  good_chain = weaken (λ n. n ≡ 12) NoLink ⊥
      (seq (good_ident c.total) (λ n. seq (good_turns reads.link_comes part.push _ _ _ _ good_link (λ l. link_goes (next_of l)) (λ n h. tt) (λ h. grind arith) []) (λ links. good_nothing _) (λ n h. absurd h)) (λ n h. tt))
      (λ n h. grind arith) (λ n h. grind arith) (λ h. h.0)

  good_chained : Good (reads.chained c levels p) (line.chained c levels P) (λ n. n ≡ 12) NoLink ⊥
  unfolding reads.chained
  good_chained = weaken (λ n. n ≡ 12) NoLink ⊥ (seq good_chain (λ n. good_nothing _) (λ n h. absurd h)) (λ n h. grind arith) (λ n h. grind arith) (λ h. h.0)

  good_valued : Good (reads.valued c levels p) (line.valued c levels P) (λ n. n ≡ 15) NoLink ⊥
  unfolding reads.valued
  good_valued = weaken (λ n. n ≡ 15) NoLink ⊥
      (seq (good_here c.total) (λ at. seq (good_word w.Val) (λ _. seq good_chain (λ found. good_nothing _) (λ n h. absurd h)) (λ n h. tt)) (λ n h. tt))
      (λ n h. grind arith) (λ n h. grind arith) (λ h. h.1.0)

  good_parenthesized : Good (reads.parenthesized c levels p) (line.parenthesized c levels P) (λ n. n ≡ 11) (λ _. Unit {0}) ⊥
  unfolding reads.parenthesized
  good_parenthesized = weaken (λ n. n ≡ 11) (λ _. Unit {0}) ⊥
      (seq (good_within levels (good_mark m.Open)) (λ _. seq g (λ a. seq (good_mark m.Close) (λ _. good_nothing _) (λ n h. tt)) (λ n h. grind arith)) (λ n h. tt))
      (λ n h. grind arith) (λ n h. grind arith) (λ h. h.0)

  -- the choices of an operand, one by one
  abbrev operand_tests : Next → List Item → parse.Outcome Expr
  operand_tests n l = if is_name n then reads.chained c levels p l else (if is_number n then reads.literal c l else (if is_text n then reads.string c l else (if is_word w.Val n then reads.valued c levels p l else reads.parenthesized c levels p l)))

  operand_by_tests : (n : Next) (l : List Item) → reads.operand_by c levels p n l ≡ operand_tests n l
  unfolding same_word
  operand_by_tests next.Name l = refl
  operand_by_tests next.Number l = refl
  operand_by_tests next.Text l = refl
  operand_by_tests (next.Word w.Val) l = refl
  operand_by_tests (next.Mark m.Dot) l = refl
  operand_by_tests _ l = refl

  good_operand : Good (reads.operand c levels p) (line.operand c levels P) (In 11 15) NoLink ⊥
  unfolding reads.operand
  good_operand = weaken (In 11 15) NoLink ⊥
      (good_equal (λ l. operand_by_tests (next_of l) l)
      (good_choose is_name good_chained
      (good_choose is_number (good_literal c)
      (good_choose is_text (good_string c)
      (good_choose (is_word w.Val) good_valued good_parenthesized (word_goes w.Val) (λ n h k. grind arith))
      text_goes (λ n h k. grind arith))
      number_goes (λ n h k. grind arith))
      name_goes (λ n h k. grind arith)))
      (λ n h. grind arith) (λ n h. (h, (tt, (tt, (h, tt, λ e. absurd e), λ e. absurd e), λ e. absurd e), λ e. absurd e)) (λ h. h)

  good_primary : Good (reads.primary c levels p) (line.primary c levels P) First NoLink ⊥
  unfolding reads.primary
  good_primary = weaken First NoLink ⊥
      (seq (good_operators c) (λ ops. seq good_operand (λ a. good_nothing _) (λ n h. absurd h)) (λ n h. grind arith))
      (λ n h. grind arith) (λ n h. grind arith) (λ h. h.1.0)

  -- operands with operators of one level between them, where an operand ends before the level's operators
  module _ (lv : Level) (q : Parser Expr) (Q : Part Expr) (k : ℕ) (lower : Good q Q First (Below k) ⊥) (under : high lv < k) (over : 12 ≤ low lv) where
    good_right_of : Good (reads.right_of c levels p lv q) (line.right_of c levels P lv Q) (In (low lv) (high lv)) (Below k) ⊥
    unfolding reads.right_of
    good_right_of = weaken (In (low lv) (high lv)) (Below k) ⊥
        (seq (good_listed_in (dyadic_of lv) (In (low lv) (high lv)) (table_true (dyadic_of lv) (In (low lv) (high lv)) (dyadic_goes lv))) (λ op. seq lower (λ b. good_nothing _) (λ n h. absurd h)) (λ n h. tt))
        (λ n h. grind arith) (λ n h. grind arith) (λ h. h.0)

    good_dyadics : Good (reads.dyadics c levels p lv q) (line.dyadics c levels P lv Q) First (λ n. Below k n × (In (low lv) (high lv) n → ⊥)) ⊥
    unfolding reads.dyadics
    good_dyadics = weaken First (λ n. Below k n × (In (low lv) (high lv) n → ⊥)) ⊥
        (seq (good_here c.total) (λ at. seq lower (λ a. good_turns (reads.dyadic_comes lv) _ _ _ _ _ good_right_of (λ l. dyadic_goes lv (next_of l)) (λ n h. grind arith) (λ h. grind arith) a) (λ n h. grind arith)) (λ n h. tt))
        (λ n h. grind arith) (λ n h. grind arith) (λ h. h.1.0)

  good_shifts : Good (reads.below c levels p level.Product) (line.shifts c levels P) First (Below 30) ⊥
  good_shifts = weaken First (Below 30) ⊥
      (good_dyadics level.Shift (reads.primary c levels p) (line.primary c levels P) 34 (weaken First (Below 34) ⊥ good_primary (λ n h. h) (λ n h. grind arith) (λ h. h)) (omega arith) (omega arith))
      (λ n h. h) (λ n h. grind arith) (λ h. h)

  good_products : Good (reads.below c levels p level.Land) (line.products c levels P) First (Below 27) ⊥
  good_products = weaken First (Below 27) ⊥
      (good_dyadics level.Product (reads.below c levels p level.Product) (line.shifts c levels P) 30 good_shifts (omega arith) (omega arith))
      (λ n h. h) (λ n h. grind arith) (λ h. h)

  good_lands : Good (reads.below c levels p level.Sum) (line.lands c levels P) First (Below 26) ⊥
  good_lands = weaken First (Below 26) ⊥
      (good_dyadics level.Land (reads.below c levels p level.Land) (line.products c levels P) 27 good_products (omega arith) (omega arith))
      (λ n h. h) (λ n h. grind arith) (λ h. h)

  pub good_sums : Good (reads.sums c levels p) (line.sums c levels P) First After ⊥
  good_sums = weaken First After ⊥
      (good_dyadics level.Sum (reads.below c levels p level.Sum) (line.lands c levels P) 26 good_lands (omega arith) (omega arith))
      (λ n h. h) (λ n h. grind arith) (λ h. h)

pub good_inside : (c : Context) (levels : ℕ) → Good (reads.inside c levels) (line.inside c levels) First After ⊥
unfolding reads.inside line.inside
good_inside c zero = weaken First After ⊥ good_never (λ n h. absurd h) (λ n h. tt) (λ h. h)
good_inside c (suc levels) = good_counted c.limits.items _ _ First After ⊥ (good_sums c levels (reads.inside c levels) (line.inside c levels) (good_inside c levels))

pub good_expression : (c : Context) → Good (reads.expression c) (line.expression c) First After ⊥
unfolding reads.expression reads.nested
good_expression c = good_counted c.limits.items _ _ First After ⊥
    (good_sums c c.limits.parentheses (reads.inside c c.limits.parentheses) (line.inside c c.limits.parentheses) (good_inside c c.limits.parentheses))

pub good_place : (c : Context) → Good (reads.place c) (line.place c) (λ n. n ≡ 12) NoLink ⊥
unfolding reads.place
good_place c = good_chain c c.limits.parentheses (reads.inside c c.limits.parentheses) (line.inside c c.limits.parentheses) (good_inside c c.limits.parentheses)

-- ---- conditions

good_comparison : (c : Context) → Good (reads.comparison c) (line.comparison c) First After ⊥
unfolding reads.comparison
good_comparison c = weaken First After ⊥
    (seq (good_here c.total) (λ at. seq (good_expression c) (λ a. seq (good_listed_in relation_of (In 40 47) (table_true relation_of (In 40 47) relation_goes)) (λ r. seq (good_expression c) (λ b. good_nothing _) (λ n h. absurd h)) (λ n h. tt)) (λ n h. grind arith)) (λ n h. tt))
    (λ n h. grind arith) (λ n h. grind arith) (λ h. h.1.0)

-- what follows a list of comparisons, and one of conjunctions
abbrev AfterAnd : ℕ → Type 0
AfterAnd c = After c × (c ≢ 74)

abbrev pub AfterOr : ℕ → Type 0
AfterOr c = After c × (c ≢ 74) × (c ≢ 75)

good_and_comparison : (c : Context) → Good (reads.and_comparison c) (line.and_comparison c) (λ n. n ≡ 74) After ⊥
unfolding reads.and_comparison
good_and_comparison c = good_after_word w.And (good_comparison c)

good_conjunction : (c : Context) → Good (reads.conjunction c) (line.conjunction c) First AfterAnd ⊥
unfolding reads.conjunction reads.conjunction_from
good_conjunction c = weaken First AfterAnd ⊥
    (seq (good_here c.total) (λ at. seq (good_comparison c) (λ first. good_choose (is_word w.And)
    (weaken (λ n. n ≡ 74) AfterAnd ⊥
    (seq (good_and_comparison c) (λ second. seq
    (good_turns (parse.word_comes w.And) part.push _ _ _ _ (good_and_comparison c) (λ l. word_goes w.And (next_of l)) (λ n h. grind arith) (λ h. omega arith) (first ∷ second ∷ []))
    (λ all. good_nothing _) (λ n h. absurd h)) (λ n h. grind arith))
    (λ n h. grind arith) (λ n h. grind arith) (λ h. h.0))
    (good_nothing first) (word_goes w.And) (λ n h k. k)) (λ n h. grind arith)) (λ n h. tt))
    (λ n h. grind arith) (λ n h. grind arith) (λ h. h.1.0)

good_or_conjunction : (c : Context) → Good (reads.or_conjunction c) (line.or_conjunction c) (λ n. n ≡ 75) AfterAnd ⊥
unfolding reads.or_conjunction
good_or_conjunction c = good_after_word w.Or (good_conjunction c)

pub good_condition : (c : Context) → Good (reads.condition c) (line.condition c) First AfterOr ⊥
unfolding reads.condition reads.condition_from
good_condition c = weaken First AfterOr ⊥
    (seq (good_here c.total) (λ at. seq (good_conjunction c) (λ first. good_choose (is_word w.Or)
    (weaken (λ n. n ≡ 75) AfterOr ⊥
    (seq (good_or_conjunction c) (λ second. seq
    (good_turns (parse.word_comes w.Or) part.push _ _ _ _ (good_or_conjunction c) (λ l. word_goes w.Or (next_of l)) (λ n h. grind arith) (λ h. omega arith) (first ∷ second ∷ []))
    (λ all. good_nothing _) (λ n h. absurd h)) (λ n h. grind arith))
    (λ n h. grind arith) (λ n h. grind arith) (λ h. h.0))
    (good_nothing first) (word_goes w.Or) (λ n h k. k)) (λ n h. grind arith)) (λ n h. tt))
    (λ n h. grind arith) (λ n h. grind arith) (λ h. h.1.0)
