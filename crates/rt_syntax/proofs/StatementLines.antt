-- The parser of each line of statements and bodies is right for its line.
use Rattle.std.proofs.Common.{◌≡◌, ◌≢◌, ℕ, zero, suc, if◌then◌else◌, List, [], ◌∷◌, Some, ◌⊎◌, inl, inr, refl, arith}
use Rattle.rt_pieces.specs.declared.item.Item.{Item}
use Rattle.rt_pieces.specs.declared.item.ItemKind.TheVariants as kind
use Rattle.rt_pieces.specs.declared.item.Mark.TheVariants as m
use Rattle.rt_pieces.specs.declared.item.Word.TheVariants as w
use Rattle.rt_grammar.specs.declared.at.At.{At}
use Rattle.rt_grammar.specs.declared.at.Ident.{Ident}
use Rattle.rt_grammar.specs.declared.next.Next.{Next}
use Rattle.rt_grammar.specs.declared.next.Next.TheVariants as next
use Rattle.rt_grammar.specs.Parts.{Part, next_of, stop}
use Rattle.rt_grammar.specs.Parts as part
use Rattle.rt_grammar.specs.Parsing.{Parser, same_word, is_mark, is_word, is_name}
use Rattle.rt_grammar.specs.Parsing as parse
use Rattle.rt_grammar.proofs.Numbers.{next_no, Goes, In, in_range, or_in, or_tells, range_tells, told, mark_goes, word_goes, name_goes}
use Rattle.rt_grammar.proofs.Good.{Good, weaken, seq, good_equal, good_nothing, good_never, good_here, good_within}
use Rattle.rt_grammar.proofs.OneItem.{good_mark, good_word, good_ident}
use Rattle.rt_grammar.proofs.Choices.{good_choose, good_optional, good_turns, good_after_mark, good_after_word}
use Rattle.rt_grammar.proofs.Labels.{good_labelled}
use Rattle.rt_syntax_exprs.specs.declared.limits.Context.{Context}
use Rattle.rt_syntax_exprs.specs.declared.tree.Chain.{Chain, roll-Chain}
use Rattle.rt_syntax.specs.declared.tree.Simple.{Simple}
use Rattle.rt_syntax.specs.declared.tree.Simple.TheVariants as s
use Rattle.rt_syntax.specs.declared.tree.Stmt.{Stmt}
use Rattle.rt_syntax_exprs.specs.Tables.{begins_expression}
use Rattle.rt_syntax.specs.Tables.{begins_simple}
use Rattle.rt_syntax_exprs.specs.Expressions as expressions
use Rattle.rt_syntax.specs.Statements as line
use Rattle.rt_syntax.specs.StatementParser as reads
use Rattle.rt_syntax_exprs.proofs.ExpressionLines.{First, After, expression_goes, good_expression, good_place, good_condition}
use Rattle.rt_syntax_exprs.proofs.ModeLines as modes

-- ---- what begins statements, and what follows them, by numbers

abbrev pub FirstSimple : ℕ → Type 0
FirstSimple c = In 12 12 c ⊎ (In 15 15 c ⊎ In 50 57 c)

-- ; END ELSE ELSEIF REP ENDBLOCK ENDPROC
abbrev pub AfterStatement : ℕ → Type 0
AfterStatement = In 1 7

-- these, or the colon behind a name
abbrev pub AfterSimple : ℕ → Type 0
AfterSimple c = (c ≡ 35) ⊎ In 1 7 c

abbrev pub FirstSequence : ℕ → Type 0
FirstSequence c = FirstSimple c ⊎ (c ≡ 1)

abbrev pub AfterSequence : ℕ → Type 0
AfterSequence = In 2 7

simple_same : (n : Next) → begins_simple n ≡ or_in (in_range 12 12) (or_in (in_range 15 15) (in_range 50 57)) (next_no n)
unfolding begins_simple
simple_same (next.Mark m.Plus) = refl
simple_same (next.Word w.Abs) = refl
simple_same _ = refl

simple_goes : (n : Next) → Goes begins_simple FirstSimple n
simple_goes = told begins_simple _ FirstSimple (or_tells _ _ _ _ (range_tells 12 12) (or_tells _ _ _ _ (range_tells 15 15) (range_tells 50 57))) simple_same

-- ---- declarations

good_becomes : (c : Context) → Good (reads.becomes c) (line.becomes c) (λ n. n ≡ 34) After ⊥
unfolding reads.becomes
good_becomes c = good_after_mark m.Becomes (good_expression c)

good_start : (c : Context) → Good (reads.any_start c) (part.optional (line.becomes c)) (λ n. n ≡ 34) (λ n. After n × (n ≢ 34)) (Unit {0})
unfolding reads.any_start
good_start c = good_optional (is_mark m.Becomes) (good_becomes c) (mark_goes m.Becomes)

good_local : (c : Context) → Good (reads.local c) (line.local c) (λ n. n ≡ 12) (λ n. After n × (n ≢ 34)) ⊥
unfolding reads.local
good_local c = weaken (λ n. n ≡ 12) (λ n. After n × (n ≢ 34)) ⊥
    (seq (good_ident c.total) (λ n. seq (good_start c) (λ start. good_nothing _) (λ n h. absurd h)) (λ n h. tt))
    (λ n h. grind arith) (λ n h. grind arith) (λ h. h.0)

good_next_local : (c : Context) → Good (reads.next_local c) (part.◌>>=◌ (part.mark m.Comma) (λ _. line.local c)) (λ n. n ≡ 9) (λ n. After n × (n ≢ 34)) ⊥
unfolding reads.next_local
good_next_local c = good_after_mark m.Comma (good_local c)

good_local_list : (c : Context) → Good (reads.local_list c) (line.local_list c) (λ n. n ≡ 12) (λ n. n ≡ 1) ⊥
unfolding reads.local_list
good_local_list c = weaken (λ n. n ≡ 12) (λ n. n ≡ 1) ⊥
    (seq (good_local c) (λ first. good_turns (parse.mark_comes m.Comma) part.push _ _ _ _ (good_next_local c) (λ l. mark_goes m.Comma (next_of l)) (λ n h. grind arith) (λ h. omega arith) (first ∷ [])) (λ n h. grind arith))
    (λ n h. grind arith) (λ n h. grind arith) (λ h. h.0)

good_locals : (c : Context) → Good (reads.locals c) (line.locals c) modes.FirstByWord (λ _. Unit {0}) ⊥
unfolding reads.locals
good_locals c = weaken modes.FirstByWord (λ _. Unit {0}) ⊥
    (seq (good_here c.total) (λ at. seq (modes.good_mode_by_word c) (λ mode. seq (good_local_list c) (λ all. seq (good_mark m.Semicolon) (λ _. good_nothing _) (λ n h. tt)) (λ n h. grind arith)) (λ n h. grind arith)) (λ n h. tt))
    (λ n h. grind arith) (λ n h. grind arith) (λ h. h.1.0)

good_declarations : (c : Context) → Good (reads.declarations c) (part.turns part.push [] (line.locals c)) modes.FirstByWord (λ n. modes.FirstByWord n → ⊥) (Unit {0})
unfolding reads.declarations
good_declarations c = weaken modes.FirstByWord (λ n. modes.FirstByWord n → ⊥) (Unit {0})
    (good_turns reads.locals_come part.push _ _ _ _ (good_locals c) (λ l. modes.by_word_goes (next_of l)) (λ n h. tt) (λ h. grind arith) [])
    (λ n h. h) (λ n h. (tt, h)) (λ h. h)

-- ---- statements in which none stands

good_assigned : (c : Context) (at : At) (to : Chain) → Good (reads.assigned c at to) (part.◌>>=◌ (line.becomes c) (λ a. part.nothing (s.Assign to a at))) (λ n. n ≡ 34) After ⊥
unfolding reads.assigned
good_assigned c at to = weaken (λ n. n ≡ 34) After ⊥ (seq (good_becomes c) (λ a. good_nothing _) (λ n h. absurd h)) (λ n h. grind arith) (λ n h. grind arith) (λ h. h.0)

good_chained : (c : Context) → Good (reads.chained c) (line.chained c) (λ n. n ≡ 12) AfterSimple ⊥
unfolding reads.chained
good_chained c = weaken (λ n. n ≡ 12) AfterSimple ⊥
    (seq (good_here c.total) (λ at. seq (good_place c) (λ to. good_choose (is_mark m.Becomes) (good_assigned c at to) (good_nothing (s.Call to)) (mark_goes m.Becomes) (λ n h k. k)) (λ n h. grind arith)) (λ n h. tt))
    (λ n h. grind arith) (λ n h. grind arith) (λ h. h.1.0)

good_assignment_by_val : (c : Context) → Good (reads.assignment_by_val c) (line.assignment_by_val c) (λ n. n ≡ 15) AfterSimple ⊥
unfolding reads.assignment_by_val
good_assignment_by_val c = weaken (λ n. n ≡ 15) AfterSimple ⊥
    (seq (good_here c.total) (λ at. seq (good_word w.Val) (λ _. seq (good_place c) (λ to. seq (good_becomes c) (λ a. good_nothing _) (λ n h. absurd h)) (λ n h. grind arith)) (λ n h. tt)) (λ n h. tt))
    (λ n h. grind arith) (λ n h. grind arith) (λ h. h.1.0)

good_jump : (c : Context) → Good (reads.jump c) (line.jump c) (λ n. n ≡ 50) AfterSimple ⊥
unfolding reads.jump
good_jump c = weaken (λ n. n ≡ 50) AfterSimple ⊥
    (seq (good_here c.total) (λ at. seq (good_word w.Goto) (λ _. seq (good_ident c.total) (λ n. good_nothing _) (λ n h. absurd h)) (λ n h. tt)) (λ n h. tt))
    (λ n h. grind arith) (λ n h. grind arith) (λ h. h.1.0)

good_any_expression : (c : Context) → Good (reads.any_expression c) (part.optional (expressions.expression c)) First (λ n. After n × (First n → ⊥)) (Unit {0})
unfolding reads.any_expression
good_any_expression c = good_optional begins_expression (good_expression c) expression_goes

good_returned : (c : Context) → Good (reads.returned c) (line.returned c) (λ n. n ≡ 51) AfterSimple ⊥
unfolding reads.returned
good_returned c = weaken (λ n. n ≡ 51) AfterSimple ⊥
    (seq (good_here c.total) (λ at. seq (good_word w.Return) (λ _. seq (good_any_expression c) (λ a. good_nothing _) (λ n h. absurd h)) (λ n h. tt)) (λ n h. tt))
    (λ n h. grind arith) (λ n h. grind arith) (λ h. h.1.0)

good_next_name : (c : Context) → Good (reads.next_name c) (part.◌>>=◌ (part.mark m.Comma) (λ _. part.ident c.total)) (λ n. n ≡ 9) (λ _. Unit {0}) ⊥
unfolding reads.next_name
good_next_name c = good_after_mark m.Comma (good_ident c.total)

pub good_names : (c : Context) → Good (reads.names c) (line.names c) (λ n. n ≡ 12) (λ n. n ≢ 9) ⊥
unfolding reads.names
good_names c = weaken (λ n. n ≡ 12) (λ n. n ≢ 9) ⊥
    (seq (good_ident c.total) (λ first. good_turns (parse.mark_comes m.Comma) part.push _ _ _ _ (good_next_name c) (λ l. mark_goes m.Comma (next_of l)) (λ n h. tt) (λ h. omega arith) (first ∷ [])) (λ n h. tt))
    (λ n h. grind arith) (λ n h. grind arith) (λ h. h.0)

good_switch : (c : Context) → Good (reads.switch c) (line.switch c) (λ n. n ≡ 52) AfterSimple ⊥
unfolding reads.switch
good_switch c = weaken (λ n. n ≡ 52) AfterSimple ⊥
    (seq (good_here c.total) (λ at. seq (good_word w.Switch) (λ _. seq (good_expression c) (λ a. seq (good_word w.Of) (λ _. seq (good_names c) (λ ns. good_nothing _) (λ n h. absurd h)) (λ n h. tt)) (λ n h. grind arith)) (λ n h. tt)) (λ n h. tt))
    (λ n h. grind arith) (λ n h. grind arith) (λ h. h.1.0)

-- ---- the heads of loops

good_step : (c : Context) → Good (reads.any_step c) (part.optional (part.◌>>=◌ (part.word w.By) (λ _. expressions.expression c))) (λ n. n ≡ 72) (λ n. After n × (n ≢ 72)) (Unit {0})
unfolding reads.any_step
good_step c = good_optional (is_word w.By) (good_after_word w.By (good_expression c)) (word_goes w.By)

good_control : (c : Context) (levels : ℕ) → Good (reads.control c levels) (line.control c levels) (λ n. n ≡ 55) (λ n. n ≡ 56) ⊥
unfolding reads.control
good_control c levels = weaken (λ n. n ≡ 55) (λ n. n ≡ 56) ⊥
    (seq (good_here c.total) (λ at. seq (good_within levels (good_word w.For)) (λ _. seq (good_ident c.total) (λ n. seq (good_becomes c) (λ start. seq (good_step c) (λ step. good_nothing _) (λ n h. absurd h)) (λ n h. grind arith)) (λ n h. tt)) (λ n h. tt)) (λ n h. tt))
    (λ n h. grind arith) (λ n h. grind arith) (λ h. h.1.0)

good_loop_head : (c : Context) (levels : ℕ) → Good (reads.loop_head c levels) (line.loop_head c levels) (In 55 56) (λ _. Unit {0}) ⊥
unfolding reads.loop_head reads.control_head reads.to_head
good_loop_head c levels = weaken (In 55 56) (λ _. Unit {0}) ⊥
    (good_choose (is_word w.For)
    (weaken (λ n. n ≡ 55) (λ _. Unit {0}) ⊥ (seq (good_control c levels) (λ k. seq (good_word w.To) (λ _. good_nothing _) (λ n h. absurd h)) (λ n h. grind arith)) (λ n h. grind arith) (λ n h. grind arith) (λ h. h.0))
    (weaken (λ n. n ≡ 56) (λ _. Unit {0}) ⊥ (seq (good_within levels (good_word w.To)) (λ _. good_nothing _) (λ n h. absurd h)) (λ n h. grind arith) (λ n h. grind arith) (λ h. h.0))
    (word_goes w.For) (λ n h k. grind arith))
    (λ n h. grind arith) (λ n h. (tt, tt, λ e. absurd e)) (λ h. h)

-- ---- statements in which statements stand

module _ (c : Context) (levels : ℕ) (p : Parser (List Stmt)) (P : Part (List Stmt)) (g : Good p P FirstSequence AfterSequence (Unit {0})) where
  pub good_body_of : Good (reads.body_of c levels p) (line.body_of c levels P) (λ n. modes.FirstByWord n ⊎ FirstSequence n) AfterSequence (Unit {0})
  unfolding reads.body_of
  good_body_of = weaken (λ n. modes.FirstByWord n ⊎ FirstSequence n) AfterSequence (Unit {0})
      (seq (good_here c.total) (λ at. seq (good_declarations c) (λ ls. seq g (λ ss. good_nothing _) (λ n h. absurd h)) (λ n h. grind arith)) (λ n h. tt))
      (λ n h. grind arith) (λ n h. grind arith) (λ h. tt)

  good_block : Good (reads.block c levels p) (line.block c levels P) (λ n. n ≡ 53) (λ _. Unit {0}) ⊥
  unfolding reads.block
  good_block = weaken (λ n. n ≡ 53) (λ _. Unit {0}) ⊥
      (seq (good_here c.total) (λ at. seq (good_within levels (good_word w.Block)) (λ _. seq good_body_of (λ b. seq (good_word w.EndBlock) (λ _. good_nothing _) (λ n h. absurd h)) (λ n h. grind arith)) (λ n h. tt)) (λ n h. tt))
      (λ n h. grind arith) (λ n h. grind arith) (λ h. h.1.0)

  good_first_branch : Good (reads.first_branch c levels p) (line.branch c levels P (part.within levels (part.word w.If))) (λ n. n ≡ 54) AfterSequence ⊥
  unfolding reads.first_branch reads.branch_from
  good_first_branch = weaken (λ n. n ≡ 54) AfterSequence ⊥
      (seq (good_here c.total) (λ at. seq (good_within levels (good_word w.If)) (λ _. seq (good_condition c) (λ test. seq (good_word w.Then) (λ _. seq g (λ taken. good_nothing _) (λ n h. absurd h)) (λ n h. tt)) (λ n h. grind arith)) (λ n h. tt)) (λ n h. tt))
      (λ n h. grind arith) (λ n h. grind arith) (λ h. h.1.0)

  good_next_branch : Good (reads.next_branch c levels p) (line.branch c levels P (part.word w.ElseIf)) (λ n. n ≡ 4) AfterSequence ⊥
  unfolding reads.next_branch reads.branch_from
  good_next_branch = weaken (λ n. n ≡ 4) AfterSequence ⊥
      (seq (good_here c.total) (λ at. seq (good_word w.ElseIf) (λ _. seq (good_condition c) (λ test. seq (good_word w.Then) (λ _. seq g (λ taken. good_nothing _) (λ n h. absurd h)) (λ n h. tt)) (λ n h. grind arith)) (λ n h. tt)) (λ n h. tt))
      (λ n h. grind arith) (λ n h. grind arith) (λ h. h.1.0)

  good_branches : Good (reads.branches c levels p) (line.branches c levels P) (λ n. n ≡ 54) (λ n. AfterSequence n × (n ≢ 4)) ⊥
  unfolding reads.branches
  good_branches = weaken (λ n. n ≡ 54) (λ n. AfterSequence n × (n ≢ 4)) ⊥
      (seq good_first_branch (λ first. good_turns (parse.word_comes w.ElseIf) part.push _ _ _ _ good_next_branch (λ l. word_goes w.ElseIf (next_of l)) (λ n h. grind arith) (λ h. omega arith) (first ∷ [])) (λ n h. grind arith))
      (λ n h. grind arith) (λ n h. grind arith) (λ h. h.0)

  good_otherwise : Good (reads.any_otherwise c levels p) (part.optional (line.otherwise c levels P)) (λ n. n ≡ 3) (λ n. AfterSequence n × (n ≢ 3)) (Unit {0})
  unfolding reads.any_otherwise
  good_otherwise = good_optional (is_word w.Else) (good_after_word w.Else g) (word_goes w.Else)

  good_conditional : Good (reads.conditional c levels p) (line.conditional c levels P) (λ n. n ≡ 54) (λ _. Unit {0}) ⊥
  unfolding reads.conditional
  good_conditional = weaken (λ n. n ≡ 54) (λ _. Unit {0}) ⊥
      (seq (good_here c.total) (λ at. seq good_branches (λ all. seq good_otherwise (λ other. seq (good_word w.End) (λ _. good_nothing _) (λ n h. absurd h)) (λ n h. grind arith)) (λ n h. grind arith)) (λ n h. tt))
      (λ n h. grind arith) (λ n h. grind arith) (λ h. h.1.0)

  good_for_loop : Good (reads.for_loop c levels p) (line.for_loop c levels P) (In 55 56) (λ _. Unit {0}) ⊥
  unfolding reads.for_loop
  good_for_loop = weaken (In 55 56) (λ _. Unit {0}) ⊥
      (seq (good_here c.total) (λ at. seq (good_loop_head c levels) (λ k. seq (good_expression c) (λ limit. seq (good_word w.Do) (λ _. seq g (λ ss. seq (good_word w.Rep) (λ _. good_nothing _) (λ n h. absurd h)) (λ n h. grind arith)) (λ n h. tt)) (λ n h. grind arith)) (λ n h. tt)) (λ n h. tt))
      (λ n h. grind arith) (λ n h. grind arith) (λ h. h.1.0)

  good_while_loop : Good (reads.while_loop c levels p) (line.while_loop c levels P) (λ n. n ≡ 57) (λ _. Unit {0}) ⊥
  unfolding reads.while_loop
  good_while_loop = weaken (λ n. n ≡ 57) (λ _. Unit {0}) ⊥
      (seq (good_here c.total) (λ at. seq (good_within levels (good_word w.While)) (λ _. seq (good_condition c) (λ test. seq (good_word w.Do) (λ _. seq g (λ ss. seq (good_word w.Rep) (λ _. good_nothing _) (λ n h. absurd h)) (λ n h. grind arith)) (λ n h. tt)) (λ n h. grind arith)) (λ n h. tt)) (λ n h. tt))
      (λ n h. grind arith) (λ n h. grind arith) (λ h. h.1.0)

  -- the choices of a statement, one by one
  abbrev simple_tests : Next → List Item → parse.Outcome Simple
  simple_tests n l = if is_name n then reads.chained c l else (if is_word w.Val n then reads.assignment_by_val c l else (if is_word w.Goto n then reads.jump c l else (if is_word w.Return n then reads.returned c l
      else (if is_word w.Switch n then reads.switch c l else (if is_word w.Block n then reads.block c levels p l else (if is_word w.If n then reads.conditional c levels p l
      else (if is_word w.While n then reads.while_loop c levels p l else reads.for_loop c levels p l)))))))

  simple_by_tests : (n : Next) (l : List Item) → reads.simple_by c levels p n l ≡ simple_tests n l
  unfolding same_word
  simple_by_tests next.Name l = refl
  simple_by_tests (next.Word w.Val) l = refl
  simple_by_tests (next.Mark m.Dot) l = refl
  simple_by_tests _ l = refl

  always_after : {A : Type 0} {q : Parser A} {Q : Part A} {f : ℕ → Type 0} → Good q Q f (λ _. Unit {0}) ⊥ → Good q Q f AfterSimple ⊥
  always_after {f = f} h = weaken f AfterSimple ⊥ h (λ n k. k) (λ n k. tt) (λ e. e)

  good_simple : Good (reads.simple c levels p) (line.simple c levels P) FirstSimple AfterSimple ⊥
  unfolding reads.simple
  good_simple = weaken FirstSimple AfterSimple ⊥
      (good_equal (λ l. simple_by_tests (next_of l) l)
      (good_choose is_name (good_chained c)
      (good_choose (is_word w.Val) (good_assignment_by_val c)
      (good_choose (is_word w.Goto) (good_jump c)
      (good_choose (is_word w.Return) (good_returned c)
      (good_choose (is_word w.Switch) (good_switch c)
      (good_choose (is_word w.Block) (always_after good_block)
      (good_choose (is_word w.If) (always_after good_conditional)
      (good_choose (is_word w.While) (always_after good_while_loop) (always_after good_for_loop) (word_goes w.While) (λ n h k. grind arith))
      (word_goes w.If) (λ n h k. grind arith))
      (word_goes w.Block) (λ n h k. grind arith))
      (word_goes w.Switch) (λ n h k. grind arith))
      (word_goes w.Return) (λ n h k. grind arith))
      (word_goes w.Goto) (λ n h k. grind arith))
      (word_goes w.Val) (λ n h k. grind arith))
      name_goes (λ n h k. grind arith)))
      (λ n h. grind arith)
      (λ n h. (h, (h, (h, (h, (h, (h, (h, (h, h, λ e. absurd e), λ e. absurd e), λ e. absurd e), λ e. absurd e), λ e. absurd e), λ e. absurd e), λ e. absurd e), λ e. absurd e))
      (λ h. h)

  good_any_simple : Good (reads.any_simple c levels p) (part.optional (line.simple c levels P)) FirstSimple AfterSimple (Unit {0})
  unfolding reads.any_simple
  good_any_simple = weaken FirstSimple AfterSimple (Unit {0}) (good_optional begins_simple good_simple simple_goes) (λ n h. h) (λ n h. (h, λ k. grind arith)) (λ h. h)

  -- what follows the labels
  abbrev unlabelled : At → List Ident → Part Stmt
  unlabelled at ls = part.◌>>=◌ (part.optional (line.simple c levels P)) (λ it. part.nothing (reads.stmt_as ls it at))

  good_unlabelled : (at : At) (ls : List Ident) → Good (reads.unlabelled c levels p at ls) (unlabelled at ls) FirstSimple AfterSimple (Unit {0})
  unfolding reads.unlabelled
  good_unlabelled at ls = weaken FirstSimple AfterSimple (Unit {0}) (seq good_any_simple (λ it. good_nothing _) (λ n h. absurd h)) (λ n h. grind arith) (λ n h. grind arith) (λ h. tt)

  -- a name alone is a statement
  name_alone : (at : At) (ls : List Ident) (i : Item) (n : List ℕ) (r : List Item) → i.kind ≡ kind.Name n → (a : Stmt) × (unlabelled at ls).Fits (i ∷ r) r a
  name_alone at ls i n r e =
      let there : At = part.at_of c.total (i ∷ r) in
      let name : Ident = record { name = n; at = there } in
      let to : Chain = roll-Chain (record { name = n; links = []; at = there }) in
      let chain : (expressions.place c).Fits (i ∷ r) r to = (r, name, (i ∷ r, there, (refl, refl), (r, n, (i, refl, e), (refl, refl))), (r, [], stop, (refl, refl))) in
      let chained : (line.chained c).Fits (i ∷ r) r (s.Call to) = (i ∷ r, there, (refl, refl), (r, to, chain, inr (refl, refl))) in
      let simple : (line.simple c levels P).Fits (i ∷ r) r (s.Call to) = inl chained in
      let it : (part.optional (line.simple c levels P)).Fits (i ∷ r) r (Some (s.Call to)) = inl (r, s.Call to, simple, (refl, refl)) in
      (reads.stmt_as ls (Some (s.Call to)) at, (r, Some (s.Call to), it, (refl, refl)))

  good_statement : Good (reads.statement c levels p) (line.statement c levels P) FirstSimple AfterStatement (Unit {0})
  unfolding reads.statement reads.labels
  good_statement = weaken FirstSimple AfterStatement (Unit {0})
      (seq (good_here c.total) (λ at. good_labelled c.total (reads.unlabelled c levels p at) (unlabelled at) FirstSimple AfterSimple (Unit {0}) (good_unlabelled at) (inl (omega arith, omega arith)) (inl refl) (name_alone at)) (λ n h. tt))
      (λ n h. grind arith) (λ n h. grind arith) (λ h. tt)

  good_next_statement : Good (reads.next_statement c levels p) (part.◌>>=◌ (part.mark m.Semicolon) (λ _. line.statement c levels P)) (λ n. n ≡ 1) AfterStatement ⊥
  unfolding reads.next_statement
  good_next_statement = good_after_mark m.Semicolon good_statement

  pub good_sequence_of : Good (reads.sequence_of c levels p) (line.sequence_of c levels P) FirstSequence AfterSequence (Unit {0})
  unfolding reads.sequence_of
  good_sequence_of = weaken FirstSequence AfterSequence (Unit {0})
      (seq good_statement (λ first. good_turns (parse.mark_comes m.Semicolon) part.push _ _ _ _ good_next_statement (λ l. mark_goes m.Semicolon (next_of l)) (λ n h. grind arith) (λ h. omega arith) (first ∷ [])) (λ n h. grind arith))
      (λ n h. grind arith) (λ n h. grind arith) (λ h. tt)

pub good_inside : (c : Context) (levels : ℕ) → Good (reads.inside c levels) (line.inside c levels) FirstSequence AfterSequence (Unit {0})
unfolding reads.inside line.inside
good_inside c zero = weaken FirstSequence AfterSequence (Unit {0}) good_never (λ n h. absurd h) (λ n h. tt) (λ h. absurd h)
good_inside c (suc levels) = good_sequence_of c levels (reads.inside c levels) (line.inside c levels) (good_inside c levels)

pub good_sequence : (c : Context) → Good (reads.sequence c) (line.sequence c) FirstSequence AfterSequence (Unit {0})
unfolding reads.sequence
good_sequence c = good_sequence_of c c.limits.statements (reads.inside c c.limits.statements) (line.inside c c.limits.statements) (good_inside c c.limits.statements)

pub good_body : (c : Context) → Good (reads.body c) (line.body c) (λ n. modes.FirstByWord n ⊎ FirstSequence n) AfterSequence (Unit {0})
unfolding reads.body
good_body c = good_body_of c c.limits.statements (reads.sequence c) (line.sequence c) (good_sequence c)

-- ---- a body and the word that ends it

good_ending : Good reads.ending line.ending (In 6 7) (λ _. Unit {0}) ⊥
unfolding reads.ending
good_ending = weaken (In 6 7) (λ _. Unit {0}) ⊥
    (good_choose (is_word w.EndProc) (good_word w.EndProc) (good_word w.EndBlock) (word_goes w.EndProc) (λ n h k. grind arith))
    (λ n h. grind arith) (λ n h. (tt, tt, λ e. absurd e)) (λ h. h)

pub good_closed : (c : Context) → Good (reads.closed c) (line.closed c) (λ n. modes.FirstByWord n ⊎ (FirstSequence n ⊎ In 6 7 n)) (λ _. Unit {0}) ⊥
unfolding reads.closed
good_closed c = weaken (λ n. modes.FirstByWord n ⊎ (FirstSequence n ⊎ In 6 7 n)) (λ _. Unit {0}) ⊥
    (seq (good_body c) (λ b. seq good_ending (λ _. good_nothing _) (λ n h. absurd h)) (λ n h. grind arith))
    (λ n h. grind arith) (λ n h. grind arith) (λ h. h.1.0)
