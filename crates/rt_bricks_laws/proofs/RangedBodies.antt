-- The numbers of bodies are words.
use Rattle.std.proofs.Common.{◌≡◌, ℕ, zero, suc, Bool, true, ◌&&◌, List, [], map, Option, Some, None, refl, ◌∙◌, arith}
use Rattle.rt_grammar.specs.declared.at.At.{At}
use Rattle.rt_grammar.specs.declared.at.Ident.{Ident}
use Rattle.rt_grammar.specs.Parts.{Part, push, label, turns}
use Rattle.rt_syntax_exprs.specs.declared.limits.Context.{Context}
use Rattle.rt_syntax_exprs.specs.declared.tree.Chain.{Chain}
use Rattle.rt_syntax_exprs.specs.declared.tree.Cond.{Cond}
use Rattle.rt_syntax_exprs.specs.declared.tree.Expr.{Expr}
use Rattle.rt_syntax.specs.declared.tree.Body.{Body, out-Body, roll-Body}
use Rattle.rt_syntax.specs.declared.tree.Body as bodies
use Rattle.rt_syntax.specs.declared.tree.Branch.{Branch, out-Branch, roll-Branch}
use Rattle.rt_syntax.specs.declared.tree.Branch as branches
use Rattle.rt_syntax.specs.declared.tree.Control.{Control}
use Rattle.rt_syntax.specs.declared.tree.Local.{Local}
use Rattle.rt_syntax.specs.declared.tree.Locals.{Locals}
use Rattle.rt_syntax.specs.declared.tree.Simple.{Simple, out-Simple}
use Rattle.rt_syntax.specs.declared.tree.Simple as simples
use Rattle.rt_syntax.specs.declared.tree.Simple.TheFolds.{fold_out-Simple, fold_out-Body, fold_out-Branch, fold_out-Stmt}
use Rattle.rt_syntax.specs.declared.tree.Simple.TheOpen.{Simple-F, Body-F, Branch-F, Stmt-F}
use Rattle.rt_syntax.specs.declared.tree.Simple.TheVariants as s
use Rattle.rt_syntax.specs.declared.tree.Stmt.{Stmt, out-Stmt, roll-Stmt}
use Rattle.rt_syntax.specs.declared.tree.Stmt as lines
use Rattle.rt_syntax.specs.Statements as line
use Rattle.rt_bricks_laws.specs.Bodies.{all}
use Rattle.rt_bricks_laws.proofs.Parts.{Counts, opened, turned as counts_turned, a_word, a_mark, a_place, an_ident, a_label}
use Rattle.rt_bricks_laws.proofs.Statements.{names_count}
use Rattle.rt_bricks_laws.specs.Numbers.{words_in_expr, words_in_any, words_in_chain, words_in_cond, words_in_mode, words_in_local, words_in_locals, words_in_control, words_in_simple, words_in_body, words_in_branch, words_in_statement}
use Rattle.rt_bricks_laws.proofs.Ranged.{Ranged, it, not, thn, behind, or_else, maybe, turned}
use Rattle.rt_bricks_laws.proofs.RangedExpressions.{ExprWords, expression_words, place_words, condition_words, by_word_words}
use Rattle.rt_bricks_laws.proofs.Truths.{both, all_push}

-- ---- those of each

stat_call : (c : Chain) → words_in_simple (s.Call c) ≡ words_in_chain c
stat_call c = let o : out-Simple (s.Call c) ≡ Simple-F.Call c = search simples.the_lemmas in rw (fold_out-Simple, o) refl

stat_assign : (c : Chain) (e : Expr) (at : At) → words_in_simple (s.Assign c e at) ≡ words_in_chain c && words_in_expr e
stat_assign c e at = let o : out-Simple (s.Assign c e at) ≡ Simple-F.Assign c e at = search simples.the_lemmas in rw (fold_out-Simple, o) refl

stat_assign_val : (c : Chain) (e : Expr) (at : At) → words_in_simple (s.AssignVal c e at) ≡ words_in_chain c && words_in_expr e
stat_assign_val c e at = let o : out-Simple (s.AssignVal c e at) ≡ Simple-F.AssignVal c e at = search simples.the_lemmas in rw (fold_out-Simple, o) refl

stat_goto : (n : Ident) (at : At) → words_in_simple (s.Goto n at) ≡ true
stat_goto n at = let o : out-Simple (s.Goto n at) ≡ Simple-F.Goto n at = search simples.the_lemmas in rw (fold_out-Simple, o) refl

stat_return : (e : Option Expr) (at : At) → words_in_simple (s.Return e at) ≡ words_in_any e
stat_return e at = let o : out-Simple (s.Return e at) ≡ Simple-F.Return e at = search simples.the_lemmas in rw (fold_out-Simple, o) refl

stat_switch : (e : Expr) (ns : List Ident) (at : At) → words_in_simple (s.Switch e ns at) ≡ words_in_expr e
stat_switch e ns at = let o : out-Simple (s.Switch e ns at) ≡ Simple-F.Switch e ns at = search simples.the_lemmas in rw (fold_out-Simple, o) refl

stat_block : (b : Body) (at : At) → words_in_simple (s.Block b at) ≡ words_in_body b
stat_block b at = let o : out-Simple (s.Block b at) ≡ Simple-F.Block b at = search simples.the_lemmas in rw (fold_out-Simple, o) refl

abbrev others : Option (List Stmt) → Bool
others None = true
others (Some xs) = all (map words_in_statement xs)

stat_if : (bs : List Branch) (e : Option (List Stmt)) (at : At) → words_in_simple (s.If bs e at) ≡ all (map words_in_branch bs) && others e
stat_if bs None at = let o : out-Simple (s.If bs None at) ≡ Simple-F.If bs None at = search simples.the_lemmas in rw (fold_out-Simple, o) refl
stat_if bs (Some xs) at = let o : out-Simple (s.If bs (Some xs) at) ≡ Simple-F.If bs (Some xs) at = search simples.the_lemmas in rw (fold_out-Simple, o) refl

stat_for : (k : Option Control) (e : Expr) (xs : List Stmt) (at : At) → words_in_simple (s.For k e xs at) ≡ words_in_control k && (words_in_expr e && all (map words_in_statement xs))
stat_for k e xs at = let o : out-Simple (s.For k e xs at) ≡ Simple-F.For k e xs at = search simples.the_lemmas in rw (fold_out-Simple, o) refl

stat_while : (d : Cond) (xs : List Stmt) (at : At) → words_in_simple (s.While d xs at) ≡ words_in_cond d && all (map words_in_statement xs)
stat_while d xs at = let o : out-Simple (s.While d xs at) ≡ Simple-F.While d xs at = search simples.the_lemmas in rw (fold_out-Simple, o) refl

body_by : (b : Body) (x : Body-F Simple Body Branch Stmt) → out-Body b ≡ x → words_in_body b ≡ all (map words_in_locals x.locals) && all (map words_in_statement x.statements)
body_by b x o = rw (fold_out-Body, o) refl

body_of : (x : Body-F Simple Body Branch Stmt) → words_in_body (roll-Body x) ≡ all (map words_in_locals x.locals) && all (map words_in_statement x.statements)
body_of x = body_by (roll-Body x) x (search bodies.the_lemmas)

branch_by : (b : Branch) (x : Branch-F Simple Body Branch Stmt) → out-Branch b ≡ x → words_in_branch b ≡ words_in_cond x.test && all (map words_in_statement x.taken)
branch_by b x o = rw (fold_out-Branch, o) refl

branch_of : (x : Branch-F Simple Body Branch Stmt) → words_in_branch (roll-Branch x) ≡ words_in_cond x.test && all (map words_in_statement x.taken)
branch_of x = branch_by (roll-Branch x) x (search branches.the_lemmas)

abbrev any_simple : Option Simple → Bool
any_simple None = true
any_simple (Some x) = words_in_simple x

line_by : (b : Stmt) (x : Stmt-F Simple Body Branch Stmt) (o : Option Simple) → x.simple ≡ o → out-Stmt b ≡ x → words_in_statement b ≡ any_simple o
line_by b x None e o = rw (fold_out-Stmt, o, e) refl
line_by b x (Some y) e o = rw (fold_out-Stmt, o, e) refl

line_of : (x : Stmt-F Simple Body Branch Stmt) → words_in_statement (roll-Stmt x) ≡ any_simple x.simple
line_of x = line_by (roll-Stmt x) x x.simple refl (search lines.the_lemmas)

-- ---- the lines

abbrev AnyWords : Option Expr → Type 0
AnyWords o = words_in_any o ≡ true

abbrev LocalWords : Local → Type 0
LocalWords l = words_in_local l ≡ true

abbrev LocalListWords : List Local → Type 0
LocalListWords ls = all (map words_in_local ls) ≡ true

abbrev LocalsWords : Locals → Type 0
LocalsWords l = words_in_locals l ≡ true

abbrev DeclaredWords : List Locals → Type 0
DeclaredWords ls = all (map words_in_locals ls) ≡ true

abbrev ControlWords : Option Control → Type 0
ControlWords k = words_in_control k ≡ true

abbrev SimpleWords : Simple → Type 0
SimpleWords x = words_in_simple x ≡ true

abbrev pub BodyWords : Body → Type 0
BodyWords b = words_in_body b ≡ true

abbrev BranchWords : Branch → Type 0
BranchWords b = words_in_branch b ≡ true

abbrev BranchesWords : List Branch → Type 0
BranchesWords bs = all (map words_in_branch bs) ≡ true

abbrev LineWords : Stmt → Type 0
LineWords x = words_in_statement x ≡ true

abbrev LinesWords : List Stmt → Type 0
LinesWords xs = all (map words_in_statement xs) ≡ true

abbrev OthersWords : Option (List Stmt) → Type 0
OthersWords o = others o ≡ true

abbrev AnySimpleWords : Option Simple → Type 0
AnySimpleWords o = any_simple o ≡ true

module _ (c : Context) where
  becomes_words : Ranged (line.becomes c) ExprWords
  becomes_words = behind (a_mark _) (λ _. expression_words c)

  local_words : Ranged (line.local c) LocalWords
  local_words = behind (an_ident c.total) (λ n. thn {P = AnyWords} (maybe becomes_words (λ e g. g) refl) (λ start g. it g))

  local_list_words : Ranged (line.local_list c) LocalListWords
  local_list_words = thn local_words (λ first g. turned push _ LocalWords LocalListWords (behind (a_mark _) (λ _. local_words)) (λ ls l k f. all_push words_in_local ls l k f) (both (words_in_local first) true g refl))

  locals_words : Ranged (line.locals c) LocalsWords
  locals_words = behind (a_place c.total) (λ at. thn (by_word_words c) (λ md h. thn local_list_words (λ ls g. behind (a_mark _) (λ _. it (both (words_in_mode md) (all (map words_in_local ls)) h g)))))

  chained_words : Ranged (line.chained c) SimpleWords
  chained_words = behind (a_place c.total) (λ at. thn (place_words c) (λ to h. or_else (thn becomes_words (λ a g. it (stat_assign to a at ∙ both (words_in_chain to) (words_in_expr a) h g))) (it (stat_call to ∙ h))))

  assignment_words : Ranged (line.assignment_by_val c) SimpleWords
  assignment_words = behind (a_place c.total) (λ at. behind (a_word _) (λ _. thn (place_words c) (λ to h. thn becomes_words (λ a g. it (stat_assign_val to a at ∙ both (words_in_chain to) (words_in_expr a) h g)))))

  jump_words : Ranged (line.jump c) SimpleWords
  jump_words = behind (a_place c.total) (λ at. behind (a_word _) (λ _. behind (an_ident c.total) (λ n. it (stat_goto n at))))

  returned_words : Ranged (line.returned c) SimpleWords
  returned_words = behind (a_place c.total) (λ at. behind (a_word _) (λ _. thn {P = AnyWords} (maybe (expression_words c) (λ e g. g) refl) (λ a g. it (stat_return a at ∙ g))))

  switch_words : Ranged (line.switch c) SimpleWords
  switch_words = behind (a_place c.total) (λ at. behind (a_word _) (λ _. thn (expression_words c) (λ a g. behind (a_word _) (λ _. behind (names_count c) (λ ns. it (stat_switch a ns at ∙ g))))))

  control_words : (levels : ℕ) → Ranged (line.control c levels) (λ k. ControlWords (Some k))
  control_words levels = behind (a_place c.total) (λ at. behind (opened levels (a_word _)) (λ _. behind (an_ident c.total) (λ n. thn becomes_words (λ start g.
      thn {P = AnyWords} (maybe (behind (a_word _) (λ _. expression_words c)) (λ e f. f) refl) (λ step f. it (both (words_in_expr start) (words_in_any step) g f))))))

  loop_head_words : (levels : ℕ) → Ranged (line.loop_head c levels) ControlWords
  loop_head_words levels = or_else (thn (control_words levels) (λ k g. behind (a_word _) (λ _. it g))) (behind (opened levels (a_word _)) (λ _. it refl))

  module _ (levels : ℕ) (inner : Part (List Stmt)) (h : Ranged inner LinesWords) where
    body_words : Ranged (line.body_of c levels inner) BodyWords
    body_words = behind (a_place c.total) (λ at. thn (turned push _ LocalsWords DeclaredWords locals_words (λ ls l k f. all_push words_in_locals ls l k f) refl) (λ ls g. thn h (λ ss k.
        it (body_of (record { locals = ls; statements = ss; at = at }) ∙ both (all (map words_in_locals ls)) (all (map words_in_statement ss)) g k))))

    block_words : Ranged (line.block c levels inner) SimpleWords
    block_words = behind (a_place c.total) (λ at. behind (opened levels (a_word _)) (λ _. thn body_words (λ b g. behind (a_word _) (λ _. it (stat_block b at ∙ g)))))

    branch_words : (first : Part (Unit {0})) → Counts 0 first (λ _. 1) → Ranged (line.branch c levels inner first) BranchWords
    branch_words first n = behind (a_place c.total) (λ at. behind n (λ _. thn (condition_words c) (λ test g. behind (a_word _) (λ _. thn h (λ taken k.
        it (branch_of (record { test = test; taken = taken; at = at }) ∙ both (words_in_cond test) (all (map words_in_statement taken)) g k))))))

    branches_words : Ranged (line.branches c levels inner) BranchesWords
    branches_words = thn (branch_words _ (opened levels (a_word _))) (λ first g. turned push _ BranchWords BranchesWords (branch_words _ (a_word _)) (λ bs b k f. all_push words_in_branch bs b k f) (both (words_in_branch first) true g refl))

    conditional_words : Ranged (line.conditional c levels inner) SimpleWords
    conditional_words = behind (a_place c.total) (λ at. thn branches_words (λ bs k. thn {P = OthersWords} (maybe (behind (a_word _) (λ _. h)) (λ xs g. g) refl) (λ other g.
        behind (a_word _) (λ _. it (stat_if bs other at ∙ both (all (map words_in_branch bs)) (others other) k g)))))

    for_words : Ranged (line.for_loop c levels inner) SimpleWords
    for_words = behind (a_place c.total) (λ at. thn (loop_head_words levels) (λ k g. thn (expression_words c) (λ limit f. behind (a_word _) (λ _. thn h (λ ss q. behind (a_word _) (λ _.
        it (stat_for k limit ss at ∙ both (words_in_control k) (words_in_expr limit && all (map words_in_statement ss)) g (both (words_in_expr limit) (all (map words_in_statement ss)) f q))))))))

    while_words : Ranged (line.while_loop c levels inner) SimpleWords
    while_words = behind (a_place c.total) (λ at. behind (opened levels (a_word _)) (λ _. thn (condition_words c) (λ test g. behind (a_word _) (λ _. thn h (λ ss k.
        behind (a_word _) (λ _. it (stat_while test ss at ∙ both (words_in_cond test) (all (map words_in_statement ss)) g k)))))))

    simple_words : Ranged (line.simple c levels inner) SimpleWords
    simple_words = or_else chained_words (or_else assignment_words (or_else jump_words (or_else returned_words (or_else switch_words (or_else block_words (or_else conditional_words (or_else while_words for_words)))))))

    labels_count : Counts 0 (turns push [] (label c.total)) (λ _. 0)
    labels_count = counts_turned push _ (λ _. 0) (λ _. 2) (a_label c.total) (λ a b. omega arith) (omega arith)

    statement_words : Ranged (line.statement c levels inner) LineWords
    statement_words = behind (a_place c.total) (λ at. behind labels_count (λ ls. thn {P = AnySimpleWords} (maybe simple_words (λ x k. k) refl) (λ simple k. it (line_of (record { labels = ls; simple = simple; at = at }) ∙ k))))

    sequence_words : Ranged (line.sequence_of c levels inner) LinesWords
    sequence_words = thn statement_words (λ first g. turned push _ LineWords LinesWords (behind (a_mark _) (λ _. statement_words)) (λ xs x k f. all_push words_in_statement xs x k f) (both (words_in_statement first) true g refl))

  inside_words : (levels : ℕ) → Ranged (line.inside c levels) LinesWords
  unfolding line.inside
  inside_words zero = not
  inside_words (suc levels) = sequence_words levels (line.inside c levels) (inside_words levels)

  pub derived_body_words : Ranged (line.body c) BodyWords
  derived_body_words = body_words c.limits.statements (line.sequence c) (sequence_words c.limits.statements (line.inside c c.limits.statements) (inside_words c.limits.statements))
