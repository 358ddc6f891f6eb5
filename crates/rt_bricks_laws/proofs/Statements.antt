-- How many items statements and bodies have at least, line by line.
use Rattle.std.proofs.Common.{◌≡◌, ℕ, zero, suc, ◌+◌, ◌*◌, List, length, map, Option, Some, None, refl, arith}
use Rattle.rt_grammar.specs.declared.at.At.{At}
use Rattle.rt_grammar.specs.declared.at.Ident.{Ident}
use Rattle.rt_grammar.specs.Parts.{Part, push}
use Rattle.rt_syntax_exprs.specs.declared.limits.Context.{Context}
use Rattle.rt_syntax_exprs.specs.declared.tree.Expr.{Expr}
use Rattle.rt_syntax_exprs.specs.declared.tree.Chain.{Chain}
use Rattle.rt_syntax_exprs.specs.declared.tree.Cond.{Cond}
use Rattle.rt_syntax.specs.declared.tree.Body.{Body, out-Body, roll-Body}
use Rattle.rt_syntax.specs.declared.tree.Body as bodies
use Rattle.rt_syntax.specs.declared.tree.Branch.{Branch, out-Branch, roll-Branch}
use Rattle.rt_syntax.specs.declared.tree.Branch as branches
use Rattle.rt_syntax.specs.declared.tree.Control.{Control}
use Rattle.rt_syntax.specs.declared.tree.Simple.{Simple, out-Simple}
use Rattle.rt_syntax.specs.declared.tree.Simple as simples
use Rattle.rt_syntax.specs.declared.tree.Simple.TheFolds.{fold_out-Simple, fold_out-Body, fold_out-Branch, fold_out-Stmt}
use Rattle.rt_syntax.specs.declared.tree.Simple.TheOpen.{Simple-F, Body-F, Branch-F, Stmt-F}
use Rattle.rt_syntax.specs.declared.tree.Simple.TheVariants as s
use Rattle.rt_syntax.specs.declared.tree.Stmt.{Stmt, out-Stmt, roll-Stmt}
use Rattle.rt_syntax.specs.declared.tree.Stmt as lines
use Rattle.rt_syntax.specs.Statements as line
use Rattle.rt_bricks_laws.specs.Counts.{sum, listed, names, in_expr, in_chain, in_cond, behind_one, in_local, in_locals, in_control, in_stat, in_body, in_branch, in_line}
use Rattle.rt_bricks_laws.proofs.Lists.{sum_push, listed_push, length_push}
use Rattle.rt_bricks_laws.proofs.Parts.{Counts, done, none, thn, counted_as, or_else, maybe, turned, opened, a_word, a_mark, a_place, an_ident, a_label}
use Rattle.rt_bricks_laws.proofs.Expressions.{expression_counts, place_counts, condition_counts}
use Rattle.rt_bricks_laws.proofs.Modes.{mode_by_word_counts}

-- ---- what each counts

stat_call : (c : Chain) → in_stat (s.Call c) ≡ in_chain c
stat_call c = let o : out-Simple (s.Call c) ≡ Simple-F.Call c = search simples.the_lemmas in rw (fold_out-Simple, o) refl

stat_assign : (c : Chain) (e : Expr) (at : At) → in_stat (s.Assign c e at) ≡ in_chain c + (1 + in_expr e)
stat_assign c e at = let o : out-Simple (s.Assign c e at) ≡ Simple-F.Assign c e at = search simples.the_lemmas in rw (fold_out-Simple, o) refl

stat_assign_val : (c : Chain) (e : Expr) (at : At) → in_stat (s.AssignVal c e at) ≡ 1 + (in_chain c + (1 + in_expr e))
stat_assign_val c e at = let o : out-Simple (s.AssignVal c e at) ≡ Simple-F.AssignVal c e at = search simples.the_lemmas in rw (fold_out-Simple, o) refl

stat_goto : (n : Ident) (at : At) → in_stat (s.Goto n at) ≡ 2
stat_goto n at = let o : out-Simple (s.Goto n at) ≡ Simple-F.Goto n at = search simples.the_lemmas in rw (fold_out-Simple, o) refl

returned_counts : Option Expr → ℕ
returned_counts None = 0
returned_counts (Some e) = in_expr e

stat_return : (e : Option Expr) (at : At) → in_stat (s.Return e at) ≡ 1 + returned_counts e
unfolding returned_counts
stat_return None at = let o : out-Simple (s.Return None at) ≡ Simple-F.Return None at = search simples.the_lemmas in rw (fold_out-Simple, o) (omega arith)
stat_return (Some e) at = let o : out-Simple (s.Return (Some e) at) ≡ Simple-F.Return (Some e) at = search simples.the_lemmas in rw (fold_out-Simple, o) refl

stat_switch : (e : Expr) (ns : List Ident) (at : At) → in_stat (s.Switch e ns at) ≡ 2 + (in_expr e + names ns)
stat_switch e ns at = let o : out-Simple (s.Switch e ns at) ≡ Simple-F.Switch e ns at = search simples.the_lemmas in rw (fold_out-Simple, o) refl

stat_block : (b : Body) (at : At) → in_stat (s.Block b at) ≡ 2 + in_body b
stat_block b at = let o : out-Simple (s.Block b at) ≡ Simple-F.Block b at = search simples.the_lemmas in rw (fold_out-Simple, o) refl

others : Option (List Stmt) → ℕ
others None = 0
others (Some xs) = 1 + listed (map in_line xs)

stat_if : (bs : List Branch) (e : Option (List Stmt)) (at : At) → in_stat (s.If bs e at) ≡ 1 + (sum (map in_branch bs) + others e)
unfolding others
stat_if bs None at = let o : out-Simple (s.If bs None at) ≡ Simple-F.If bs None at = search simples.the_lemmas in rw (fold_out-Simple, o) refl
stat_if bs (Some xs) at = let o : out-Simple (s.If bs (Some xs) at) ≡ Simple-F.If bs (Some xs) at = search simples.the_lemmas in rw (fold_out-Simple, o) refl

stat_for : (k : Option Control) (e : Expr) (xs : List Stmt) (at : At) → in_stat (s.For k e xs at) ≡ 3 + (in_control k + (in_expr e + listed (map in_line xs)))
stat_for k e xs at = let o : out-Simple (s.For k e xs at) ≡ Simple-F.For k e xs at = search simples.the_lemmas in rw (fold_out-Simple, o) refl

stat_while : (d : Cond) (xs : List Stmt) (at : At) → in_stat (s.While d xs at) ≡ 3 + (in_cond d + listed (map in_line xs))
stat_while d xs at = let o : out-Simple (s.While d xs at) ≡ Simple-F.While d xs at = search simples.the_lemmas in rw (fold_out-Simple, o) refl

body_by : (b : Body) (x : Body-F Simple Body Branch Stmt) → out-Body b ≡ x → in_body b ≡ sum (map in_locals x.locals) + listed (map in_line x.statements)
body_by b x o = rw (fold_out-Body, o) refl

body_of : (x : Body-F Simple Body Branch Stmt) → in_body (roll-Body x) ≡ sum (map in_locals x.locals) + listed (map in_line x.statements)
body_of x = body_by (roll-Body x) x (search bodies.the_lemmas)

branch_by : (b : Branch) (x : Branch-F Simple Body Branch Stmt) → out-Branch b ≡ x → in_branch b ≡ 2 + (in_cond x.test + listed (map in_line x.taken))
branch_by b x o = rw (fold_out-Branch, o) refl

branch_of : (x : Branch-F Simple Body Branch Stmt) → in_branch (roll-Branch x) ≡ 2 + (in_cond x.test + listed (map in_line x.taken))
branch_of x = branch_by (roll-Branch x) x (search branches.the_lemmas)

any_stat : Option Simple → ℕ
any_stat None = 0
any_stat (Some x) = in_stat x

line_by : (b : Stmt) (x : Stmt-F Simple Body Branch Stmt) (o : Option Simple) → x.simple ≡ o → out-Stmt b ≡ x → in_line b ≡ 2 * length x.labels + any_stat o
unfolding any_stat
line_by b x None e o = rw (fold_out-Stmt, o, e) refl
line_by b x (Some y) e o = rw (fold_out-Stmt, o, e) refl

line_of : (x : Stmt-F Simple Body Branch Stmt) → in_line (roll-Stmt x) ≡ 2 * length x.labels + any_stat x.simple
line_of x = line_by (roll-Stmt x) x x.simple refl (search lines.the_lemmas)

-- ---- the lines

becomes_counts : (c : Context) → Counts 0 (line.becomes c) (λ e. 1 + in_expr e)
becomes_counts c = thn (a_mark _) (λ _. counted_as (expression_counts c) (λ e. omega arith))

local_counts : (c : Context) → Counts 0 (line.local c) in_local
local_counts c = thn (an_ident c.total) (λ n. thn {f = behind_one} (maybe (becomes_counts c) (λ e. omega arith) (omega arith)) (λ start. done (omega arith)))

local_list_counts : (c : Context) → Counts 0 (line.local_list c) (λ ls. listed (map in_local ls))
local_list_counts c = thn (local_counts c) (λ first. turned push _ (λ ls. listed (map in_local ls)) (λ l. 1 + in_local l)
    (thn (a_mark _) (λ _. counted_as (local_counts c) (λ x. omega arith))) (λ ls x. listed_push in_local ls x) (omega arith))

locals_count : (c : Context) → Counts 0 (line.locals c) in_locals
locals_count c = thn (a_place c.total) (λ at. thn (mode_by_word_counts c) (λ mode. thn (local_list_counts c) (λ all. thn (a_mark _) (λ _. done (omega arith)))))

chained_counts : (c : Context) → Counts 0 (line.chained c) in_stat
chained_counts c = thn (a_place c.total) (λ at. thn (place_counts c) (λ to. or_else
    (thn (becomes_counts c) (λ a. done (let e = stat_assign to a at in omega arith)))
    (done (let e = stat_call to in omega arith))))

assignment_counts : (c : Context) → Counts 0 (line.assignment_by_val c) in_stat
assignment_counts c = thn (a_place c.total) (λ at. thn (a_word _) (λ _. thn (place_counts c) (λ to. thn (becomes_counts c) (λ a. done (let e = stat_assign_val to a at in omega arith)))))

jump_counts : (c : Context) → Counts 0 (line.jump c) in_stat
jump_counts c = thn (a_place c.total) (λ at. thn (a_word _) (λ _. thn (an_ident c.total) (λ n. done (let e = stat_goto n at in omega arith))))

return_counts : (c : Context) → Counts 0 (line.returned c) in_stat
unfolding returned_counts
return_counts c = thn (a_place c.total) (λ at. thn (a_word _) (λ _. thn {f = returned_counts} (maybe (expression_counts c) (λ e. omega arith) (omega arith)) (λ a. done (let e = stat_return a at in omega arith))))

pub names_count : (c : Context) → Counts 0 (line.names c) names
names_count c = thn (an_ident c.total) (λ first. turned push _ names (λ _. 2) (thn (a_mark _) (λ _. counted_as (an_ident c.total) (λ x. omega arith))) (λ ns x. listed_push (λ _. 1) ns x) (omega arith))

switch_counts : (c : Context) → Counts 0 (line.switch c) in_stat
switch_counts c = thn (a_place c.total) (λ at. thn (a_word _) (λ _. thn (expression_counts c) (λ a. thn (a_word _) (λ _. thn (names_count c) (λ ns. done (let e = stat_switch a ns at in omega arith))))))

control_counts : (c : Context) (levels : ℕ) → Counts 0 (line.control c levels) (λ k. 2 + (1 + in_expr k.start + behind_one k.step))
control_counts c levels = thn (a_place c.total) (λ at. thn (opened levels (a_word _)) (λ _. thn (an_ident c.total) (λ n. thn (becomes_counts c) (λ start.
    thn {f = behind_one} (maybe (thn (a_word _) (λ _. counted_as {g = λ e. 1 + in_expr e} (expression_counts c) (λ e. omega arith))) (λ e. omega arith) (omega arith)) (λ step. done (omega arith))))))

loop_head_counts : (c : Context) (levels : ℕ) → Counts 0 (line.loop_head c levels) (λ k. 1 + in_control k)
loop_head_counts c levels = or_else (thn (control_counts c levels) (λ k. thn (a_word _) (λ _. done (omega arith)))) (thn (opened levels (a_word _)) (λ _. done (omega arith)))

module _ (c : Context) (levels : ℕ) (inner : Part (List Stmt)) (h : Counts 0 inner (λ xs. listed (map in_line xs))) where
  pub body_counts : Counts 0 (line.body_of c levels inner) in_body
  body_counts = thn (a_place c.total) (λ at. thn (turned push _ (λ ls. sum (map in_locals ls)) in_locals (locals_count c) (λ ls x. let e = sum_push in_locals ls x in omega arith) (omega arith)) (λ ls.
      thn h (λ ss. done (let e = body_of (record { locals = ls; statements = ss; at = at }) in omega arith))))

  block_counts : Counts 0 (line.block c levels inner) in_stat
  block_counts = thn (a_place c.total) (λ at. thn (opened levels (a_word _)) (λ _. thn body_counts (λ b. thn (a_word _) (λ _. done (let e = stat_block b at in omega arith)))))

  branch_counts : (first : Part (Unit {0})) → Counts 0 first (λ _. 1) → Counts 0 (line.branch c levels inner first) in_branch
  branch_counts first g = thn (a_place c.total) (λ at. thn g (λ _. thn (condition_counts c) (λ test. thn (a_word _) (λ _. thn h (λ taken.
      done (let e = branch_of (record { test = test; taken = taken; at = at }) in omega arith))))))

  otherwise_counts : Counts 0 (line.otherwise c levels inner) (λ xs. 1 + listed (map in_line xs))
  otherwise_counts = thn (a_word _) (λ _. counted_as h (λ xs. omega arith))

  branches_count : Counts 0 (line.branches c levels inner) (λ bs. sum (map in_branch bs))
  branches_count = thn (branch_counts _ (opened levels (a_word _))) (λ first. turned push _ (λ bs. sum (map in_branch bs)) in_branch (branch_counts _ (a_word _)) (λ bs x. let e = sum_push in_branch bs x in omega arith) (omega arith))

  conditional_counts : Counts 0 (line.conditional c levels inner) in_stat
  unfolding others
  conditional_counts = thn (a_place c.total) (λ at. thn branches_count (λ all. thn {f = others} (maybe otherwise_counts (λ xs. omega arith) (omega arith)) (λ other. thn (a_word _) (λ _. done (let e = stat_if all other at in omega arith)))))

  for_counts : Counts 0 (line.for_loop c levels inner) in_stat
  for_counts = thn (a_place c.total) (λ at. thn (loop_head_counts c levels) (λ k. thn (expression_counts c) (λ limit. thn (a_word _) (λ _. thn h (λ ss. thn (a_word _) (λ _. done (let e = stat_for k limit ss at in omega arith)))))))

  while_counts : Counts 0 (line.while_loop c levels inner) in_stat
  while_counts = thn (a_place c.total) (λ at. thn (opened levels (a_word _)) (λ _. thn (condition_counts c) (λ test. thn (a_word _) (λ _. thn h (λ ss. thn (a_word _) (λ _. done (let e = stat_while test ss at in omega arith)))))))

  simple_counts : Counts 0 (line.simple c levels inner) in_stat
  simple_counts = or_else (chained_counts c) (or_else (assignment_counts c) (or_else (jump_counts c) (or_else (return_counts c) (or_else (switch_counts c)
      (or_else block_counts (or_else conditional_counts (or_else while_counts for_counts)))))))

  statement_counts : Counts 0 (line.statement c levels inner) in_line
  unfolding any_stat
  statement_counts = thn (a_place c.total) (λ at. thn (turned push _ (λ ls. 2 * length ls) (λ _. 2) (a_label c.total) (λ ls x. let e = length_push ls x in omega arith) (omega arith)) (λ ls.
      thn {f = any_stat} (maybe simple_counts (λ x. omega arith) (omega arith)) (λ it. done (let e = line_of (record { labels = ls; simple = it; at = at }) in omega arith))))

  pub sequence_counts : Counts 0 (line.sequence_of c levels inner) (λ xs. listed (map in_line xs))
  sequence_counts = thn statement_counts (λ first. turned push _ (λ xs. listed (map in_line xs)) (λ x. 1 + in_line x) (thn (a_mark _) (λ _. counted_as statement_counts (λ x. omega arith))) (λ xs x. listed_push in_line xs x) (omega arith))

inside_counts : (c : Context) (levels : ℕ) → Counts 0 (line.inside c levels) (λ xs. listed (map in_line xs))
unfolding line.inside
inside_counts c zero = none
inside_counts c (suc levels) = sequence_counts c levels (line.inside c levels) (inside_counts c levels)

pub body_counted : (c : Context) → Counts 0 (line.body c) in_body
body_counted c = body_counts c c.limits.statements (line.sequence c) (sequence_counts c c.limits.statements (line.inside c c.limits.statements) (inside_counts c c.limits.statements))
