-- The strings of bodies rise.
use Rattle.std.proofs.Common.{◌≡◌, ℕ, zero, suc, ◌<◌, List, [], ◌∷◌, map, Option, Some, None, refl}
use Rattle.rt_grammar.specs.declared.at.At.{At}
use Rattle.rt_grammar.specs.declared.at.Ident.{Ident}
use Rattle.rt_grammar.specs.Parts.{Part, push, label}
use Rattle.rt_syntax_exprs.specs.declared.limits.Context.{Context}
use Rattle.rt_syntax_exprs.specs.declared.tree.Chain.{Chain}
use Rattle.rt_syntax_exprs.specs.declared.tree.Cond.{Cond}
use Rattle.rt_syntax_exprs.specs.declared.tree.Expr.{Expr}
use Rattle.rt_syntax.specs.declared.tree.Body.{Body, out-Body, roll-Body}
use Rattle.rt_syntax.specs.declared.tree.Body as bodies
use Rattle.rt_syntax.specs.declared.tree.Branch.{Branch, out-Branch, roll-Branch}
use Rattle.rt_syntax.specs.declared.tree.Branch as branches
use Rattle.rt_syntax.specs.declared.tree.Control.{Control}
use Rattle.rt_syntax.specs.declared.tree.Local.{Local}
use Rattle.rt_syntax.specs.declared.tree.Locals.{Locals}
use Rattle.rt_syntax.specs.declared.tree.Simple.{Simple, out-Simple}
use Rattle.rt_syntax.specs.declared.tree.Simple as simples
use Rattle.rt_syntax.specs.declared.tree.Simple.TheFolds.{fold_out-Simple, fold_out-Body, fold_out-Branch, fold_out-Stmt}
use Rattle.rt_syntax.specs.declared.tree.Simple.TheOpen.{Simple-F, Body-F, Branch-F, Stmt-F}
use Rattle.rt_syntax.specs.declared.tree.Simple.TheVariants as s
use Rattle.rt_syntax.specs.declared.tree.Stmt.{Stmt, out-Stmt, roll-Stmt}
use Rattle.rt_syntax.specs.declared.tree.Stmt as lines
use Rattle.rt_syntax.specs.Statements as line
use Rattle.rt_syntax.specs.Strings.{Texts, Finds, all, in_expr, in_chain, in_cond, in_any, in_locals, in_lines, in_control, in_stat, in_body, in_branch, in_line}
use Rattle.rt_bricks_laws.proofs.Parts.{Counts, opened, a_word, a_mark, a_place, an_ident, a_label}
use Rattle.rt_bricks_laws.proofs.Modes.{mode_by_word_counts}
use Rattle.rt_bricks_laws.proofs.Statements.{names_count}
use Rattle.rt_bricks_laws.proofs.Strings.{Strung, it, not, thn, plain, behind, or_else, maybe, turned}
use Rattle.rt_bricks_laws.proofs.StringExpressions.{all_push, expression_rises, place_rises, condition_rises}

-- ---- those of each

stat_call : (c : Chain) (found : Texts) → in_stat (s.Call c) found ≡ in_chain c found
stat_call c found = let o : out-Simple (s.Call c) ≡ Simple-F.Call c = search simples.the_lemmas in rw (fold_out-Simple, o) refl

stat_assign : (c : Chain) (e : Expr) (at : At) (found : Texts) → in_stat (s.Assign c e at) found ≡ in_expr e (in_chain c found)
stat_assign c e at found = let o : out-Simple (s.Assign c e at) ≡ Simple-F.Assign c e at = search simples.the_lemmas in rw (fold_out-Simple, o) refl

stat_assign_val : (c : Chain) (e : Expr) (at : At) (found : Texts) → in_stat (s.AssignVal c e at) found ≡ in_expr e (in_chain c found)
stat_assign_val c e at found = let o : out-Simple (s.AssignVal c e at) ≡ Simple-F.AssignVal c e at = search simples.the_lemmas in rw (fold_out-Simple, o) refl

stat_goto : (n : Ident) (at : At) (found : Texts) → in_stat (s.Goto n at) found ≡ found
stat_goto n at found = let o : out-Simple (s.Goto n at) ≡ Simple-F.Goto n at = search simples.the_lemmas in rw (fold_out-Simple, o) refl

stat_return : (e : Option Expr) (at : At) (found : Texts) → in_stat (s.Return e at) found ≡ in_any e found
stat_return e at found = let o : out-Simple (s.Return e at) ≡ Simple-F.Return e at = search simples.the_lemmas in rw (fold_out-Simple, o) refl

stat_switch : (e : Expr) (ns : List Ident) (at : At) (found : Texts) → in_stat (s.Switch e ns at) found ≡ in_expr e found
stat_switch e ns at found = let o : out-Simple (s.Switch e ns at) ≡ Simple-F.Switch e ns at = search simples.the_lemmas in rw (fold_out-Simple, o) refl

stat_block : (b : Body) (at : At) (found : Texts) → in_stat (s.Block b at) found ≡ in_body b found
stat_block b at found = let o : out-Simple (s.Block b at) ≡ Simple-F.Block b at = search simples.the_lemmas in rw (fold_out-Simple, o) refl

abbrev others : Option (List Stmt) → Finds
others None found = found
others (Some xs) found = all (map in_line xs) found

stat_if : (bs : List Branch) (e : Option (List Stmt)) (at : At) (found : Texts) → in_stat (s.If bs e at) found ≡ others e (all (map in_branch bs) found)
stat_if bs None at found = let o : out-Simple (s.If bs None at) ≡ Simple-F.If bs None at = search simples.the_lemmas in rw (fold_out-Simple, o) refl
stat_if bs (Some xs) at found = let o : out-Simple (s.If bs (Some xs) at) ≡ Simple-F.If bs (Some xs) at = search simples.the_lemmas in rw (fold_out-Simple, o) refl

stat_for : (k : Option Control) (e : Expr) (xs : List Stmt) (at : At) (found : Texts) → in_stat (s.For k e xs at) found ≡ all (map in_line xs) (in_expr e (in_control k found))
stat_for k e xs at found = let o : out-Simple (s.For k e xs at) ≡ Simple-F.For k e xs at = search simples.the_lemmas in rw (fold_out-Simple, o) refl

stat_while : (d : Cond) (xs : List Stmt) (at : At) (found : Texts) → in_stat (s.While d xs at) found ≡ all (map in_line xs) (in_cond d found)
stat_while d xs at found = let o : out-Simple (s.While d xs at) ≡ Simple-F.While d xs at = search simples.the_lemmas in rw (fold_out-Simple, o) refl

body_by : (b : Body) (x : Body-F Simple Body Branch Stmt) (found : Texts) → out-Body b ≡ x → in_body b found ≡ all (map in_line x.statements) (in_lines x.locals found)
body_by b x found o = rw (fold_out-Body, o) refl

body_of : (x : Body-F Simple Body Branch Stmt) (found : Texts) → in_body (roll-Body x) found ≡ all (map in_line x.statements) (in_lines x.locals found)
body_of x found = body_by (roll-Body x) x found (search bodies.the_lemmas)

branch_by : (b : Branch) (x : Branch-F Simple Body Branch Stmt) (found : Texts) → out-Branch b ≡ x → in_branch b found ≡ all (map in_line x.taken) (in_cond x.test found)
branch_by b x found o = rw (fold_out-Branch, o) refl

branch_of : (x : Branch-F Simple Body Branch Stmt) (found : Texts) → in_branch (roll-Branch x) found ≡ all (map in_line x.taken) (in_cond x.test found)
branch_of x found = branch_by (roll-Branch x) x found (search branches.the_lemmas)

abbrev any_stat : Option Simple → Finds
any_stat None found = found
any_stat (Some x) found = in_stat x found

line_by : (b : Stmt) (x : Stmt-F Simple Body Branch Stmt) (o : Option Simple) (found : Texts) → x.simple ≡ o → out-Stmt b ≡ x → in_line b found ≡ any_stat o found
line_by b x None found e o = rw (fold_out-Stmt, o, e) refl
line_by b x (Some y) found e o = rw (fold_out-Stmt, o, e) refl

line_of : (x : Stmt-F Simple Body Branch Stmt) (found : Texts) → in_line (roll-Stmt x) found ≡ any_stat x.simple found
line_of x found = line_by (roll-Stmt x) x x.simple found refl (search lines.the_lemmas)

locals_push : (ls : List Local) (l : Local) (found : Texts) → in_locals (push ls l) found ≡ in_any l.start (in_locals ls found)
locals_push [] l found = refl
locals_push (k ∷ ks) l found = locals_push ks l (in_any k.start found)

lines_push : (ls : List Locals) (l : Locals) (found : Texts) → in_lines (push ls l) found ≡ in_locals l.names (in_lines ls found)
lines_push [] l found = refl
lines_push (k ∷ ks) l found = lines_push ks l (in_locals k.names found)

-- ---- the lines

module _ (c : Context) (few : c.total < 65536) where
  becomes_rises : (found : Texts) → Strung c.total (line.becomes c) found (λ x. in_expr x found)
  becomes_rises found = behind (a_mark _) (λ _. expression_rises c few found)

  local_rises : (found : Texts) → Strung c.total (line.local c) found (λ l. in_any l.start found)
  local_rises found = behind (an_ident c.total) (λ n. thn {f = λ o. in_any o found} (maybe (becomes_rises found) (λ e. refl) refl) (λ start. it refl))

  local_list_rises : (found : Texts) → Strung c.total (line.local_list c) found (λ ls. in_locals ls found)
  local_list_rises found = thn (local_rises found) (λ first. turned c.total push _ (λ ls. in_locals ls found) (λ l so_far. in_any l.start so_far) (λ so_far. behind (a_mark _) (λ _. local_rises so_far)) (λ ls l. locals_push ls l found) refl)

  locals_rise : (found : Texts) → Strung c.total (line.locals c) found (λ l. in_locals l.names found)
  locals_rise found = behind (a_place c.total) (λ at. behind (mode_by_word_counts c) (λ mode. thn (local_list_rises found) (λ ls. behind (a_mark _) (λ _. it refl))))

  chained_rises : (found : Texts) → Strung c.total (line.chained c) found (λ x. in_stat x found)
  chained_rises found = behind (a_place c.total) (λ at. thn (place_rises c few found) (λ to. or_else (thn (becomes_rises (in_chain to found)) (λ a. it (stat_assign to a at found))) (it (stat_call to found))))

  assignment_rises : (found : Texts) → Strung c.total (line.assignment_by_val c) found (λ x. in_stat x found)
  assignment_rises found = behind (a_place c.total) (λ at. behind (a_word _) (λ _. thn (place_rises c few found) (λ to. thn (becomes_rises (in_chain to found)) (λ a. it (stat_assign_val to a at found)))))

  jump_rises : (found : Texts) → Strung c.total (line.jump c) found (λ x. in_stat x found)
  jump_rises found = behind (a_place c.total) (λ at. behind (a_word _) (λ _. behind (an_ident c.total) (λ n. it (stat_goto n at found))))

  returned_rises : (found : Texts) → Strung c.total (line.returned c) found (λ x. in_stat x found)
  returned_rises found = behind (a_place c.total) (λ at. behind (a_word _) (λ _. thn {f = λ o. in_any o found} (maybe (expression_rises c few found) (λ e. refl) refl) (λ a. it (stat_return a at found))))

  switch_rises : (found : Texts) → Strung c.total (line.switch c) found (λ x. in_stat x found)
  switch_rises found = behind (a_place c.total) (λ at. behind (a_word _) (λ _. thn (expression_rises c few found) (λ a. behind (a_word _) (λ _. behind (names_count c) (λ ns. it (stat_switch a ns at found))))))

  control_rises : (levels : ℕ) (found : Texts) → Strung c.total (line.control c levels) found (λ k. in_control (Some k) found)
  control_rises levels found = behind (a_place c.total) (λ at. behind (opened levels (a_word _)) (λ _. behind (an_ident c.total) (λ n. thn (becomes_rises found) (λ start.
      thn {f = λ o. in_any o (in_expr start found)} (maybe (behind (a_word _) (λ _. expression_rises c few (in_expr start found))) (λ e. refl) refl) (λ step. it refl)))))

  loop_head_rises : (levels : ℕ) (found : Texts) → Strung c.total (line.loop_head c levels) found (λ k. in_control k found)
  loop_head_rises levels found = or_else (thn (control_rises levels found) (λ k. behind (a_word _) (λ _. it refl))) (behind (opened levels (a_word _)) (λ _. it refl))

  module _ (levels : ℕ) (inner : Part (List Stmt)) (h : (found : Texts) → Strung c.total inner found (λ xs. all (map in_line xs) found)) where
    body_rises : (found : Texts) → Strung c.total (line.body_of c levels inner) found (λ b. in_body b found)
    body_rises found = behind (a_place c.total) (λ at. thn (turned c.total push _ (λ ls. in_lines ls found) (λ l so_far. in_locals l.names so_far) locals_rise (λ ls l. lines_push ls l found) refl) (λ ls.
        thn (h (in_lines ls found)) (λ ss. it (body_of (record { locals = ls; statements = ss; at = at }) found))))

    block_rises : (found : Texts) → Strung c.total (line.block c levels inner) found (λ x. in_stat x found)
    block_rises found = behind (a_place c.total) (λ at. behind (opened levels (a_word _)) (λ _. thn (body_rises found) (λ b. behind (a_word _) (λ _. it (stat_block b at found)))))

    branch_rises : (first : Part (Unit {0})) → Counts 0 first (λ _. 1) → (found : Texts) → Strung c.total (line.branch c levels inner first) found (λ b. in_branch b found)
    branch_rises first g found = behind (a_place c.total) (λ at. behind g (λ _. thn (condition_rises c few found) (λ test. behind (a_word _) (λ _. thn (h (in_cond test found)) (λ taken.
        it (branch_of (record { test = test; taken = taken; at = at }) found))))))

    branches_rise : (found : Texts) → Strung c.total (line.branches c levels inner) found (λ bs. all (map in_branch bs) found)
    branches_rise found = thn (branch_rises _ (opened levels (a_word _)) found) (λ first. turned c.total push _ (λ bs. all (map in_branch bs) found) in_branch (branch_rises _ (a_word _)) (λ bs b. all_push in_branch bs b found) refl)

    conditional_rises : (found : Texts) → Strung c.total (line.conditional c levels inner) found (λ x. in_stat x found)
    conditional_rises found = behind (a_place c.total) (λ at. thn (branches_rise found) (λ bs. thn {f = λ o. others o (all (map in_branch bs) found)} (maybe (behind (a_word _) (λ _. h (all (map in_branch bs) found))) (λ xs. refl) refl) (λ other.
        behind (a_word _) (λ _. it (stat_if bs other at found)))))

    for_rises : (found : Texts) → Strung c.total (line.for_loop c levels inner) found (λ x. in_stat x found)
    for_rises found = behind (a_place c.total) (λ at. thn (loop_head_rises levels found) (λ k. thn (expression_rises c few (in_control k found)) (λ limit. behind (a_word _) (λ _. thn (h (in_expr limit (in_control k found))) (λ ss.
        behind (a_word _) (λ _. it (stat_for k limit ss at found)))))))

    while_rises : (found : Texts) → Strung c.total (line.while_loop c levels inner) found (λ x. in_stat x found)
    while_rises found = behind (a_place c.total) (λ at. behind (opened levels (a_word _)) (λ _. thn (condition_rises c few found) (λ test. behind (a_word _) (λ _. thn (h (in_cond test found)) (λ ss.
        behind (a_word _) (λ _. it (stat_while test ss at found)))))))

    simple_rises : (found : Texts) → Strung c.total (line.simple c levels inner) found (λ x. in_stat x found)
    simple_rises found = or_else (chained_rises found) (or_else (assignment_rises found) (or_else (jump_rises found) (or_else (returned_rises found) (or_else (switch_rises found)
        (or_else (block_rises found) (or_else (conditional_rises found) (or_else (while_rises found) (for_rises found))))))))

    labels_plain : (found : Texts) → Strung c.total (label c.total) found (λ _. found)
    labels_plain found = plain (a_label c.total)

    statement_rises : (found : Texts) → Strung c.total (line.statement c levels inner) found (λ x. in_line x found)
    statement_rises found = behind (a_place c.total) (λ at. thn (turned c.total push _ (λ _. found) (λ _ so_far. so_far) labels_plain (λ ls l. refl) refl) (λ ls.
        thn {f = λ o. any_stat o found} (maybe (simple_rises found) (λ x. refl) refl) (λ simple. it (line_of (record { labels = ls; simple = simple; at = at }) found))))

    sequence_rises : (found : Texts) → Strung c.total (line.sequence_of c levels inner) found (λ xs. all (map in_line xs) found)
    sequence_rises found = thn (statement_rises found) (λ first. turned c.total push _ (λ xs. all (map in_line xs) found) in_line (λ so_far. behind (a_mark _) (λ _. statement_rises so_far)) (λ xs x. all_push in_line xs x found) refl)

  inside_rises : (levels : ℕ) (found : Texts) → Strung c.total (line.inside c levels) found (λ xs. all (map in_line xs) found)
  unfolding line.inside
  inside_rises zero found = not
  inside_rises (suc levels) found = sequence_rises levels (line.inside c levels) (inside_rises levels) found

  pub derived_body_rises : (found : Texts) → Strung c.total (line.body c) found (λ b. in_body b found)
  derived_body_rises found = body_rises c.limits.statements (line.sequence c) (sequence_rises c.limits.statements (line.inside c c.limits.statements) (inside_rises c.limits.statements)) found
