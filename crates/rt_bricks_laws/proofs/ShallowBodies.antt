-- The modes of a body that is derived are shallow.
use Rattle.std.proofs.Common.{◌≡◌, ℕ, zero, suc, Bool, true, ◌&&◌, List, map, Option, Some, None, refl, ◌∙◌}
use Rattle.rt_grammar.specs.declared.at.At.{At}
use Rattle.rt_grammar.specs.Parts.{Part, push}
use Rattle.rt_syntax_exprs.specs.declared.tree.Cond.{Cond}
use Rattle.rt_syntax_exprs.specs.declared.tree.Expr.{Expr}
use Rattle.rt_syntax.specs.declared.tree.Body.{Body, out-Body, roll-Body}
use Rattle.rt_syntax.specs.declared.tree.Body as bodies
use Rattle.rt_syntax.specs.declared.tree.Branch.{Branch, out-Branch, roll-Branch}
use Rattle.rt_syntax.specs.declared.tree.Branch as branches
use Rattle.rt_syntax.specs.declared.tree.Control.{Control}
use Rattle.rt_syntax.specs.declared.tree.Simple.{Simple, out-Simple, map-Simple}
use Rattle.rt_syntax.specs.declared.tree.Simple as simples
use Rattle.rt_syntax.specs.declared.tree.Simple.TheFolds.{fold_out-Simple, fold_out-Body, fold_out-Branch, fold_out-Stmt}
use Rattle.rt_syntax.specs.declared.tree.Simple.TheOpen.{Simple-F, Body-F, Branch-F, Stmt-F}
use Rattle.rt_syntax.specs.declared.tree.Simple.TheVariants as s
use Rattle.rt_syntax.specs.declared.tree.Stmt.{Stmt, out-Stmt, roll-Stmt}
use Rattle.rt_syntax.specs.declared.tree.Stmt as lines
use Rattle.rt_syntax.specs.Statements as line
use Rattle.rt_bricks_laws.specs.Bodies.{all}
use Rattle.rt_bricks_laws.specs.Modes.{locals_shallow, simple_modes, simple_is_shallow, body_is_shallow, branch_is_shallow, line_is_shallow}
use Rattle.rt_bricks_laws.proofs.Truths.{both, all_push}
use Rattle.rt_bricks_laws.proofs.Yields.{Yields, it, not, thn, behind, or_else, maybe, turned}
use Rattle.rt_bricks_laws.proofs.Shallow.{here, by_word_shallow}

abbrev Shallow : Simple → Type 0
Shallow x = simple_is_shallow x ≡ true

abbrev AllShallow : List Stmt → Type 0
AllShallow xs = all (map line_is_shallow xs) ≡ true

shallow_at : (x : Simple) (l : Simple-F Simple Body Branch Stmt) → out-Simple x ≡ l
    → simple_is_shallow x ≡ simple_modes (map-Simple Simple Body Branch Stmt Bool Bool Bool Bool simple_is_shallow body_is_shallow branch_is_shallow line_is_shallow l)
shallow_at x l o = rw (fold_out-Simple, o) refl

shallow_block : (b : Body) (at : At) → body_is_shallow b ≡ true → Shallow (s.Block b at)
shallow_block b at h = shallow_at (s.Block b at) (Simple-F.Block b at) (search simples.the_lemmas) ∙ h

shallow_for : (k : Option Control) (e : Expr) (xs : List Stmt) (at : At) → AllShallow xs → Shallow (s.For k e xs at)
shallow_for k e xs at h = shallow_at (s.For k e xs at) (Simple-F.For k e xs at) (search simples.the_lemmas) ∙ h

shallow_while : (d : Cond) (xs : List Stmt) (at : At) → AllShallow xs → Shallow (s.While d xs at)
shallow_while d xs at h = shallow_at (s.While d xs at) (Simple-F.While d xs at) (search simples.the_lemmas) ∙ h

ElseShallow : Option (List Stmt) → Type 0
ElseShallow None = Unit {0}
ElseShallow (Some xs) = AllShallow xs

shallow_if : (bs : List Branch) (e : Option (List Stmt)) (at : At) → all (map branch_is_shallow bs) ≡ true → ElseShallow e → Shallow (s.If bs e at)
unfolding ElseShallow
shallow_if bs None at h k = shallow_at (s.If bs None at) (Simple-F.If bs None at) (search simples.the_lemmas) ∙ both (all (map branch_is_shallow bs)) true h refl
shallow_if bs (Some xs) at h k = shallow_at (s.If bs (Some xs) at) (Simple-F.If bs (Some xs) at) (search simples.the_lemmas) ∙ both (all (map branch_is_shallow bs)) (all (map line_is_shallow xs)) h k

body_by : (b : Body) (x : Body-F Simple Body Branch Stmt) → out-Body b ≡ x → body_is_shallow b ≡ all (map locals_shallow x.locals) && all (map line_is_shallow x.statements)
body_by b x o = rw (fold_out-Body, o) refl

shallow_body : (x : Body-F Simple Body Branch Stmt) → all (map locals_shallow x.locals) ≡ true → AllShallow x.statements → body_is_shallow (roll-Body x) ≡ true
shallow_body x h k = body_by (roll-Body x) x (search bodies.the_lemmas) ∙ both (all (map locals_shallow x.locals)) (all (map line_is_shallow x.statements)) h k

branch_by : (b : Branch) (x : Branch-F Simple Body Branch Stmt) → out-Branch b ≡ x → branch_is_shallow b ≡ all (map line_is_shallow x.taken)
branch_by b x o = rw (fold_out-Branch, o) refl

shallow_branch : (x : Branch-F Simple Body Branch Stmt) → AllShallow x.taken → branch_is_shallow (roll-Branch x) ≡ true
shallow_branch x h = branch_by (roll-Branch x) x (search branches.the_lemmas) ∙ h

AnyShallow : Option Simple → Type 0
AnyShallow None = Unit {0}
AnyShallow (Some x) = Shallow x

line_by : (b : Stmt) (x : Stmt-F Simple Body Branch Stmt) (o : Option Simple) → x.simple ≡ o → out-Stmt b ≡ x → AnyShallow o → line_is_shallow b ≡ true
unfolding AnyShallow
line_by b x None e o h = rw (fold_out-Stmt, o, e) refl
line_by b x (Some y) e o h = rw (fold_out-Stmt, o, e) h

shallow_line : (x : Stmt-F Simple Body Branch Stmt) → AnyShallow x.simple → line_is_shallow (roll-Stmt x) ≡ true
shallow_line x h = line_by (roll-Stmt x) x x.simple refl (search lines.the_lemmas) h

-- ---- the lines

locals_line : (total : ℕ) → Yields (line.locals (here total)) (λ l. locals_shallow l ≡ true)
locals_line total = behind (λ at. thn (by_word_shallow total) (λ md h. behind (λ all. behind (λ _. it h))))

chained_shallow : (total : ℕ) → Yields (line.chained (here total)) Shallow
chained_shallow total = behind (λ at. behind (λ to. or_else
    (behind (λ a. it (shallow_at (s.Assign to a at) (Simple-F.Assign to a at) (search simples.the_lemmas))))
    (it (shallow_at (s.Call to) (Simple-F.Call to) (search simples.the_lemmas)))))

assignment_shallow : (total : ℕ) → Yields (line.assignment_by_val (here total)) Shallow
assignment_shallow total = behind (λ at. behind (λ _. behind (λ to. behind (λ a. it (shallow_at (s.AssignVal to a at) (Simple-F.AssignVal to a at) (search simples.the_lemmas))))))

jump_shallow : (total : ℕ) → Yields (line.jump (here total)) Shallow
jump_shallow total = behind (λ at. behind (λ _. behind (λ n. it (shallow_at (s.Goto n at) (Simple-F.Goto n at) (search simples.the_lemmas)))))

returned_shallow : (total : ℕ) → Yields (line.returned (here total)) Shallow
returned_shallow total = behind (λ at. behind (λ _. behind (λ a. it (shallow_at (s.Return a at) (Simple-F.Return a at) (search simples.the_lemmas)))))

switch_shallow : (total : ℕ) → Yields (line.switch (here total)) Shallow
switch_shallow total = behind (λ at. behind (λ _. behind (λ a. behind (λ _. behind (λ ns. it (shallow_at (s.Switch a ns at) (Simple-F.Switch a ns at) (search simples.the_lemmas)))))))

module _ (total levels : ℕ) (inner : Part (List Stmt)) (h : Yields inner AllShallow) where
  body_shallow : Yields (line.body_of (here total) levels inner) (λ b. body_is_shallow b ≡ true)
  body_shallow = behind (λ at. thn (turned push _ (λ l. locals_shallow l ≡ true) (λ ls. all (map locals_shallow ls) ≡ true) (locals_line total) (λ ls l k g. all_push locals_shallow ls l k g) refl) (λ ls g.
      thn h (λ ss k. it (shallow_body (record { locals = ls; statements = ss; at = at }) g k))))

  block_shallow : Yields (line.block (here total) levels inner) Shallow
  block_shallow = behind (λ at. behind (λ _. thn body_shallow (λ b k. behind (λ _. it (shallow_block b at k)))))

  branch_shallow : (first : Part (Unit {0})) → Yields (line.branch (here total) levels inner first) (λ b. branch_is_shallow b ≡ true)
  branch_shallow first = behind (λ at. behind (λ _. behind (λ test. behind (λ _. thn h (λ taken k. it (shallow_branch (record { test = test; taken = taken; at = at }) k))))))

  branches_shallow : Yields (line.branches (here total) levels inner) (λ bs. all (map branch_is_shallow bs) ≡ true)
  branches_shallow = thn (branch_shallow _) (λ first g. turned push _ (λ b. branch_is_shallow b ≡ true) (λ bs. all (map branch_is_shallow bs) ≡ true) (branch_shallow _)
      (λ bs b k f. all_push branch_is_shallow bs b k f) (both (branch_is_shallow first) true g refl))

  conditional_shallow : Yields (line.conditional (here total) levels inner) Shallow
  unfolding ElseShallow
  conditional_shallow = behind (λ at. thn branches_shallow (λ bs k. thn {P = ElseShallow} (maybe (behind (λ _. h)) (λ xs g. g) tt) (λ other g. behind (λ _. it (shallow_if bs other at k g)))))

  for_shallow : Yields (line.for_loop (here total) levels inner) Shallow
  for_shallow = behind (λ at. behind (λ k. behind (λ limit. behind (λ _. thn h (λ ss g. behind (λ _. it (shallow_for k limit ss at g)))))))

  while_shallow : Yields (line.while_loop (here total) levels inner) Shallow
  while_shallow = behind (λ at. behind (λ _. behind (λ test. behind (λ _. thn h (λ ss k. behind (λ _. it (shallow_while test ss at k)))))))

  simple_shallow : Yields (line.simple (here total) levels inner) Shallow
  simple_shallow = or_else (chained_shallow total) (or_else (assignment_shallow total) (or_else (jump_shallow total) (or_else (returned_shallow total) (or_else (switch_shallow total)
      (or_else block_shallow (or_else conditional_shallow (or_else while_shallow for_shallow)))))))

  statement_shallow : Yields (line.statement (here total) levels inner) (λ x. line_is_shallow x ≡ true)
  unfolding AnyShallow
  statement_shallow = behind (λ at. behind (λ ls. thn {P = AnyShallow} (maybe simple_shallow (λ x k. k) tt) (λ simple k. it (shallow_line (record { labels = ls; simple = simple; at = at }) k))))

  sequence_shallow : Yields (line.sequence_of (here total) levels inner) AllShallow
  sequence_shallow = thn statement_shallow (λ first g. turned push _ (λ x. line_is_shallow x ≡ true) AllShallow (behind (λ _. statement_shallow)) (λ xs x k f. all_push line_is_shallow xs x k f) (both (line_is_shallow first) true g refl))

inside_shallow : (total levels : ℕ) → Yields (line.inside (here total) levels) AllShallow
unfolding line.inside
inside_shallow total zero = not
inside_shallow total (suc levels) = sequence_shallow total levels (line.inside (here total) levels) (inside_shallow total levels)

pub derived_body_shallow : (total : ℕ) → Yields (line.body (here total)) (λ b. body_is_shallow b ≡ true)
derived_body_shallow total = body_shallow total 100 (line.sequence (here total)) (sequence_shallow total 100 (line.inside (here total) 100) (inside_shallow total 100))
