-- A body that is derived is broad: a SWITCH has a label, an IF a branch, and what AND and OR join are two or more.
use Rattle.std.proofs.Common.{◌≡◌, ℕ, zero, suc, ◌<◌, ◌≤◌, Bool, true, ◌&&◌, List, [], ◌∷◌, length, map, Option, Some, None, refl, ◌∙◌, arith}
use Rattle.std.specs.Prelude.{nat_lt, nat_le}
use Rattle.std.proofs.lemmas.Bool.{le-leb}
use Rattle.rt_grammar.specs.declared.at.At.{At}
use Rattle.rt_grammar.specs.declared.at.Ident.{Ident}
use Rattle.rt_grammar.specs.Parts.{Part, push}
use Rattle.rt_syntax_exprs.specs.declared.limits.Context.{Context}
use Rattle.rt_syntax_exprs.specs.declared.tree.Expr.{Expr}
use Rattle.rt_syntax_exprs.specs.declared.tree.Rel.{Rel}
use Rattle.rt_syntax_exprs.specs.declared.tree.Cond.{Cond, out-Cond}
use Rattle.rt_syntax_exprs.specs.declared.tree.Cond as conditions
use Rattle.rt_syntax_exprs.specs.declared.tree.Cond.TheFolds.{fold_out-Cond}
use Rattle.rt_syntax_exprs.specs.declared.tree.Cond.TheOpen.{Cond-F}
use Rattle.rt_syntax_exprs.specs.declared.tree.Cond.TheVariants as cond
use Rattle.rt_syntax_exprs.specs.Expressions as expression
use Rattle.rt_syntax.specs.declared.tree.Body.{Body, out-Body, roll-Body}
use Rattle.rt_syntax.specs.declared.tree.Body as bodies
use Rattle.rt_syntax.specs.declared.tree.Branch.{Branch, out-Branch, roll-Branch}
use Rattle.rt_syntax.specs.declared.tree.Branch as branches
use Rattle.rt_syntax.specs.declared.tree.Control.{Control}
use Rattle.rt_syntax.specs.declared.tree.Simple.{Simple, out-Simple, map-Simple}
use Rattle.rt_syntax.specs.declared.tree.Simple as simples
use Rattle.rt_syntax.specs.declared.tree.Simple.TheFolds.{fold_out-Simple, fold_out-Body, fold_out-Branch, fold_out-Stmt}
use Rattle.rt_syntax.specs.declared.tree.Simple.TheOpen.{Simple-F, Body-F, Branch-F, Stmt-F}
use Rattle.rt_syntax.specs.declared.tree.Simple.TheVariants as s
use Rattle.rt_syntax.specs.declared.tree.Stmt.{Stmt, out-Stmt, roll-Stmt}
use Rattle.rt_syntax.specs.declared.tree.Stmt as lines
use Rattle.rt_syntax.specs.Statements as line
use Rattle.rt_syntax_exprs.specs.Joins.{joins_two, all_true}
use Rattle.rt_bricks_laws.specs.Bodies.{all, simple_stands, simple_is_broad, body_is_broad, branch_is_broad, line_is_broad}
use Rattle.rt_bricks_laws.proofs.Truths.{both, all_push, all_true_push, more_push}
use Rattle.rt_bricks_laws.proofs.Yields.{Yields, it, not, thn, behind, or_else, maybe, turned}

-- ---- conditions

abbrev Joins : Cond → Type 0
Joins d = joins_two d ≡ true

compare_joins : (r : Rel) (a b : Expr) (at : At) → Joins (cond.Compare r a b at)
unfolding joins_two
compare_joins r a b at = let o : out-Cond (cond.Compare r a b at) ≡ Cond-F.Compare r a b at = search conditions.the_lemmas in rw (fold_out-Cond, o) refl

and_joins : (cs : List Cond) (at : At) → joins_two (cond.And cs at) ≡ nat_le 2 (length (map joins_two cs)) && all_true (map joins_two cs)
unfolding joins_two
and_joins cs at = let o : out-Cond (cond.And cs at) ≡ Cond-F.And cs at = search conditions.the_lemmas in rw (fold_out-Cond, o) refl

or_joins : (cs : List Cond) (at : At) → joins_two (cond.Or cs at) ≡ nat_le 2 (length (map joins_two cs)) && all_true (map joins_two cs)
unfolding joins_two
or_joins cs at = let o : out-Cond (cond.Or cs at) ≡ Cond-F.Or cs at = search conditions.the_lemmas in rw (fold_out-Cond, o) refl

record AreTwo (cs : List Cond) : Type 0 where
  two : 2 ≤ length (map joins_two cs)
  join : all_true (map joins_two cs) ≡ true

two_more : (cs : List Cond) (x : Cond) → AreTwo cs → Joins x → AreTwo (push cs x)
two_more cs x h k = record { two = more_push joins_two 2 cs x h.two; join = all_true_push joins_two cs x h.join k }

first_two : (a b : Cond) → Joins a → Joins b → AreTwo (a ∷ b ∷ [])
first_two a b h k = record { two = omega arith; join = both (joins_two a) (joins_two b && true) h (both (joins_two b) true k refl) }

two_join : (cs : List Cond) → AreTwo cs → nat_le 2 (length (map joins_two cs)) && all_true (map joins_two cs) ≡ true
two_join cs h = both (nat_le 2 (length (map joins_two cs))) (all_true (map joins_two cs)) (le-leb 2 (length (map joins_two cs)) h.two) h.join

comparison_joins : (c : Context) → Yields (expression.comparison c) Joins
comparison_joins c = behind (λ at. behind (λ a. behind (λ r. behind (λ b. it (compare_joins r a b at)))))

conjunction_joins : (c : Context) → Yields (expression.conjunction c) Joins
conjunction_joins c = behind (λ at. thn (comparison_joins c) (λ first h. or_else
    (thn (behind (λ _. comparison_joins c)) (λ second k. thn (turned push _ Joins AreTwo (behind (λ _. comparison_joins c)) two_more (first_two first second h k)) (λ cs g. it (and_joins cs at ∙ two_join cs g))))
    (it h)))

condition_joins : (c : Context) → Yields (expression.condition c) Joins
condition_joins c = behind (λ at. thn (conjunction_joins c) (λ first h. or_else
    (thn (behind (λ _. conjunction_joins c)) (λ second k. thn (turned push _ Joins AreTwo (behind (λ _. conjunction_joins c)) two_more (first_two first second h k)) (λ cs g. it (or_joins cs at ∙ two_join cs g))))
    (it h)))

-- ---- statements

abbrev Broad : Simple → Type 0
Broad x = simple_is_broad x ≡ true

abbrev AllBroad : List Stmt → Type 0
AllBroad xs = all (map line_is_broad xs) ≡ true

broad_at : (x : Simple) (l : Simple-F Simple Body Branch Stmt) → out-Simple x ≡ l
    → simple_is_broad x ≡ simple_stands (map-Simple Simple Body Branch Stmt Bool Bool Bool Bool simple_is_broad body_is_broad branch_is_broad line_is_broad l)
broad_at x l o = rw (fold_out-Simple, o) refl

broad_switch : (e : Expr) (ns : List Ident) (at : At) → 0 < length ns → Broad (s.Switch e ns at)
broad_switch e ns at h = broad_at (s.Switch e ns at) (Simple-F.Switch e ns at) (search simples.the_lemmas) ∙ le-leb 1 (length ns) h

broad_block : (b : Body) (at : At) → body_is_broad b ≡ true → Broad (s.Block b at)
broad_block b at h = broad_at (s.Block b at) (Simple-F.Block b at) (search simples.the_lemmas) ∙ h

broad_for : (k : Option Control) (e : Expr) (xs : List Stmt) (at : At) → AllBroad xs → Broad (s.For k e xs at)
broad_for k e xs at h = broad_at (s.For k e xs at) (Simple-F.For k e xs at) (search simples.the_lemmas) ∙ h

broad_while : (d : Cond) (xs : List Stmt) (at : At) → Joins d → AllBroad xs → Broad (s.While d xs at)
broad_while d xs at h k = broad_at (s.While d xs at) (Simple-F.While d xs at) (search simples.the_lemmas) ∙ both (joins_two d) (all (map line_is_broad xs)) h k

record AreBranches (bs : List Branch) : Type 0 where
  some : 1 ≤ length (map branch_is_broad bs)
  broad : all (map branch_is_broad bs) ≡ true

ElseBroad : Option (List Stmt) → Type 0
ElseBroad None = Unit {0}
ElseBroad (Some xs) = AllBroad xs

broad_if : (bs : List Branch) (e : Option (List Stmt)) (at : At) → AreBranches bs → ElseBroad e → Broad (s.If bs e at)
unfolding ElseBroad
broad_if bs None at h k = broad_at (s.If bs None at) (Simple-F.If bs None at) (search simples.the_lemmas)
    ∙ both (nat_lt 0 (length (map branch_is_broad bs))) (all (map branch_is_broad bs) && true) (le-leb 1 (length (map branch_is_broad bs)) h.some) (both (all (map branch_is_broad bs)) true h.broad refl)
broad_if bs (Some xs) at h k = broad_at (s.If bs (Some xs) at) (Simple-F.If bs (Some xs) at) (search simples.the_lemmas)
    ∙ both (nat_lt 0 (length (map branch_is_broad bs))) (all (map branch_is_broad bs) && all (map line_is_broad xs)) (le-leb 1 (length (map branch_is_broad bs)) h.some) (both (all (map branch_is_broad bs)) (all (map line_is_broad xs)) h.broad k)

body_by : (b : Body) (x : Body-F Simple Body Branch Stmt) → out-Body b ≡ x → body_is_broad b ≡ all (map line_is_broad x.statements)
body_by b x o = rw (fold_out-Body, o) refl

broad_body : (x : Body-F Simple Body Branch Stmt) → AllBroad x.statements → body_is_broad (roll-Body x) ≡ true
broad_body x h = body_by (roll-Body x) x (search bodies.the_lemmas) ∙ h

branch_by : (b : Branch) (x : Branch-F Simple Body Branch Stmt) → out-Branch b ≡ x → branch_is_broad b ≡ joins_two x.test && all (map line_is_broad x.taken)
branch_by b x o = rw (fold_out-Branch, o) refl

broad_branch : (x : Branch-F Simple Body Branch Stmt) → Joins x.test → AllBroad x.taken → branch_is_broad (roll-Branch x) ≡ true
broad_branch x h k = branch_by (roll-Branch x) x (search branches.the_lemmas) ∙ both (joins_two x.test) (all (map line_is_broad x.taken)) h k

AnyBroad : Option Simple → Type 0
AnyBroad None = Unit {0}
AnyBroad (Some x) = Broad x

line_by : (b : Stmt) (x : Stmt-F Simple Body Branch Stmt) (o : Option Simple) → x.simple ≡ o → out-Stmt b ≡ x → AnyBroad o → line_is_broad b ≡ true
unfolding AnyBroad
line_by b x None e o h = rw (fold_out-Stmt, o, e) refl
line_by b x (Some y) e o h = rw (fold_out-Stmt, o, e) h

broad_line : (x : Stmt-F Simple Body Branch Stmt) → AnyBroad x.simple → line_is_broad (roll-Stmt x) ≡ true
broad_line x h = line_by (roll-Stmt x) x x.simple refl (search lines.the_lemmas) h

-- ---- the lines

chained_broad : (c : Context) → Yields (line.chained c) Broad
chained_broad c = behind (λ at. behind (λ to. or_else
    (behind (λ a. it (broad_at (s.Assign to a at) (Simple-F.Assign to a at) (search simples.the_lemmas))))
    (it (broad_at (s.Call to) (Simple-F.Call to) (search simples.the_lemmas)))))

assignment_broad : (c : Context) → Yields (line.assignment_by_val c) Broad
assignment_broad c = behind (λ at. behind (λ _. behind (λ to. behind (λ a. it (broad_at (s.AssignVal to a at) (Simple-F.AssignVal to a at) (search simples.the_lemmas))))))

jump_broad : (c : Context) → Yields (line.jump c) Broad
jump_broad c = behind (λ at. behind (λ _. behind (λ n. it (broad_at (s.Goto n at) (Simple-F.Goto n at) (search simples.the_lemmas)))))

returned_broad : (c : Context) → Yields (line.returned c) Broad
returned_broad c = behind (λ at. behind (λ _. behind (λ a. it (broad_at (s.Return a at) (Simple-F.Return a at) (search simples.the_lemmas)))))

length_push : (ns : List Ident) (n : Ident) → 0 < length (push ns n)
length_push [] n = omega arith
length_push (m ∷ ns) n = omega arith

names_some : (c : Context) → Yields (line.names c) (λ ns. 0 < length ns)
names_some c = behind (λ first. turned push _ (λ _. Unit {0}) (λ ns. 0 < length ns) (record { yields = λ l r n fits. tt }) (λ ns n h k. length_push ns n) (omega arith))

switch_broad : (c : Context) → Yields (line.switch c) Broad
switch_broad c = behind (λ at. behind (λ _. behind (λ a. behind (λ _. thn (names_some c) (λ ns h. it (broad_switch a ns at h))))))

module _ (c : Context) (levels : ℕ) (inner : Part (List Stmt)) (h : Yields inner AllBroad) where
  body_broad : Yields (line.body_of c levels inner) (λ b. body_is_broad b ≡ true)
  body_broad = behind (λ at. behind (λ ls. thn h (λ ss k. it (broad_body (record { locals = ls; statements = ss; at = at }) k))))

  block_broad : Yields (line.block c levels inner) Broad
  block_broad = behind (λ at. behind (λ _. thn body_broad (λ b k. behind (λ _. it (broad_block b at k)))))

  branch_broad : (first : Part (Unit {0})) → Yields (line.branch c levels inner first) (λ b. branch_is_broad b ≡ true)
  branch_broad first = behind (λ at. behind (λ _. thn (condition_joins c) (λ test g. behind (λ _. thn h (λ taken k. it (broad_branch (record { test = test; taken = taken; at = at }) g k))))))

  branches_broad : Yields (line.branches c levels inner) AreBranches
  branches_broad = thn (branch_broad _) (λ first g. turned push _ (λ b. branch_is_broad b ≡ true) AreBranches (branch_broad _)
      (λ bs b k g. record { some = more_push branch_is_broad 1 bs b k.some; broad = all_push branch_is_broad bs b k.broad g })
      (record { some = omega arith; broad = both (branch_is_broad first) true g refl }))

  conditional_broad : Yields (line.conditional c levels inner) Broad
  unfolding ElseBroad
  conditional_broad = behind (λ at. thn branches_broad (λ bs k. thn {P = ElseBroad} (maybe (behind (λ _. h)) (λ xs g. g) tt) (λ other g. behind (λ _. it (broad_if bs other at k g)))))

  for_broad : Yields (line.for_loop c levels inner) Broad
  for_broad = behind (λ at. behind (λ k. behind (λ limit. behind (λ _. thn h (λ ss g. behind (λ _. it (broad_for k limit ss at g)))))))

  while_broad : Yields (line.while_loop c levels inner) Broad
  while_broad = behind (λ at. behind (λ _. thn (condition_joins c) (λ test g. behind (λ _. thn h (λ ss k. behind (λ _. it (broad_while test ss at g k)))))))

  simple_broad : Yields (line.simple c levels inner) Broad
  simple_broad = or_else (chained_broad c) (or_else (assignment_broad c) (or_else (jump_broad c) (or_else (returned_broad c) (or_else (switch_broad c)
      (or_else block_broad (or_else conditional_broad (or_else while_broad for_broad)))))))

  statement_broad : Yields (line.statement c levels inner) (λ x. line_is_broad x ≡ true)
  unfolding AnyBroad
  statement_broad = behind (λ at. behind (λ ls. thn {P = AnyBroad} (maybe simple_broad (λ x k. k) tt) (λ it' k. it (broad_line (record { labels = ls; simple = it'; at = at }) k))))

  sequence_broad : Yields (line.sequence_of c levels inner) AllBroad
  sequence_broad = thn statement_broad (λ first g. turned push _ (λ x. line_is_broad x ≡ true) AllBroad (behind (λ _. statement_broad)) (λ xs x k g. all_push line_is_broad xs x k g) (both (line_is_broad first) true g refl))

inside_broad : (c : Context) (levels : ℕ) → Yields (line.inside c levels) AllBroad
unfolding line.inside
inside_broad c zero = not
inside_broad c (suc levels) = sequence_broad c levels (line.inside c levels) (inside_broad c levels)

pub body_is_derived_broad : (c : Context) → Yields (line.body c) (λ b. body_is_broad b ≡ true)
body_is_derived_broad c = body_broad c c.limits.statements (line.sequence c) (sequence_broad c c.limits.statements (line.inside c c.limits.statements) (inside_broad c c.limits.statements))
