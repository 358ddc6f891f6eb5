-- Statements with parts name locals where these have a value, where the parts do.
use Rattle.std.proofs.Common.{◌≡◌, ◌⊎◌, inl, inr, ℕ, ◌+◌, ◌<◌, true, List, [], ◌∷◌, ◌++◌, map, Option, Some, None, append_assoc, arith, refl, sym, ap, ◌∙◌, subst}
use Rattle.std.specs.Prelude.{slice_get}
use Rattle.std.proofs.lemmas.List.{append-nil}
use Rattle.rt_grammar.specs.declared.at.At.{At}
use Rattle.rt_syntax_exprs.specs.declared.tree.Cond.{Cond as Written}
use Rattle.rt_syntax_exprs.specs.declared.tree.Expr.{Expr}
use Rattle.rt_modes.specs.declared.mode.Mode.{out-Mode}
use Rattle.rt_modes.specs.declared.mode.Mode as mode_lemmas
use Rattle.rt_modes.specs.declared.mode.Mode.TheOpen.{Mode-F}
use Rattle.rt_modes.specs.declared.mode.Mode.TheVariants as mode
use Rattle.rt_syntax.specs.declared.tree.Control.{Control}
use Rattle.rt_syntax.specs.declared.tree.Locals.{Locals}
use Rattle.rt_syntax.specs.declared.tree.Simple.TheOpen.{Simple-F}
use Rattle.rt_tree_nodes.specs.declared.brick.Local.{Local as Made_local}
use Rattle.rt_tree_nodes.specs.declared.brick.Local.TheVariants as made
use Rattle.rt_tree_nodes.specs.declared.statement.Branch.{Branch as BranchMade}
use Rattle.rt_tree_nodes.specs.declared.statement.Labelled.{Labelled}
use Rattle.rt_tree_nodes.specs.declared.statement.LocalStart.{LocalStart}
use Rattle.rt_tree_nodes.specs.declared.statement.Test.{Test}
use Rattle.rt_tree_nodes.specs.declared.value.Value.{Value}
use Rattle.rt_tree_nodes.specs.Scopes.{Scope}
use Rattle.rt_tree_nodes.specs.Tree.{Cond, Stmt, If, Seq, Done}
use Rattle.rt_exprs.specs.declared.scope.Meaning.TheVariants as meaning
use Rattle.rt_tree.specs.Statements.{starts_at_zero, start_tree, starts_tree, branches_tree, if_tree, body_tree}
use Rattle.rt_work_state.specs.Items.{Again, TurnFor, TurnTo}
use Rattle.rt_check_bodies.specs.declared.tally.Tally.{Tally}
use Rattle.rt_check_bodies.specs.Parts.{next_local, three_locals, test_or}
use Rattle.rt_exprs.specs.Sights.{Sight, within}
use Rattle.rt_check_bodies.specs.Sights.{test_in}
use Rattle.rt_check_bodies.specs.declared.answer.Answer.{Answer}
use Rattle.rt_check_bodies.specs.declared.plain.Bounds.{Bounds}
use Rattle.rt_check_bodies.specs.Statements as spec
use Rattle.rt_check_bodies.specs.Statements.{Line, Declared, JudgedBody, JudgedBranch, before, declarations, branches, sequence, bounds_in, variable_of, for_loop, to_loop, int_in, any_int_in}
use Rattle.rt_bricks_laws.specs.Bodies.{sum, all}
use Rattle.rt_check_bodies_laws.proofs.Growing.{Pre, pre_then, grew_same, grew_then, Growing, BranchesGrow, grow_found, grow_declarations, grow_sequence, grow_branches, grow_for, grow_to}
use Rattle.rt_check_bodies_laws.proofs.Sequences.{pre_get, Fine, fine_before}
use Rattle.rt_bricks_laws.specs.Numbers.{words_in_expr, words_in_any, words_in_cond, words_in_locals, words_in_control}
use Rattle.rt_check_bodies_laws.proofs.Made.{stat_of, branch_of, made_block, made_while, made_to, made_for, made_if, made_else, made_body, made_branch}
use Rattle.rt_bricks_laws.proofs.AllLists.{left_of, right_of}
use Rattle.rt_meaning_laws.specs.Trees.{Started}
use Rattle.rt_meaning_laws.specs.Named.{any_name, CondNamed, StmtNamed, SeqNamed}
use Rattle.rt_meaning_sound.proofs.Good.{Zeroed, StatGood, int_named, int_labels, step_named, step_labels, test_named, test_labels}
use Rattle.rt_meaning_sound.proofs.Judged.{Around}
use Rattle.rt_meaning_sound.proofs.Lines.{then_named, AllGood, all_grow, rows_tree, sequence_made}
use Rattle.rt_meaning_sound.proofs.Locals.{zeroed_more, declarations_made}
use Rattle.rt_meaning_sound.proofs.Seen.{IsSeen, declared_has, Sees, sees_within}
use Rattle.rt_meaning_sound.proofs.Sets.{Sets, Made as Parted, made_alone, made_as, made_from, made_counted, made_then}
use Rattle.rt_meaning_sound.proofs.Standing.{StandsIn, StandsInside, stands_first, stands_later, stands_chosen, stands_otherwise}

module _ (c : Scope) (a : Around c) where
  -- A body, and a branch, with so many labels inside it.
  pub record BodyGood (p : JudgedBody) (n : ℕ) : Type 0 where
    pub grows : (s : Sight) → Growing (p s)
    pub made : (s : Sight) (t : Tally) (v : Started) → Fine c (p s t).1 → t.labels + n < 65536 → Zeroed c v
        → Parted t.labels (p s t).1.labels n (StandsIn (body_tree c (p s t).0)) (λ at. Sees at c v s → SeqNamed any_name at v (body_tree c (p s t).0))

  -- a test, and what is done where it holds
  abbrev pub BranchNamed : Sets → Started → Cond × Seq → Type 0
  BranchNamed at v b = CondNamed any_name v b.0 × SeqNamed any_name at v b.1

  pub record BranchGood (p : JudgedBranch) (n : ℕ) : Type 0 where
    pub grows : (s : Sight) → Growing (p s)
    pub made : (s : Sight) (t : Tally) (v : Started) → Fine c (p s t).1 → t.labels + n < 65536 → Zeroed c v
        → Parted t.labels (p s t).1.labels n (StandsIn (branch_of c (p s t).0).1) (λ at. Sees at c v s → BranchNamed at v (branch_of c (p s t).0))

  -- a statement whose tree is this
  as_tree : {from to n : ℕ} {v : Started} {s : Sight} {x y : Stmt} → x ≡ y → Parted from to n (StandsInside y) (λ at. Sees at c v s → StmtNamed any_name at v y) → Parted from to n (StandsInside x) (λ at. Sees at c v s → StmtNamed any_name at v x)
  as_tree {from = from} {to = to} {n = n} {v = v} {s = s} e h = subst (λ (w : Stmt). Parted from to n (StandsInside w) (λ at. Sees at c v s → StmtNamed any_name at v w)) (sym e) h

  -- ---- blocks

  pub block_good : (r : Answer) (p : JudgedBody) (n : ℕ) (place : At) → BodyGood p n → StatGood c a (λ s. spec.one_stat r (Simple-F.Block p place) s) n
  block_good r p n place h = record {
    grows = λ s t. grew_then (h.grows s t) (grew_same _);
    made = λ s t v f b z. as_tree {v = v} {s = s} (made_block c (p s t).0) (made_as t.labels _ n (h.made s t v f b z) (λ l k rest. k rest) (λ at k e. k e));
  }

  -- ---- bodies

  starts_stand : (ds : List LocalStart) (q : Seq) (l : ℕ) → StandsIn q l → StandsIn (starts_tree c ds q) l
  starts_stand [] q l h = h
  starts_stand (d ∷ ds) q l h = stands_later (start_tree c d.local d.start) (starts_tree c ds q) l (starts_stand ds q l h)

  pub body_good : (r : Answer) (ls : List Locals) (xs : List Line) (ns : List ℕ) (place : At) → all (map words_in_locals ls) ≡ true → AllGood c xs ns → BodyGood (λ s. spec.one_body r (record { locals = ls; statements = xs; at = place }) s) (sum ns)
  body_good r ls xs ns place w h = record {
    grows = λ s t. grew_then (grow_declarations (before (within [] s)) ls t) (grew_then (grow_sequence _ xs (all_grow c xs ns h) _) (grew_same _));
    made = λ s t v f b z.
        let u : Declared × Tally = declarations (before (within [] s)) ls t in
        let fine : Fine c u.1 = fine_before c (grow_sequence u.0.sight xs (all_grow c xs ns h) u.1) f in
        let d = declarations_made c a (before (within [] s)) ls t v w fine z in
        let go = sequence_made c xs ns h u.0.sight u.1 d.after f (omega (arith, b, d.labels)) (zeroed_more c v d.after d.more z) in
        let rows : List Labelled = (sequence u.0.sight xs u.1).0 in
        let q : Seq = rows_tree c rows in
        let is : body_tree c (spec.one_body r (record { locals = ls; statements = xs; at = place }) s t).0 ≡ starts_tree c d.starts q = made_body c u.0.starts rows ∙ ap (λ (ds : List LocalStart). starts_tree c ds q) d.is in
        subst (λ (w : Seq). Parted t.labels (sequence u.0.sight xs u.1).1.labels (sum ns) (StandsIn w) (λ at. Sees at c v s → SeqNamed any_name at v w)) (sym is)
        (made_as t.labels _ (sum ns) (made_from u.1.labels t.labels _ (sum ns) d.labels go) (λ l k. starts_stand d.starts q l k)
        (λ at k e. let inside = sees_within at c v s [] e tt in d.named at q inside (k (d.sees at inside))));
  }

  -- ---- WHILE

  pub while_good : (r : Answer) (d : Written) (xs : List Line) (ns : List ℕ) (place : At) → words_in_cond d ≡ true → AllGood c xs ns → StatGood c a (λ s. spec.one_stat r (Simple-F.While d xs place) s) (sum ns)
  while_good r d xs ns place w h = record {
    grows = λ s t. grew_then (grow_found _ (test_in s d) t) (grew_then (grow_sequence s xs (all_grow c xs ns h) _) (grew_same _));
    made = λ s t v f b z.
        let u : Test × Tally = test_or (test_in s d) t in
        let same = test_labels c a s d t in
        let go = sequence_made c xs ns h s u.1 v f (omega (arith, b, same)) z in
        as_tree {v = v} {s = s} (made_while c u.0 (sequence s xs u.1).0)
        (made_as t.labels _ (sum ns) (made_from u.1.labels t.labels _ (sum ns) same go) (λ l k rest. k (Again _ _ ∷ rest)) (λ at k e. (test_named c a at v s e d w t, k e)));
  }

  -- ---- TO and FOR

  -- the first of the three locals of a loop is there
  loop_there : (t : Tally) → Fine c (three_locals t).1 → slice_get c.locals (next_local t) ≡ Some made.Loop
  loop_there t f =
      let x : List Made_local = t.locals ++ made.Loop ∷ [] in
      let one : Pre x c.locals = pre_then (record { more = made.Loop ∷ made.Loop ∷ []; is = append_assoc x (made.Loop ∷ []) (made.Loop ∷ []) }) f.known in
      pre_get t.locals made.Loop c.locals one

  pub to_good : (e : Expr) (xs : List Line) (ns : List ℕ) → words_in_expr e ≡ true → AllGood c xs ns → StatGood c a (λ s. to_loop s e xs) (sum ns)
  to_good e xs ns w h = record {
    grows = λ s t. grow_to s e xs (all_grow c xs ns h) t;
    made = λ s t v f b z.
        let u : Value × Tally = int_in s e t in
        let n : ℕ × Tally = three_locals u.1 in
        let same = int_labels c a s e t in
        let go = sequence_made c xs ns h s n.1 v f (omega (arith, b, same)) z in
        as_tree {v = v} {s = s} (made_to c n.0 u.0 (sequence s xs n.1).0)
        (made_as t.labels _ (sum ns) (made_from n.1.labels t.labels _ (sum ns) same go) (λ l k rest. k (TurnTo _ _ ∷ rest)) (λ at k g. (int_named c a at v s g e w t, k g)));
  }

  pub for_good : (d : Control) (e : Expr) (xs : List Line) (ns : List ℕ) → words_in_control (Some d) ≡ true → words_in_expr e ≡ true → AllGood c xs ns → StatGood c a (λ s. for_loop s d e xs) (sum ns)
  for_good d e xs ns w m h = record {
    grows = λ s t. grow_for s d e xs (all_grow c xs ns h) t;
    made = λ s t v f b z.
        let x : Value × Tally = int_in s d.start t in
        let y : Option Value × Tally = any_int_in s d.step x.1 in
        let u : Bounds × Tally = bounds_in s d e t in
        let n : ℕ × Tally = three_locals u.1 in
        let inside : Sight = within (variable_of d n.0) s in
        let same : u.1.labels ≡ t.labels = int_labels c a s e y.1 ∙ step_labels c a s d.step x.1 ∙ int_labels c a s d.start t in
        let fine : Fine c n.1 = fine_before c (grow_sequence inside xs (all_grow c xs ns h) n.1) f in
        let there = loop_there u.1 fine in
        let int : out-Mode mode.Int ≡ Mode-F.Int = search mode_lemmas.the_lemmas in
        let counts : v n.0 ≡ true = z n.0 made.Loop there (ap starts_at_zero int) in
        let go = sequence_made c xs ns h inside n.1 v f (omega (arith, b, same)) z in
        as_tree {v = v} {s = s} (made_for c n.0 u.0.start u.0.step u.0.end (sequence inside xs n.1).0)
        (made_as t.labels _ (sum ns) (made_from n.1.labels t.labels _ (sum ns) same go) (λ l k rest. k (TurnFor _ _ ∷ rest)) (λ at k g. (
          int_named c a at v s g d.start (left_of (words_in_expr d.start) (words_in_any d.step) w) t,
          step_named c a at v s g d.step (right_of (words_in_expr d.start) (words_in_any d.step) w) x.1,
          int_named c a at v s g e m y.1,
          k (sees_within at c v s (variable_of d n.0) g (declared_has (IsSeen at c v) d.name.name (meaning.Loop n.0) [] tt (there, counts))),
        )));
  }

  -- ---- IF

  pub branch_good : (r : Answer) (d : Written) (xs : List Line) (ns : List ℕ) (place : At) → words_in_cond d ≡ true → AllGood c xs ns → BranchGood (λ s. spec.one_branch r (record { test = d; taken = xs; at = place }) s) (sum ns)
  branch_good r d xs ns place w h = record {
    grows = λ s t. grew_then (grow_found _ (test_in s d) t) (grew_then (grow_sequence s xs (all_grow c xs ns h) _) (grew_same _));
    made = λ s t v f b z.
        let u : Test × Tally = test_or (test_in s d) t in
        let same = test_labels c a s d t in
        let go = sequence_made c xs ns h s u.1 v f (omega (arith, b, same)) z in
        subst (λ (b : Cond × Seq). Parted t.labels (sequence s xs u.1).1.labels (sum ns) (StandsIn b.1) (λ at. Sees at c v s → BranchNamed at v b)) (sym (made_branch c u.0 (sequence s xs u.1).0))
        (made_as t.labels _ (sum ns) (made_from u.1.labels t.labels _ (sum ns) same go) (λ l k. k) (λ at k e. (test_named c a at v s e d w t, k e)));
  }

  abbrev pub BranchesGood : List JudgedBranch → List ℕ → Type 0
  BranchesGood [] [] = Unit {0}
  BranchesGood (b ∷ bs) (n ∷ ns) = BranchGood b n × BranchesGood bs ns
  BranchesGood _ _ = ⊥

  branches_grow : (bs : List JudgedBranch) (ns : List ℕ) → BranchesGood bs ns → BranchesGrow bs
  branches_grow [] [] h = tt
  branches_grow (b ∷ bs) (n ∷ ns) h = (h.0.grows, branches_grow bs ns h.1)
  branches_grow [] (n ∷ ns) h = absurd h
  branches_grow (b ∷ bs) [] h = absurd h

  -- ---- branches that are made

  abbrev AnyBranchStands : List BranchMade → ℕ → Type 0
  AnyBranchStands [] l = ⊥
  AnyBranchStands (b ∷ bs) l = StandsIn (branch_of c b).1 l ⊎ AnyBranchStands bs l

  abbrev EachNamed : Sets → Started → List BranchMade → Type 0
  EachNamed at v [] = Unit {0}
  EachNamed at v (b ∷ bs) = BranchNamed at v (branch_of c b) × EachNamed at v bs

  record BranchesMade (s : Sight) (v : Started) (n : ℕ) (done : List BranchMade) (t : Tally) (result : List BranchMade × Tally) : Type 0 where
    rows : List BranchMade
    is : result.0 ≡ done ++ rows
    made : Parted t.labels result.1.labels n (AnyBranchStands rows) (λ at. Sees at c v s → EachNamed at v rows)

  branches_made : (bs : List JudgedBranch) (ns : List ℕ) (h : BranchesGood bs ns) (s : Sight) (v : Started) (done : List BranchMade) (t : Tally) → Fine c (branches s done bs t).1 → t.labels + sum ns < 65536 → Zeroed c v
      → BranchesMade s v (sum ns) done t (branches s done bs t)
  branches_made [] [] h s v done t f b z = record { rows = []; is = sym (append-nil done); made = made_alone t.labels t.labels refl (λ at k. tt) }
  branches_made (x ∷ bs) (n ∷ ns) h s v done t f b z =
      let u : BranchMade × Tally = x s t in
      let fine : Fine c u.1 = fine_before c (grow_branches s (done ++ u.0 ∷ []) bs (branches_grow bs ns h.1) u.1) f in
      let one = h.0.made s t v fine (omega (arith, b)) z in
      let go = branches_made bs ns h.1 s v (done ++ u.0 ∷ []) u.1 f (omega (arith, b, one.labels)) z in
      record {
        rows = u.0 ∷ go.rows;
        is = go.is ∙ append_assoc done (u.0 ∷ []) go.rows;
        made = made_then t.labels u.1.labels _ n (sum ns) one go.made (λ l k. inl k) (λ l k. inr k) (λ at p q e. (p e, q e));
      }
  branches_made [] (n ∷ ns) h s v done t f b z = absurd h
  branches_made (x ∷ bs) [] h s v done t f b z = absurd h

  -- ---- the tree of branches, with what stands behind ELSE

  module _ (e : Seq) where
    branch_stands : (bs : List BranchMade) (l : ℕ) → AnyBranchStands bs l → StandsIn (branches_tree (map (branch_of c) bs) e) l
    branch_stands [] l h = absurd h
    branch_stands (b ∷ bs) l (inl h) = stands_first (If (branch_of c b).0 (branch_of c b).1 (branches_tree (map (branch_of c) bs) e)) Done l (stands_chosen (branch_of c b).0 (branch_of c b).1 (branches_tree (map (branch_of c) bs) e) l h)
    branch_stands (b ∷ bs) l (inr h) = stands_first (If (branch_of c b).0 (branch_of c b).1 (branches_tree (map (branch_of c) bs) e)) Done l (stands_otherwise (branch_of c b).0 (branch_of c b).1 (branches_tree (map (branch_of c) bs) e) l (branch_stands bs l h))

    otherwise_stands : (bs : List BranchMade) (l : ℕ) → StandsIn e l → StandsIn (branches_tree (map (branch_of c) bs) e) l
    otherwise_stands [] l h = h
    otherwise_stands (b ∷ bs) l h = stands_first (If (branch_of c b).0 (branch_of c b).1 (branches_tree (map (branch_of c) bs) e)) Done l (stands_otherwise (branch_of c b).0 (branch_of c b).1 (branches_tree (map (branch_of c) bs) e) l (otherwise_stands bs l h))

    branches_named : (at : Sets) (v : Started) (bs : List BranchMade) → EachNamed at v bs → SeqNamed any_name at v e → SeqNamed any_name at v (branches_tree (map (branch_of c) bs) e)
    branches_named at v [] h g = g
    branches_named at v (b ∷ bs) h g =
        then_named at v (If (branch_of c b).0 (branch_of c b).1 (branches_tree (map (branch_of c) bs) e)) Done (h.0.0, h.0.1, branches_named at v bs h.1 g) tt

    branch_inside : (bs : List BranchMade) (l : ℕ) → AnyBranchStands bs l → StandsInside (if_tree (map (branch_of c) bs) e) l
    branch_inside [] l h = absurd h
    branch_inside (b ∷ bs) l (inl h) = stands_chosen (branch_of c b).0 (branch_of c b).1 (branches_tree (map (branch_of c) bs) e) l h
    branch_inside (b ∷ bs) l (inr h) = stands_otherwise (branch_of c b).0 (branch_of c b).1 (branches_tree (map (branch_of c) bs) e) l (branch_stands bs l h)

    otherwise_inside : (bs : List BranchMade) (l : ℕ) → StandsIn e l → StandsInside (if_tree (map (branch_of c) bs) e) l
    otherwise_inside [] l h = λ rest. h rest
    otherwise_inside (b ∷ bs) l h = stands_otherwise (branch_of c b).0 (branch_of c b).1 (branches_tree (map (branch_of c) bs) e) l (otherwise_stands bs l h)

    if_named : (at : Sets) (v : Started) (bs : List BranchMade) → EachNamed at v bs → SeqNamed any_name at v e → StmtNamed any_name at v (if_tree (map (branch_of c) bs) e)
    if_named at v [] h g = g
    if_named at v (b ∷ bs) h g = (h.0.0, h.0.1, branches_named at v bs h.1 g)

  pub if_good : (r : Answer) (bs : List JudgedBranch) (ns : List ℕ) (place : At) → BranchesGood bs ns → StatGood c a (λ s. spec.one_stat r (Simple-F.If bs None place) s) (sum ns + 0)
  if_good r bs ns place h = record {
    grows = λ s t. grew_then (grow_branches s [] bs (branches_grow bs ns h) t) (grew_same _);
    made = λ s t v f b z.
        let go = branches_made bs ns h s v [] t f (omega (arith, b)) z in
        let is : stat_of c (spec.one_stat r (Simple-F.If bs None place) s t).0 ≡ if_tree (map (branch_of c) go.rows) Done = made_if c (branches s [] bs t).0 ∙ ap (λ (xs : List BranchMade). if_tree (map (branch_of c) xs) Done) go.is in
        as_tree {v = v} {s = s} is
        (made_counted t.labels _ (sum ns) (sum ns + 0) (omega arith) (made_as t.labels _ (sum ns) go.made (λ l k. branch_inside Done go.rows l k) (λ at k e. if_named Done at v go.rows (k e) tt)));
  }

  pub else_good : (r : Answer) (bs : List JudgedBranch) (ns : List ℕ) (xs : List Line) (ms : List ℕ) (place : At) → BranchesGood bs ns → AllGood c xs ms → StatGood c a (λ s. spec.one_stat r (Simple-F.If bs (Some xs) place) s) (sum ns + sum ms)
  else_good r bs ns xs ms place h g = record {
    grows = λ s t. grew_then (grow_branches s [] bs (branches_grow bs ns h) t) (grew_then (grow_sequence s xs (all_grow c xs ms g) _) (grew_same _));
    made = λ s t v f b z.
        let u : List BranchMade × Tally = branches s [] bs t in
        let fine : Fine c u.1 = fine_before c (grow_sequence s xs (all_grow c xs ms g) u.1) f in
        let go = branches_made bs ns h s v [] t fine (omega (arith, b)) z in
        let other = sequence_made c xs ms g s u.1 v f (omega (arith, b, go.made.labels)) z in
        let q : Seq = rows_tree c (sequence s xs u.1).0 in
        let is : stat_of c (spec.one_stat r (Simple-F.If bs (Some xs) place) s t).0 ≡ if_tree (map (branch_of c) go.rows) q = made_else c u.0 (sequence s xs u.1).0 ∙ ap (λ (ys : List BranchMade). if_tree (map (branch_of c) ys) q) go.is in
        as_tree {v = v} {s = s} is
        (made_then t.labels u.1.labels _ (sum ns) (sum ms) go.made other (λ l k. branch_inside q go.rows l k) (λ l k. otherwise_inside q go.rows l k) (λ at p r e. if_named q at v go.rows (p e) (r e)));
  }
