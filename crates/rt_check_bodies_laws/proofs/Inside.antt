-- Statements with parts stay within their items, where the parts do.
use Rattle.std.proofs.Common.{◌≡◌, ℕ, ◌+◌, ◌*◌, ◌≤◌, max, true, List, [], ◌∷◌, ◌++◌, length, map, Option, Some, None, append_assoc, arith, sym, ap, ◌∙◌, subst}
use Rattle.std.specs.Prelude.{slice_get}
use Rattle.std.proofs.lemmas.List.{append-nil}
use Rattle.rt_grammar.specs.declared.at.At.{At}
use Rattle.rt_syntax_exprs.specs.declared.tree.Cond.{Cond as Written}
use Rattle.rt_syntax_exprs.specs.declared.tree.Expr.{Expr}
use Rattle.rt_bricks_laws.specs.Counts.{sum, listed, in_expr, in_cond, in_locals, in_control}
use Rattle.rt_syntax.specs.declared.tree.Control.{Control}
use Rattle.rt_syntax.specs.declared.tree.Locals.{Locals}
use Rattle.rt_syntax.specs.declared.tree.Simple.TheOpen.{Simple-F}
use Rattle.rt_tree_nodes.specs.declared.brick.Local.{Local as Made}
use Rattle.rt_tree_nodes.specs.declared.brick.Local.TheVariants as made
use Rattle.rt_tree_nodes.specs.declared.statement.Branch.{Branch as BranchMade}
use Rattle.rt_tree_nodes.specs.declared.statement.Labelled.{Labelled}
use Rattle.rt_tree_nodes.specs.declared.statement.Test.{Test}
use Rattle.rt_tree_nodes.specs.declared.value.Value.{Value}
use Rattle.rt_tree_nodes.specs.Scopes.{Scope}
use Rattle.rt_tree_nodes.specs.Tree.{Cond, Seq}
use Rattle.rt_exprs.specs.declared.scope.Meaning.TheVariants as meaning
use Rattle.rt_tree.specs.Depth.{condition_depth, sequence_depth}
use Rattle.rt_tree.specs.Statements.{Sight as Seen, body_tree, sequence_tree, branches_tree, if_tree}
use Rattle.rt_tree.specs.Weights.{condition_weight, sequence_weight}
use Rattle.rt_syntax_exprs.specs.Joins.{joins_two}
use Rattle.rt_check_bodies.specs.declared.tally.Tally.{Tally}
use Rattle.rt_check_bodies.specs.Parts.{next_local, three_locals, test_or}
use Rattle.rt_exprs.specs.Sights.{Sight, within}
use Rattle.rt_check_bodies.specs.Sights.{test_in}
use Rattle.rt_check_bodies.specs.declared.answer.Answer.{Answer}
use Rattle.rt_check_bodies.specs.declared.plain.Bounds.{Bounds}
use Rattle.rt_check_bodies.specs.Statements as spec
use Rattle.rt_check_bodies.specs.Statements.{Line, Declared, JudgedBody, JudgedBranch, before, declarations, branches, sequence, bounds_in, variable_of, for_loop, to_loop, int_in, any_int_in}
use Rattle.rt_check_bodies_laws.specs.Held.{Holds, EntryHolds}
use Rattle.rt_check_bodies_laws.proofs.Growing.{Pre, pre_then, grew_same, grew_then, Growing, BranchesGrow, grow_found, grow_declarations, grow_sequence, grow_branches, grow_for, grow_to}
use Rattle.rt_check_bodies_laws.proofs.Holding.{holds_within, declared_holds}
use Rattle.rt_check_bodies_laws.proofs.Sequences.{one_longer, pre_get}
use Rattle.rt_check_bodies_laws.specs.Parts.{SequenceWithin, StatementWithin}
use Rattle.rt_check_bodies_laws.proofs.Good.{Around, StatGood, int_stays, int_locals, step_stays, step_locals, test_stays, test_locals}
use Rattle.rt_check_bodies_laws.proofs.Least.{sum_listed}
use Rattle.rt_check_bodies_laws.proofs.Lines.{AllGood, all_grow, sequence_counts, sequence_within}
use Rattle.rt_check_bodies_laws.proofs.Locals.{StartsWithin, declarations_count, declarations_within}
use Rattle.rt_check_bodies_laws.proofs.Made.{branch_of, line_of, made_block, made_while, made_to, made_for, made_if, made_else, made_body, made_branch}

pub record BodyGood (p : JudgedBody) (n : ℕ) : Type 0 where
  pub grows : (s : Sight) → Growing (p s)
  pub counts : (s : Sight) (t : Tally) → length (p s t).1.locals ≤ length t.locals + n
  pub within : (c : Scope) → Around c → (s : Sight) (seen : Seen) (t : Tally) → Holds c s seen → Pre (p s t).1.locals c.locals → SequenceWithin n (body_tree c (p s t).0)

pub record BranchWithin (n : ℕ) (b : Cond × Seq) : Type 0 where
  pub weight : 20 + (condition_weight b.0 + sequence_weight b.1) ≤ 12 * n
  pub depth : max (condition_depth b.0) (sequence_depth b.1) ≤ n

pub record BranchGood (p : JudgedBranch) (n : ℕ) : Type 0 where
  pub grows : (s : Sight) → Growing (p s)
  pub counts : (s : Sight) (t : Tally) → length (p s t).1.locals ≤ length t.locals + n
  pub within : (c : Scope) → Around c → (s : Sight) (seen : Seen) (t : Tally) → Holds c s seen → Pre (p s t).1.locals c.locals → BranchWithin n (branch_of c (p s t).0)

-- ---- blocks

pub block_good : (r : Answer) (p : JudgedBody) (n : ℕ) (at : At) → BodyGood p n → StatGood (λ s. spec.one_stat r (Simple-F.Block p at) s) (2 + n)
block_good r p n at h = record {
  grows = λ s t. grew_then (h.grows s t) (grew_same _);
  counts = λ s t. omega (arith, h.counts s t);
  within = λ c a s seen t k f. let q = h.within c a s seen t k f in record { weight = rw made_block (omega (arith, q.weight)); depth = rw made_block (omega (arith, q.depth)) };
}

-- ---- bodies

pub body_good : (r : Answer) (ls : List Locals) (xs : List Line) (ns : List ℕ) (at : At) → AllGood xs ns → BodyGood (λ s. spec.one_body r (record { locals = ls; statements = xs; at = at }) s) (sum (map in_locals ls) + listed ns)
body_good r ls xs ns at h = record {
  grows = λ s t. grew_then (grow_declarations (before (within [] s)) ls t) (grew_then (grow_sequence _ xs (all_grow xs ns h) _) (grew_same _));
  counts = λ s t.
      let u : Declared × Tally = declarations (before (within [] s)) ls t in
      omega (arith, declarations_count (before (within [] s)) ls t, sequence_counts xs ns h u.0.sight u.1, sum_listed ns);
  within = λ c a s seen t k f.
      let u : Declared × Tally = declarations (before (within [] s)) ls t in
      let d = declarations_within c a (before (within [] s)) ls seen t (holds_within c s seen [] k tt) (pre_then (grow_sequence u.0.sight xs (all_grow xs ns h) u.1).locals f) in
      let q = sequence_within c a xs ns h u.0.sight seen u.1 d.holds f in
      let rows : List Labelled = (sequence u.0.sight xs u.1).0 in
      let w : StartsWithin c (sum (map in_locals ls)) u.0.starts = subst (StartsWithin c (sum (map in_locals ls))) (sym d.is) d.within in
      record {
        weight = rw made_body (omega (arith, w.weight (sequence_tree (map (line_of c) rows)), q.weight, sum_listed ns));
        depth = rw made_body (omega (arith, w.depth (sequence_tree (map (line_of c) rows)), q.depth, sum_listed ns));
      };
}

-- ---- WHILE

pub while_good : (r : Answer) (d : Written) (xs : List Line) (ns : List ℕ) (at : At) → joins_two d ≡ true → AllGood xs ns → StatGood (λ s. spec.one_stat r (Simple-F.While d xs at) s) (3 + (in_cond d + listed ns))
while_good r d xs ns at j h = record {
  grows = λ s t. grew_then (grow_found _ (test_in s d) t) (grew_then (grow_sequence s xs (all_grow xs ns h) _) (grew_same _));
  counts = λ s t. let u : Test × Tally = test_or (test_in s d) t in omega (arith, ap length (test_locals s d t), sequence_counts xs ns h s u.1, sum_listed ns);
  within = λ c a s seen t k f.
      let u : Test × Tally = test_or (test_in s d) t in
      let q = sequence_within c a xs ns h s seen u.1 k f in
      let w = test_stays c a.few s seen k d j t in
      record { weight = rw made_while (omega (arith, w.weight, q.weight, sum_listed ns)); depth = rw made_while (omega (arith, w.depth, q.depth, sum_listed ns)) };
}

-- ---- TO and FOR

three_more : (t : Tally) → length (three_locals t).1.locals ≡ length t.locals + 3
three_more t =
    let x : List Made = t.locals ++ made.Loop ∷ [] in
    let y : List Made = x ++ made.Loop ∷ [] in
    omega (arith, one_longer t.locals made.Loop, one_longer x made.Loop, one_longer y made.Loop)

pub to_good : (e : Expr) (xs : List Line) (ns : List ℕ) → AllGood xs ns → StatGood (λ s. to_loop s e xs) (3 + (in_expr e + listed ns))
to_good e xs ns h = record {
  grows = λ s t. grow_to s e xs (all_grow xs ns h) t;
  counts = λ s t.
      let u : Value × Tally = int_in s e t in
      let n : ℕ × Tally = three_locals u.1 in
      omega (arith, ap length (int_locals s e t), three_more u.1, sequence_counts xs ns h s n.1, sum_listed ns);
  within = λ c a s seen t k f.
      let u : Value × Tally = int_in s e t in
      let n : ℕ × Tally = three_locals u.1 in
      let q = sequence_within c a xs ns h s seen n.1 k f in
      let v = int_stays c a.few s seen k e t in
      record { weight = rw made_to (omega (arith, v.weight, q.weight, sum_listed ns)); depth = rw made_to (omega (arith, v.depth, q.depth, sum_listed ns)) };
}

-- the first of the three locals of a loop is there
loop_there : (c : Scope) → Around c → (t : Tally) → Pre (three_locals t).1.locals c.locals → slice_get c.locals (next_local t) ≡ Some made.Loop
loop_there c a t f =
    let x : List Made = t.locals ++ made.Loop ∷ [] in
    let one : Pre x c.locals = pre_then (record { more = made.Loop ∷ made.Loop ∷ []; is = append_assoc x (made.Loop ∷ []) (made.Loop ∷ []) }) f in
    pre_get t.locals made.Loop c.locals one

pub bounds_locals : (s : Sight) (d : Control) (e : Expr) (t : Tally) → (bounds_in s d e t).1.locals ≡ t.locals
bounds_locals s d e t =
    let u : Value × Tally = int_in s d.start t in
    let v : Option Value × Tally = any_int_in s d.step u.1 in
    int_locals s e v.1 ∙ step_locals s d.step u.1 ∙ int_locals s d.start t

pub for_good : (d : Control) (e : Expr) (xs : List Line) (ns : List ℕ) → AllGood xs ns → StatGood (λ s. for_loop s d e xs) (3 + (in_control (Some d) + (in_expr e + listed ns)))
for_good d e xs ns h = record {
  grows = λ s t. grow_for s d e xs (all_grow xs ns h) t;
  counts = λ s t.
      let u : Bounds × Tally = bounds_in s d e t in
      let n : ℕ × Tally = three_locals u.1 in
      omega (arith, ap length (bounds_locals s d e t), three_more u.1, sequence_counts xs ns h (within (variable_of d n.0) s) n.1, sum_listed ns);
  within = λ c a s seen t k f.
      let x : Value × Tally = int_in s d.start t in
      let y : Option Value × Tally = any_int_in s d.step x.1 in
      let u : Bounds × Tally = bounds_in s d e t in
      let n : ℕ × Tally = three_locals u.1 in
      let there : Pre n.1.locals c.locals = pre_then (grow_sequence (within (variable_of d n.0) s) xs (all_grow xs ns h) n.1).locals f in
      let entry : EntryHolds c seen (d.name.name, meaning.Loop n.0) = (loop_there c a u.1 there, tt) in
      let inside = holds_within c s seen (variable_of d n.0) k (declared_holds c seen d.name.name (meaning.Loop n.0) [] tt entry) in
      let q = sequence_within c a xs ns h (within (variable_of d n.0) s) seen n.1 inside f in
      let v = int_stays c a.few s seen k d.start t in
      let w = step_stays c a.few s seen k d.step x.1 in
      let z = int_stays c a.few s seen k e y.1 in
      record { weight = rw made_for (omega (arith, v.weight, w.weight, z.weight, q.weight, sum_listed ns)); depth = rw made_for (omega (arith, v.depth, w.depth, z.depth, q.depth, sum_listed ns)) };
}

-- ---- IF

pub branch_good : (r : Answer) (d : Written) (xs : List Line) (ns : List ℕ) (at : At) → joins_two d ≡ true → AllGood xs ns → BranchGood (λ s. spec.one_branch r (record { test = d; taken = xs; at = at }) s) (2 + (in_cond d + listed ns))
branch_good r d xs ns at j h = record {
  grows = λ s t. grew_then (grow_found _ (test_in s d) t) (grew_then (grow_sequence s xs (all_grow xs ns h) _) (grew_same _));
  counts = λ s t. let u : Test × Tally = test_or (test_in s d) t in omega (arith, ap length (test_locals s d t), sequence_counts xs ns h s u.1, sum_listed ns);
  within = λ c a s seen t k f.
      let u : Test × Tally = test_or (test_in s d) t in
      let q = sequence_within c a xs ns h s seen u.1 k f in
      let w = test_stays c a.few s seen k d j t in
      rw made_branch (record { weight = omega (arith, w.weight, q.weight, sum_listed ns); depth = omega (arith, w.depth, q.depth, sum_listed ns) });
}

abbrev pub BranchesGood : List JudgedBranch → List ℕ → Type 0
BranchesGood [] [] = Unit {0}
BranchesGood (b ∷ bs) (n ∷ ns) = BranchGood b n × BranchesGood bs ns
BranchesGood _ _ = ⊥

branches_grow : (bs : List JudgedBranch) (ns : List ℕ) → BranchesGood bs ns → BranchesGrow bs
branches_grow [] [] h = tt
branches_grow (b ∷ bs) (n ∷ ns) h = (h.0.grows, branches_grow bs ns h.1)
branches_grow [] (n ∷ ns) h = absurd h
branches_grow (b ∷ bs) [] h = absurd h

branches_count : (bs : List JudgedBranch) (ns : List ℕ) → BranchesGood bs ns → (s : Sight) (done : List BranchMade) (t : Tally) → length (branches s done bs t).1.locals ≤ length t.locals + sum ns
branches_count [] [] h s done t = omega arith
branches_count (b ∷ bs) (n ∷ ns) h s done t =
    let u : BranchMade × Tally = b s t in
    omega (arith, h.0.counts s t, branches_count bs ns h.1 s (done ++ u.0 ∷ []) u.1)
branches_count [] (n ∷ ns) h s done t = absurd h
branches_count (b ∷ bs) [] h s done t = absurd h

-- the trees of branches, with what stands behind ELSE
module _ (c : Scope) where
  record TreesWithin (n : ℕ) (bs : List BranchMade) : Type 0 where
    sequence : (m : ℕ) (e : Seq) → SequenceWithin m e → SequenceWithin (n + m) (branches_tree (map (branch_of c) bs) e)
    statement : (m : ℕ) (e : Seq) → SequenceWithin m e → StatementWithin (1 + (n + m)) (if_tree (map (branch_of c) bs) e)

  no_trees : TreesWithin 0 []
  no_trees = record {
    sequence = λ m e h. record { weight = omega (arith, h.weight); depth = omega (arith, h.depth) };
    statement = λ m e h. record { weight = omega (arith, h.weight); depth = omega (arith, h.depth) };
  }

  more_trees : (n i : ℕ) (b : BranchMade) (bs : List BranchMade) → BranchWithin n (branch_of c b) → TreesWithin i bs → TreesWithin (n + i) (b ∷ bs)
  more_trees n i b bs h g = record {
    sequence = λ m e k. let q = g.sequence m e k in record { weight = omega (arith, h.weight, q.weight); depth = omega (arith, h.depth, q.depth) };
    statement = λ m e k. let q = g.sequence m e k in record { weight = omega (arith, h.weight, q.weight); depth = omega (arith, h.depth, q.depth) };
  }

  record BranchesWithin (n : ℕ) (done result : List BranchMade) : Type 0 where
    rows : List BranchMade
    is : result ≡ done ++ rows
    within : TreesWithin n rows

  branches_within : Around c → (bs : List JudgedBranch) (ns : List ℕ) → BranchesGood bs ns → (s : Sight) (seen : Seen) (done : List BranchMade) (t : Tally) → Holds c s seen → Pre (branches s done bs t).1.locals c.locals
      → BranchesWithin (sum ns) done (branches s done bs t).0
  branches_within a [] [] h s seen done t k f = record { rows = []; is = sym (append-nil done); within = no_trees }
  branches_within a (b ∷ bs) (n ∷ ns) h s seen done t k f =
      let u : BranchMade × Tally = b s t in
      let one = h.0.within c a s seen t k (pre_then (grow_branches s (done ++ u.0 ∷ []) bs (branches_grow bs ns h.1) u.1).locals f) in
      let go = branches_within a bs ns h.1 s seen (done ++ u.0 ∷ []) u.1 k f in
      record { rows = u.0 ∷ go.rows; is = go.is ∙ append_assoc done (u.0 ∷ []) go.rows; within = more_trees n (sum ns) u.0 go.rows one go.within }
  branches_within a [] (n ∷ ns) h s seen done t k f = absurd h
  branches_within a (b ∷ bs) [] h s seen done t k f = absurd h

  pub if_within : Around c → (bs : List JudgedBranch) (ns : List ℕ) → BranchesGood bs ns → (s : Sight) (seen : Seen) (t : Tally) → Holds c s seen → Pre (branches s [] bs t).1.locals c.locals
      → (m : ℕ) (e : Seq) → SequenceWithin m e → StatementWithin (1 + (sum ns + m)) (if_tree (map (branch_of c) (branches s [] bs t).0) e)
  if_within a bs ns h s seen t k f m e g =
      let z = branches_within a bs ns h s seen [] t k f in
      subst (λ (rows : List BranchMade). StatementWithin (1 + (sum ns + m)) (if_tree (map (branch_of c) rows) e)) (sym z.is) (z.within.statement m e g)

pub if_good : (r : Answer) (bs : List JudgedBranch) (ns : List ℕ) (at : At) → BranchesGood bs ns → StatGood (λ s. spec.one_stat r (Simple-F.If bs None at) s) (1 + (sum ns + 0))
if_good r bs ns at h = record {
  grows = λ s t. grew_then (grow_branches s [] bs (branches_grow bs ns h) t) (grew_same _);
  counts = λ s t. omega (arith, branches_count bs ns h s [] t);
  within = λ c a s seen t k f. rw made_if (if_within c a bs ns h s seen t k f 0 Seq.Done (record { weight = omega arith; depth = omega arith }));
}

pub else_good : (r : Answer) (bs : List JudgedBranch) (ns : List ℕ) (xs : List Line) (ms : List ℕ) (at : At) → BranchesGood bs ns → AllGood xs ms → StatGood (λ s. spec.one_stat r (Simple-F.If bs (Some xs) at) s) (1 + (sum ns + (1 + listed ms)))
else_good r bs ns xs ms at h g = record {
  grows = λ s t. grew_then (grow_branches s [] bs (branches_grow bs ns h) t) (grew_then (grow_sequence s xs (all_grow xs ms g) _) (grew_same _));
  counts = λ s t. let u : List BranchMade × Tally = branches s [] bs t in omega (arith, branches_count bs ns h s [] t, sequence_counts xs ms g s u.1, sum_listed ms);
  within = λ c a s seen t k f.
      let u : List BranchMade × Tally = branches s [] bs t in
      let q = sequence_within c a xs ms g s seen u.1 k f in
      let e : SequenceWithin (1 + listed ms) (sequence_tree (map (line_of c) (sequence s xs u.1).0)) = record { weight = omega (arith, q.weight, sum_listed ms); depth = omega (arith, q.depth, sum_listed ms) } in
      rw made_else (if_within c a bs ns h s seen t k (pre_then (grow_sequence s xs (all_grow xs ms g) u.1).locals f) (1 + listed ms) (sequence_tree (map (line_of c) (sequence s xs u.1).0)) e);
}
