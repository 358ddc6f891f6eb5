-- Statements by themselves name locals where these have a value.
use Rattle.std.proofs.Common.{◌≡◌, ℕ, ◌+◌, ◌<◌, ◌==◌, ◌&&◌, if◌then◌else◌, Bool, true, false, List, [], ◌∷◌, ◌++◌, Option, Some, None, Ok, Err, append_assoc, arith, refl, sym, ap, ◌∙◌, subst}
use Rattle.std.specs.Prelude.{slice_get}
use Rattle.std.proofs.lemmas.List.{append-nil}
use Rattle.rt_grammar.specs.declared.at.At.{At}
use Rattle.rt_grammar.specs.declared.at.Ident.{Ident}
use Rattle.rt_syntax_exprs.specs.declared.tree.Chain.{Chain}
use Rattle.rt_syntax_exprs.specs.declared.tree.Cond.{Cond}
use Rattle.rt_syntax_exprs.specs.declared.tree.Expr.{Expr}
use Rattle.rt_modes.specs.declared.mode.Mode.{Mode, out-Mode}
use Rattle.rt_modes.specs.declared.mode.Mode.TheVariants as mode
use Rattle.rt_tree_nodes.specs.declared.brick.Local.{Local as Made_local}
use Rattle.rt_tree_nodes.specs.declared.operators.Rel.{Rel}
use Rattle.rt_tree_nodes.specs.declared.operators.Rel.TheVariants as rel
use Rattle.rt_tree_nodes.specs.declared.statement.Stat.{Stat}
use Rattle.rt_tree_nodes.specs.declared.statement.Stat.TheVariants as stats
use Rattle.rt_tree_nodes.specs.declared.statement.Test.{out-Test}
use Rattle.rt_tree_nodes.specs.declared.statement.Test as test_lemmas
use Rattle.rt_tree_nodes.specs.declared.statement.Test.TheFolds.{fold_out-Test}
use Rattle.rt_tree_nodes.specs.declared.statement.Test.TheOpen.{Test-F}
use Rattle.rt_tree_nodes.specs.declared.statement.Test.TheVariants as tests
use Rattle.rt_tree_nodes.specs.declared.value.Place.{Place}
use Rattle.rt_tree_nodes.specs.declared.value.Value.{Value}
use Rattle.rt_tree_nodes.specs.declared.value.Value.TheVariants as values
use Rattle.rt_tree_nodes.specs.Scopes.{Scope}
use Rattle.rt_tree_nodes.specs.Tree.{Term, Is}
use Rattle.rt_tree_nodes.specs.Typing.{Placed, Valued, Spot, OnLocal, OnPath, OnRow, placed, valued}
use Rattle.rt_check_faults.specs.Outcomes.{Outcome, ◌>>=◌}
use Rattle.rt_exprs.specs.declared.scope.Meaning.{Meaning}
use Rattle.rt_exprs.specs.declared.scope.Meaning.TheVariants as meaning
use Rattle.rt_check_faults.specs.declared.fault.CheckFault.{CheckFault}
use Rattle.rt_check_faults.specs.declared.fault.CheckFault.TheVariants as fault
use Rattle.rt_exprs.specs.Names.{find}
use Rattle.rt_exprs.specs.Judging.{alone, target, val_target}
use Rattle.rt_tree.specs.Statements.{starts_at_zero, call_tree, assigned_tree, step_tree, tested}
use Rattle.rt_check_bodies.specs.declared.tally.Tally.{Tally}
use Rattle.rt_check_bodies.specs.Parts.{noted_if, noted_known, found_or, value_or, stat_or, return_or, test_or, label_or, labels_in}
use Rattle.rt_exprs.specs.Sights.{Sight}
use Rattle.rt_check_bodies.specs.Sights.{value_in, assigning, assigned_in, assignment_in, val_assignment_in, call_in, test_in, label_in, label_by}
use Rattle.rt_check_bodies.specs.declared.answer.Answer.{Answer}
use Rattle.rt_check_bodies.specs.declared.answer.Answer.TheVariants as answer
use Rattle.rt_check_bodies.specs.Statements.{JudgedStat, int_in, any_int_in, goto, switch, returned, return_of}
use Rattle.rt_check_bodies_laws.proofs.Growing.{Growing, pre_none, grow_found, grow_goto, grow_switch, grow_labels_in}
use Rattle.rt_check_bodies_laws.proofs.Certain.{label_certain}
use Rattle.rt_check_bodies_laws.proofs.Sequences.{settled, Fine}
use Rattle.rt_bricks_laws.specs.Numbers.{words_in_expr, words_in_any, words_in_chain, words_in_cond}
use Rattle.rt_check_bodies_laws.proofs.Trees.{tree_number}
use Rattle.rt_check_bodies_laws.proofs.Good.{found_is}
use Rattle.rt_check_bodies_laws.proofs.Made.{stat_of, made_call, made_assign, made_goto, made_back, made_return, made_switch}
use Rattle.rt_bricks_laws.proofs.AllLists.{left_of, right_of}
use Rattle.rt_meaning_laws.specs.Trees.{Started, mode_of_local}
use Rattle.rt_meaning_laws.specs.Named.{any_name, TermNamed, CondNamed, LabelNamed, LabelsNamed, StmtNamed}
use Rattle.rt_meaning_sound.specs.Seen.{SpotNamed}
use Rattle.rt_meaning_sound.proofs.Judged.{Around, value_judged, target_judged, val_judged, call_judged, test_judged}
use Rattle.rt_meaning_sound.proofs.Seen.{MeaningSeen, Sees, is_seen}
use Rattle.rt_meaning_sound.proofs.Sets.{Sets, Made, made_alone}
use Rattle.rt_meaning_sound.proofs.Standing.{StandsInside}

-- each local that begins at 0 has a value
abbrev pub Zeroed : Scope → Started → Type 0
Zeroed c v = (i : ℕ) (l : Made_local) → slice_get c.locals i ≡ Some l → starts_at_zero (out-Mode (mode_of_local l)) ≡ true → v i ≡ true

-- ---- what is found, or what stands in its place

pub known_labels : (g : CheckFault) (t : Tally) → (noted_known g t).labels ≡ t.labels
known_labels fault.Unknown t = refl
known_labels _ t = refl

pub found_labels : {A : Type 0} (other : A) (o : Outcome A) (t : Tally) → (found_or other o t).1.labels ≡ t.labels
found_labels other (Ok x) t = refl
found_labels other (Err g) t = known_labels g t

pub noted_labels : (b : Bool) (g : CheckFault) (t : Tally) → (noted_if b g t).labels ≡ t.labels
noted_labels true g t = refl
noted_labels false g t = refl

record Bound {A B : Type 0} (o : Outcome A) (f : A → Outcome B) (y : B) : Type 0 where
  value : A
  is : o ≡ Ok value
  gives : f value ≡ Ok y

bound : {A B : Type 0} (o : Outcome A) (f : A → Outcome B) (y : B) → (o >>= f) ≡ Ok y → Bound o f y
bound (Ok x) f y e = record { value = x; is = refl; gives = e }
bound (Err g) f y e = absurd cc

ok_is : {A : Type 0} (a b : A) (o : Outcome A) → o ≡ Ok a → o ≡ Ok b → a ≡ b
ok_is a b o e h = cc

-- an assignment that is found: its place and its value are known
record AssignedTo (s : Sight) (o : Outcome (Option Place × Mode)) (e : Expr) (x : Stat) : Type 0 where
  to : Place
  mode : Mode
  value : Value
  is : o ≡ Ok (Some to, mode)
  gives : value_in s e mode ≡ Ok value
  made : stats.Assign to value ≡ x

assigned_by : (s : Sight) (o : Outcome (Option Place × Mode)) (e : Expr) (x : Stat) → assigned_in s o e ≡ Ok x → AssignedTo s o e x
assigned_by s (Err g) e x h = absurd cc
assigned_by s (Ok (None, m)) e x h = let y = bound (value_in s e m) (assigning None) x h in absurd (let bad = y.gives in cc)
assigned_by s (Ok (Some p, m)) e x h =
    let y = bound (value_in s e m) (assigning (Some p)) x h in
    record { to = p; mode = m; value = y.value; is = refl; gives = y.is; made = ok_is (stats.Assign p y.value) x (Ok (stats.Assign p y.value)) refl y.gives }

-- ---- trees of statements

call_named : (at : Sets) (v : Started) (x : Valued) → TermNamed any_name v x.tree → StmtNamed any_name at v (call_tree x)
call_named at v x h = by_call x.call refl where
  by_call : (o : Option (Option Mode)) → x.call ≡ o → StmtNamed any_name at v (call_tree x)
  by_call None e = rw e h
  by_call (Some None) e = rw e h
  by_call (Some (Some m)) e = rw e h

assigned_named : (at : Sets) (v : Started) (p : Placed) (x : Term) → SpotNamed v p.tree → TermNamed any_name v x → StmtNamed any_name at v (assigned_tree p x)
assigned_named at v p x h g = by_spot p.tree refl h where
  by_spot : (t : Spot) → p.tree ≡ t → SpotNamed v t → StmtNamed any_name at v (assigned_tree p x)
  by_spot (OnLocal i) e h = rw e g
  by_spot (OnPath q) e h = rw e (h, g)
  by_spot (OnRow y) e h = absurd h

-- ---- labels

label_is : (at : Sets) (v : Started) (place : At) (o : Option Meaning) (k : ℕ) → ((m : Meaning) → o ≡ Some m → MeaningSeen at v m) → label_by place o ≡ Ok k → LabelNamed any_name at v k
label_is at v place None k h e = absurd cc
label_is at v place (Some (meaning.Label j)) k h e = subst (LabelNamed any_name at v) (ok_is j k (label_by place (Some (meaning.Label j))) refl e) (h (meaning.Label j) refl)
label_is at v place (Some (meaning.Svc j m)) k h e = no_svc (j == 0) e where
  no_svc : (b : Bool) → (if b then Err (fault.LeftOut 2 place) else Err (fault.UnknownLabel place)) ≡ Ok k → LabelNamed any_name at v k
  no_svc true q = absurd cc
  no_svc false q = absurd cc
label_is at v place (Some _) k h e = absurd cc

label_named : (at : Sets) (c : Scope) (v : Started) (s : Sight) (n : Ident) (k : ℕ) → Sees at c v s → label_in s n ≡ Ok k → LabelNamed any_name at v k
label_named at c v s n k h e = label_is at v n.at (find s n.name) k (λ m q. is_seen at c v s h n.name m q) e

-- the labels of a SWITCH, behind those so far
record LabelsFound (s : Sight) (done : List ℕ) (ns : List Ident) (t : Tally) : Type 0 where
  labels : List ℕ
  gives : labels_in s done ns t ≡ (done ++ labels, t)
  named : (at : Sets) (c : Scope) (v : Started) → Sees at c v s → LabelsNamed any_name at v labels

labels_found : (s : Sight) (done : List ℕ) (ns : List Ident) (t : Tally) → (labels_in s done ns t).1.faults ≡ [] → LabelsFound s done ns t
labels_found s done [] t f = record { labels = []; gives = ap (λ (z : List ℕ). (z, t)) (sym (append-nil done)); named = λ at c v h. tt }
labels_found s done (n ∷ ns) t f =
    let u : ℕ × Tally = label_or (label_in s n) t in
    let none : u.1.faults ≡ [] = pre_none u.1.faults _ f (grow_labels_in s (done ++ u.0 ∷ []) ns u.1).faults in
    let z = settled 0 (label_in s n) t (label_certain s n) none in
    let moved : labels_in s done (n ∷ ns) t ≡ labels_in s (done ++ z.value ∷ []) ns t = ap (λ (y : ℕ × Tally). labels_in s (done ++ y.0 ∷ []) ns y.1) z.gives in
    let go = labels_found s (done ++ z.value ∷ []) ns t (sym (ap (λ (y : List ℕ × Tally). y.1.faults) moved) ∙ f) in
    record {
      labels = z.value ∷ go.labels;
      gives = moved ∙ go.gives ∙ ap (λ (l : List ℕ). (l, t)) (append_assoc done (z.value ∷ []) go.labels);
      named = λ at c v h. (label_named at c v s n z.value h z.is, go.named at c v h);
    }

tree_compare : (c : Scope) (k : Rel) (x y : Value) → (tested c (tests.Compare k x y)).tree ≡ Is k (valued c x).tree (valued c y).tree
tree_compare c k x y = let o : out-Test (tests.Compare k x y) ≡ Test-F.Compare k x y = search test_lemmas.the_lemmas in rw (fold_out-Test, o) refl

module _ (c : Scope) (a : Around c) where
  -- A statement with so many labels inside it.
  pub record StatGood (p : JudgedStat) (n : ℕ) : Type 0 where
    pub grows : (s : Sight) → Growing (p s)
    pub made : (s : Sight) (t : Tally) (v : Started) → Fine c (p s t).1 → t.labels + n < 65536 → Zeroed c v
        → Made t.labels (p s t).1.labels n (StandsInside (stat_of c (p s t).0)) (λ at. Sees at c v s → StmtNamed any_name at v (stat_of c (p s t).0))

  -- ---- one found statement

  back_named : (at : Sets) (v : Started) → StmtNamed any_name at v (stat_of c (stats.Return None))
  back_named at v = rw made_back tt

  number_named : (v : Started) → TermNamed any_name v (valued c (values.Number 0)).tree
  number_named v = rw tree_number (omega arith)

  -- what stands for a statement that can't be known
  other_named : (at : Sets) (v : Started) → StmtNamed any_name at v (stat_of c (stats.Call (values.Number 0)))
  other_named at v = rw made_call (call_named at v (valued c (values.Number 0)) (number_named v))

  found_or_good : (other : Stat) → ((at : Sets) (v : Started) → StmtNamed any_name at v (stat_of c other)) → (o : Sight → Outcome Stat)
      → ((at : Sets) (v : Started) (s : Sight) → Sees at c v s → (x : Stat) → o s ≡ Ok x → StmtNamed any_name at v (stat_of c x)) → StatGood (λ s. found_or other (o s)) 0
  found_or_good other named o h = record {
    grows = λ s t. grow_found other (o s) t;
    made = λ s t v f b z. made_alone t.labels _ (found_labels other (o s) t) (λ at k. found_is (λ x. StmtNamed any_name at v (stat_of c x)) other (o s) t (named at v) (h at v s k));
  }

  found_good : (o : Sight → Outcome Stat) → ((at : Sets) (v : Started) (s : Sight) → Sees at c v s → (x : Stat) → o s ≡ Ok x → StmtNamed any_name at v (stat_of c x)) → StatGood (λ s. stat_or (o s)) 0
  found_good o h = found_or_good (stats.Call (values.Number 0)) other_named o h

  pub call_good : (h : Chain) → words_in_chain h ≡ true → StatGood (λ s. stat_or (call_in s h)) 0
  call_good h w = found_good (λ s. call_in s h)
      (λ at v s k x e.
      let z = bound (alone s h) (λ y. Ok (stats.Call y)) x e in
      subst (λ (y : Stat). StmtNamed any_name at v (stat_of c y)) (ok_is (stats.Call z.value) x (Ok (stats.Call z.value)) refl z.gives)
      (rw made_call (call_named at v (valued c z.value) (call_judged c a at v s k h z.value w z.is))))

  pub assign_good : (h : Chain) (e : Expr) → words_in_chain h && words_in_expr e ≡ true → StatGood (λ s. stat_or (assignment_in s h e)) 0
  assign_good h e w = found_good (λ s. assignment_in s h e)
      (λ at v s k x q.
      let z = assigned_by s (target s h) e x q in
      subst (λ (w : Stat). StmtNamed any_name at v (stat_of c w)) z.made
      (rw made_assign (assigned_named at v (placed c z.to) (valued c z.value).tree (target_judged c a at v s k h (z.to, z.mode) (left_of (words_in_chain h) (words_in_expr e) w) z.is)
      (value_judged c a at v s k e z.mode z.value (right_of (words_in_chain h) (words_in_expr e) w) z.gives))))

  pub assign_val_good : (place : At) (h : Chain) (e : Expr) → words_in_chain h && words_in_expr e ≡ true → StatGood (λ s. stat_or (val_assignment_in s place h e)) 0
  assign_val_good place h e w = found_good (λ s. val_assignment_in s place h e)
      (λ at v s k x q.
      let z = assigned_by s (val_target s place h) e x q in
      subst (λ (w : Stat). StmtNamed any_name at v (stat_of c w)) z.made
      (rw made_assign (assigned_named at v (placed c z.to) (valued c z.value).tree (val_judged c a at v s k place h (z.to, z.mode) (left_of (words_in_chain h) (words_in_expr e) w) z.is)
      (value_judged c a at v s k e z.mode z.value (right_of (words_in_chain h) (words_in_expr e) w) z.gives))))

  -- ---- RETURN

  bare_return : (at : Sets) (v : Started) (r : Answer) (s : Sight) (place : At) (x : Stat) → returned r s None place ≡ Ok x → StmtNamed any_name at v (stat_of c x)
  bare_return at v answer.Nothing s place x e = subst (λ (w : Stat). StmtNamed any_name at v (stat_of c w)) (ok_is (stats.Return None) x (Ok (stats.Return None)) refl e) (back_named at v)
  bare_return at v (answer.Wanted m) s place x e = absurd cc
  bare_return at v answer.Unknown s place x e = subst (λ (w : Stat). StmtNamed any_name at v (stat_of c w)) (ok_is (stats.Return None) x (Ok (stats.Return None)) refl e) (back_named at v)

  returned_value : (o : Outcome Value) (x : Stat) → return_of o ≡ Ok x → (y : Value) × (o ≡ Ok y) × (stats.Return (Some y) ≡ x)
  returned_value (Ok y) x e = (y, refl, ok_is (stats.Return (Some y)) x (Ok (stats.Return (Some y))) refl e)
  returned_value (Err g) x e = absurd cc

  given_back : (at : Sets) (v : Started) (s : Sight) → Sees at c v s → (e : Expr) → words_in_expr e ≡ true → (m : Mode) (x : Stat) → return_of (value_in s e m) ≡ Ok x → StmtNamed any_name at v (stat_of c x)
  given_back at v s k e w m x h =
      let z = returned_value (value_in s e m) x h in
      subst (λ (w : Stat). StmtNamed any_name at v (stat_of c w)) z.2 (rw made_return (value_judged c a at v s k e m z.0 w z.1))

  value_return : (at : Sets) (v : Started) (r : Answer) (s : Sight) → Sees at c v s → (e : Expr) → words_in_expr e ≡ true → (place : At) (x : Stat) → returned r s (Some e) place ≡ Ok x → StmtNamed any_name at v (stat_of c x)
  value_return at v answer.Nothing s k e w place x h = absurd cc
  value_return at v (answer.Wanted m) s k e w place x h = given_back at v s k e w m x h
  value_return at v answer.Unknown s k e w place x h = absurd cc

  pub return_good : (r : Answer) (e : Option Expr) (place : At) → words_in_any e ≡ true → StatGood (λ s. return_or (returned r s e place)) 0
  return_good r None place w = found_or_good (stats.Return None) back_named (λ s. returned r s None place) (λ at v s k x e. bare_return at v r s place x e)
  return_good r (Some e) place w = found_or_good (stats.Return None) back_named (λ s. returned r s (Some e) place) (λ at v s k x h. value_return at v r s k e w place x h)

  -- ---- values and conditions in parts

  pub value_named : (at : Sets) (v : Started) (s : Sight) → Sees at c v s → (e : Expr) → words_in_expr e ≡ true → (m : Mode) (t : Tally) → TermNamed any_name v (valued c (value_or (value_in s e m) t).0).tree
  value_named at v s k e w m t = found_is (λ x. TermNamed any_name v (valued c x).tree) (values.Number 0) (value_in s e m) t (number_named v) (λ x h. value_judged c a at v s k e m x w h)

  pub int_named : (at : Sets) (v : Started) (s : Sight) → Sees at c v s → (e : Expr) → words_in_expr e ≡ true → (t : Tally) → TermNamed any_name v (valued c (int_in s e t).0).tree
  int_named at v s k e w t = value_named at v s k e w mode.Int t

  pub int_labels : (s : Sight) (e : Expr) (t : Tally) → (int_in s e t).1.labels ≡ t.labels
  int_labels s e t = found_labels (values.Number 0) (value_in s e mode.Int) t

  -- the step of a loop is 1 where it is left out
  pub step_named : (at : Sets) (v : Started) (s : Sight) → Sees at c v s → (e : Option Expr) → words_in_any e ≡ true → (t : Tally) → TermNamed any_name v (step_tree c (any_int_in s e t).0)
  step_named at v s k None w t = omega arith
  step_named at v s k (Some e) w t = int_named at v s k e w t

  pub step_labels : (s : Sight) (e : Option Expr) (t : Tally) → (any_int_in s e t).1.labels ≡ t.labels
  step_labels s None t = refl
  step_labels s (Some e) t = int_labels s e t

  no_test : (v : Started) → CondNamed any_name v (tested c (tests.Compare rel.Equal (values.Number 0) (values.Number 0))).tree
  no_test v = subst (CondNamed any_name v) (sym (tree_compare c rel.Equal (values.Number 0) (values.Number 0))) (number_named v, number_named v)

  pub test_named : (at : Sets) (v : Started) (s : Sight) → Sees at c v s → (d : Cond) → words_in_cond d ≡ true → (t : Tally) → CondNamed any_name v (tested c (test_or (test_in s d) t).0).tree
  test_named at v s k d w t =
      found_is (λ x. CondNamed any_name v (tested c x).tree) (tests.Compare rel.Equal (values.Number 0) (values.Number 0)) (test_in s d) t (no_test v) (λ x h. test_judged c a at v s k d x w h)

  pub test_labels : (s : Sight) (d : Cond) (t : Tally) → (test_or (test_in s d) t).1.labels ≡ t.labels
  test_labels s d t = found_labels (tests.Compare rel.Equal (values.Number 0) (values.Number 0)) (test_in s d) t

  -- ---- jumps

  pub goto_good : (n : Ident) → StatGood (λ s. goto s n) 0
  goto_good n = record {
    grows = λ s t. grow_goto s n t;
    made = λ s t v f b q.
        let z = settled 0 (label_in s n) t (label_certain s n) f.none in
        made_alone t.labels _ (found_labels 0 (label_in s n) t) (λ at k.
        subst (λ (y : ℕ × Tally). StmtNamed any_name at v (stat_of c (stats.Goto y.0))) (sym z.gives) (rw made_goto (label_named at c v s n z.value k z.is)));
  }

  pub switch_good : (e : Expr) (ns : List Ident) → words_in_expr e ≡ true → StatGood (λ s. switch s e ns) 0
  switch_good e ns w = record {
    grows = λ s t. grow_switch s e ns t;
    made = λ s t v f b q.
        let u : Value × Tally = int_in s e t in
        let z = labels_found s [] ns u.1 f.none in
        made_alone t.labels _ (ap (λ (y : List ℕ × Tally). y.1.labels) z.gives ∙ int_labels s e t) (λ at k.
        subst (λ (y : List ℕ × Tally). StmtNamed any_name at v (stat_of c (stats.Switch u.0 y.0))) (sym z.gives) (rw made_switch (int_named at v s k e w t, z.named at c v k)));
  }
