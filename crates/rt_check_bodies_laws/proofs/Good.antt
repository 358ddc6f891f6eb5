-- Statements by themselves stay within their items.
use Rattle.std.proofs.Common.{◌≡◌, ℕ, suc, ◌+◌, ◌*◌, ◌<◌, ◌≤◌, true, List, [], ◌∷◌, ◌++◌, length, Option, Some, None, Ok, Err, arith, refl, ap, ◌∙◌, subst}
use Rattle.std.specs.List.{list_all}
use Rattle.rt_grammar.specs.declared.at.At.{At}
use Rattle.rt_grammar.specs.declared.at.Ident.{Ident}
use Rattle.rt_syntax_exprs.specs.declared.tree.Chain.{Chain}
use Rattle.rt_syntax_exprs.specs.declared.tree.Cond.{Cond}
use Rattle.rt_syntax_exprs.specs.declared.tree.Expr.{Expr}
use Rattle.rt_bricks_laws.specs.Counts.{names, in_expr, in_chain, in_cond, behind_one}
use Rattle.rt_modes.specs.declared.mode.Mode.{Mode}
use Rattle.rt_modes.specs.declared.mode.Mode.TheVariants as mode
use Rattle.rt_exprs_laws.proofs.Layers.{number_value}
use Rattle.rt_tree_nodes.specs.declared.operators.Rel.TheVariants as rel
use Rattle.rt_tree_nodes.specs.declared.statement.Stat.{Stat}
use Rattle.rt_tree_nodes.specs.declared.statement.Stat.TheVariants as stats
use Rattle.rt_tree_nodes.specs.declared.statement.Test.TheVariants as tests
use Rattle.rt_tree_nodes.specs.declared.value.Value.{Value}
use Rattle.rt_tree_nodes.specs.declared.value.Value.TheVariants as values
use Rattle.rt_tree_nodes.specs.Scopes.{Scope}
use Rattle.rt_tree_nodes.specs.Tree.{Term}
use Rattle.rt_tree_nodes.specs.Typing.{Placed, Valued, Spot, OnLocal, OnPath, OnRow, placed, valued}
use Rattle.rt_check_faults.specs.Outcomes.{Outcome, ◌>>=◌}
use Rattle.rt_exprs.specs.Judging.{alone, target, val_target}
use Rattle.rt_tree.specs.Depth.{depth, address_depth}
use Rattle.rt_tree.specs.Weights.{term_weight}
use Rattle.rt_tree.specs.Modules.{local_stands}
use Rattle.rt_tree.specs.Statements.{Sight as Seen, call_tree, assigned_tree, step_tree, tested}
use Rattle.rt_syntax_exprs.specs.Joins.{joins_two}
use Rattle.rt_check_bodies.specs.declared.tally.Tally.{Tally}
use Rattle.rt_check_bodies.specs.Parts.{found_or, value_or, stat_or, return_or, test_or, label_or, labels_in}
use Rattle.rt_exprs.specs.Sights.{Sight}
use Rattle.rt_check_bodies.specs.Sights.{value_in, assignment_in, val_assignment_in, call_in, test_in, label_in}
use Rattle.rt_check_bodies.specs.declared.answer.Answer.{Answer}
use Rattle.rt_check_bodies.specs.declared.answer.Answer.TheVariants as answer
use Rattle.rt_check_bodies.specs.Statements.{JudgedStat, int_in, any_int_in, goto, switch, returned, return_of}
use Rattle.rt_check_bodies_laws.specs.Held.{Holds}
use Rattle.rt_check_bodies_laws.proofs.Growing.{Pre, Growing, known_locals, grow_found, grow_goto, grow_switch}
use Rattle.rt_check_bodies_laws.proofs.Accepted.{assigned_by}
use Rattle.rt_check_bodies_laws.proofs.Conditions.{comparison_within}
use Rattle.rt_check_bodies_laws.proofs.Reached.{behind_least}
use Rattle.rt_check_bodies_laws.proofs.Suited.{number_within}
use Rattle.rt_check_bodies_laws.specs.Parts.{ValueWithin, CallWithin, SpotWithin, ConditionWithin, StatementWithin}
use Rattle.rt_check_bodies_laws.specs.Refs.{AllFew}
use Rattle.rt_check_bodies_laws.proofs.Judged.{value_judged, target_judged, val_judged, call_judged, test_judged}
use Rattle.rt_check_bodies_laws.proofs.Least.{twice_as_many_names, expr_some, chain_some, cond_some}
use Rattle.rt_check_bodies_laws.proofs.Made.{stat_of, made_call, made_assign, made_goto, made_back, made_return, made_switch}

-- The scope of a procedure: its locals have numbers of 16 bits, their modes may stand, and few REFs stand in a row.
pub record Around (c : Scope) : Type 0 where
  pub small : length c.locals < 65536
  pub standing : list_all (local_stands (length c.records)) c.locals ≡ true
  pub few : AllFew c

-- A statement of so many items: it adds no more locals than items, and its tree stays within them.
pub record StatGood (p : JudgedStat) (n : ℕ) : Type 0 where
  pub grows : (s : Sight) → Growing (p s)
  pub counts : (s : Sight) (t : Tally) → length (p s t).1.locals ≤ length t.locals + n
  pub within : (c : Scope) → Around c → (s : Sight) (seen : Seen) (t : Tally) → Holds c s seen → Pre (p s t).1.locals c.locals → StatementWithin n (stat_of c (p s t).0)

-- ---- what is found, or what stands in its place

pub found_locals : {A : Type 0} (other : A) (o : Outcome A) (t : Tally) → (found_or other o t).1.locals ≡ t.locals
found_locals other (Ok x) t = refl
found_locals other (Err g) t = known_locals g t

pub found_is : {A : Type 0} (P : A → Type 0) (other : A) (o : Outcome A) (t : Tally) → P other → ((x : A) → o ≡ Ok x → P x) → P (found_or other o t).0
found_is P other (Ok x) t h go = go x refl
found_is P other (Err g) t h go = h

record Bound {A B : Type 0} (o : Outcome A) (f : A → Outcome B) (y : B) : Type 0 where
  value : A
  is : o ≡ Ok value
  gives : f value ≡ Ok y

bound : {A B : Type 0} (o : Outcome A) (f : A → Outcome B) (y : B) → (o >>= f) ≡ Ok y → Bound o f y
bound (Ok x) f y e = record { value = x; is = refl; gives = e }
bound (Err g) f y e = absurd cc

ok_stat : (a b : Stat) (o : Outcome Stat) → o ≡ Ok a → o ≡ Ok b → a ≡ b
ok_stat a b o e h = cc

-- ---- trees of statements

module _ (n : ℕ) where
  call_within : (v : Valued) → CallWithin n v.tree → StatementWithin n (call_tree v)
  call_within v h = by_call v.call refl where
    by_call : (o : Option (Option Mode)) → v.call ≡ o → StatementWithin n (call_tree v)
    by_call None e = record { weight = rw e (omega (arith, h.weight)); depth = rw e h.depth }
    by_call (Some None) e = record { weight = rw e (omega (arith, h.weight)); depth = rw e h.depth }
    by_call (Some (Some m)) e = record { weight = rw e (omega (arith, h.weight)); depth = rw e h.depth }

  assigned_within : (p : Placed) (v : Term) (i j : ℕ) → n ≡ i + (1 + j) → SpotWithin i p.tree → ValueWithin j v → StatementWithin n (assigned_tree p v)
  assigned_within p v i j e h g = by_spot p.tree refl h where
    by_spot : (t : Spot) → p.tree ≡ t → SpotWithin i t → StatementWithin n (assigned_tree p v)
    by_spot (OnLocal k) is h = record { weight = rw is (omega (arith, e, h, g.weight)); depth = rw is (omega (arith, e, g.depth)) }
    by_spot (OnPath q) is h = record { weight = rw is (omega (arith, e, h.weight, g.weight)); depth = rw is (omega (arith, e, h.depth, g.depth, behind_least (address_depth q) (depth v))) }
    by_spot (OnRow a) is h = absurd h

module _ (c : Scope) where
  pub back_within : (n : ℕ) → 1 ≤ n → StatementWithin n (stat_of c (stats.Return None))
  back_within n l = record { weight = rw made_back (omega (arith, l)); depth = rw made_back (omega arith) }

  -- what stands for a call or an assignment that is unfit or can't be known
  pub nothing_called : (n : ℕ) → 1 ≤ n → StatementWithin n (stat_of c (stats.Call (values.Number 0)))
  nothing_called n l = record { weight = rw (made_call, number_value c 0) (omega (arith, l)); depth = rw (made_call, number_value c 0) l }

  return_within : (v : Value) (n : ℕ) → ValueWithin n (valued c v).tree → StatementWithin (1 + n) (stat_of c (stats.Return (Some v)))
  return_within v n h = record { weight = rw made_return (omega (arith, h.weight)); depth = rw made_return (omega (arith, h.depth)) }

  goto_within : (k : ℕ) → StatementWithin 2 (stat_of c (stats.Goto k))
  goto_within k = record { weight = rw made_goto (omega arith); depth = rw made_goto (omega arith) }

  switch_within : (v : Value) (ls : List ℕ) (i j : ℕ) → 2 * length ls ≤ j + 1 → ValueWithin i (valued c v).tree → StatementWithin (2 + (i + j)) (stat_of c (stats.Switch v ls))
  switch_within v ls i j l h = record { weight = rw made_switch (omega (arith, l, h.weight)); depth = rw made_switch (omega (arith, h.depth)) }

-- ---- one found statement

module _ (other : Stat) (o : Sight → Outcome Stat) (n : ℕ) where
  found_good : ((c : Scope) → StatementWithin n (stat_of c other)) → ((c : Scope) → AllFew c → (s : Sight) (seen : Seen) → Holds c s seen → (x : Stat) → o s ≡ Ok x → StatementWithin n (stat_of c x)) → StatGood (λ s. found_or other (o s)) n
  found_good stays h = record {
    grows = λ s t. grow_found other (o s) t;
    counts = λ s t. omega (arith, ap length (found_locals other (o s) t));
    within = λ c a s seen t k f. found_is (λ x. StatementWithin n (stat_of c x)) other (o s) t (stays c) (h c a.few s seen k);
  }

pub call_good : (h : Chain) → StatGood (λ s. stat_or (call_in s h)) (in_chain h)
call_good h = found_good (stats.Call (values.Number 0)) (λ s. call_in s h) (in_chain h) (λ c. nothing_called c (in_chain h) (chain_some h))
    (λ c few s seen k x e.
    let z = bound (alone s h) (λ v. Ok (stats.Call v)) x e in
    subst (λ (y : Stat). StatementWithin (in_chain h) (stat_of c y)) (ok_stat (stats.Call z.value) x (Ok (stats.Call z.value)) refl z.gives)
    (rw made_call (call_within (in_chain h) (valued c z.value) (call_judged c few s seen k h z.value z.is))))

pub assign_good : (h : Chain) (e : Expr) → StatGood (λ s. stat_or (assignment_in s h e)) (in_chain h + (1 + in_expr e))
assign_good h e = found_good (stats.Call (values.Number 0)) (λ s. assignment_in s h e) (in_chain h + (1 + in_expr e)) (λ c. nothing_called c (in_chain h + (1 + in_expr e)) (omega arith))
    (λ c few s seen k x q.
    let z = assigned_by s (target s h) e x q in
    subst (λ (w : Stat). StatementWithin (in_chain h + (1 + in_expr e)) (stat_of c w)) z.is
    (rw made_assign (assigned_within (in_chain h + (1 + in_expr e)) (placed c z.place) (valued c z.value).tree (in_chain h) (in_expr e) refl (target_judged c few s seen k h (z.place, z.mode) z.target) (value_judged c few s seen k e z.mode z.value z.given))))

pub assign_val_good : (at : At) (h : Chain) (e : Expr) → StatGood (λ s. stat_or (val_assignment_in s at h e)) (1 + (in_chain h + (1 + in_expr e)))
assign_val_good at h e = found_good (stats.Call (values.Number 0)) (λ s. val_assignment_in s at h e) (1 + (in_chain h + (1 + in_expr e))) (λ c. nothing_called c (1 + (in_chain h + (1 + in_expr e))) (omega arith))
    (λ c few s seen k x q.
    let z = assigned_by s (val_target s at h) e x q in
    subst (λ (w : Stat). StatementWithin (1 + (in_chain h + (1 + in_expr e))) (stat_of c w)) z.is
    (rw made_assign (assigned_within (1 + (in_chain h + (1 + in_expr e))) (placed c z.place) (valued c z.value).tree (1 + in_chain h) (in_expr e) (omega arith) (val_judged c few s seen k at h (z.place, z.mode) z.target) (value_judged c few s seen k e z.mode z.value z.given))))

-- ---- RETURN

returned_value : (o : Outcome Value) (x : Stat) → return_of o ≡ Ok x → (v : Value) × (o ≡ Ok v) × (stats.Return (Some v) ≡ x)
returned_value (Ok v) x e = (v, refl, ok_stat (stats.Return (Some v)) x (Ok (stats.Return (Some v))) refl e)
returned_value (Err g) x e = absurd cc

bare_return : (c : Scope) (r : Answer) (s : Sight) (at : At) (x : Stat) → returned r s None at ≡ Ok x → StatementWithin 1 (stat_of c x)
bare_return c answer.Nothing s at x e = subst (λ (w : Stat). StatementWithin 1 (stat_of c w)) (ok_stat (stats.Return None) x (Ok (stats.Return None)) refl e) (back_within c 1 (omega arith))
bare_return c (answer.Wanted m) s at x e = absurd cc
bare_return c answer.Unknown s at x e = subst (λ (w : Stat). StatementWithin 1 (stat_of c w)) (ok_stat (stats.Return None) x (Ok (stats.Return None)) refl e) (back_within c 1 (omega arith))

pub return_good : (r : Answer) (at : At) → StatGood (λ s. return_or (returned r s None at)) 1
return_good r at = found_good (stats.Return None) (λ s. returned r s None at) 1 (λ c. back_within c 1 (omega arith)) (λ c few s seen k x e. bare_return c r s at x e)

given_back : (c : Scope) → AllFew c → (s : Sight) (seen : Seen) → Holds c s seen → (e : Expr) (m : Mode) (x : Stat) → return_of (value_in s e m) ≡ Ok x → StatementWithin (1 + in_expr e) (stat_of c x)
given_back c few s seen k e m x h =
    let z = returned_value (value_in s e m) x h in
    subst (λ (w : Stat). StatementWithin (1 + in_expr e) (stat_of c w)) z.2 (return_within c z.0 (in_expr e) (value_judged c few s seen k e m z.0 z.1))

value_return : (c : Scope) → AllFew c → (r : Answer) (s : Sight) (seen : Seen) → Holds c s seen → (e : Expr) (at : At) (x : Stat) → returned r s (Some e) at ≡ Ok x → StatementWithin (1 + in_expr e) (stat_of c x)
value_return c few answer.Nothing s seen k e at x h = absurd cc
value_return c few (answer.Wanted m) s seen k e at x h = given_back c few s seen k e m x h
value_return c few answer.Unknown s seen k e at x h = absurd cc

pub value_return_good : (r : Answer) (e : Expr) (at : At) → StatGood (λ s. return_or (returned r s (Some e) at)) (1 + in_expr e)
value_return_good r e at = found_good (stats.Return None) (λ s. returned r s (Some e) at) (1 + in_expr e) (λ c. back_within c (1 + in_expr e) (omega arith)) (λ c few s seen k x h. value_return c few r s seen k e at x h)

-- ---- values and conditions in parts

number_stays : (c : Scope) (e : Expr) → ValueWithin (in_expr e) (valued c (values.Number 0)).tree
number_stays c e = number_within c 0 (in_expr e) (expr_some e)

pub value_stays : (c : Scope) → AllFew c → (s : Sight) (seen : Seen) → Holds c s seen → (e : Expr) (m : Mode) (t : Tally) → ValueWithin (in_expr e) (valued c (value_or (value_in s e m) t).0).tree
value_stays c few s seen k e m t = found_is (λ x. ValueWithin (in_expr e) (valued c x).tree) (values.Number 0) (value_in s e m) t (number_stays c e) (λ x h. value_judged c few s seen k e m x h)

pub int_stays : (c : Scope) → AllFew c → (s : Sight) (seen : Seen) → Holds c s seen → (e : Expr) (t : Tally) → ValueWithin (in_expr e) (valued c (int_in s e t).0).tree
int_stays c few s seen k e t = value_stays c few s seen k e mode.Int t

pub int_locals : (s : Sight) (e : Expr) (t : Tally) → (int_in s e t).1.locals ≡ t.locals
int_locals s e t = found_locals (values.Number 0) (value_in s e mode.Int) t

-- the step of a loop, with the item in front of it; it is 1 where it is left out
pub record StepWithin (items : ℕ) (v : Term) : Type 0 where
  pub weight : term_weight v ≤ 12 * items + 3
  pub depth : depth v ≤ 1 + items

pub step_stays : (c : Scope) → AllFew c → (s : Sight) (seen : Seen) → Holds c s seen → (e : Option Expr) (t : Tally) → StepWithin (behind_one e) (step_tree c (any_int_in s e t).0)
step_stays c few s seen k None t = record { weight = omega arith; depth = omega arith }
step_stays c few s seen k (Some e) t = let v = int_stays c few s seen k e t in record { weight = omega (arith, v.weight); depth = omega (arith, v.depth) }

pub step_locals : (s : Sight) (e : Option Expr) (t : Tally) → (any_int_in s e t).1.locals ≡ t.locals
step_locals s None t = refl
step_locals s (Some e) t = int_locals s e t

no_test : (c : Scope) (d : Cond) → joins_two d ≡ true → ConditionWithin (in_cond d) (tested c (tests.Compare rel.Equal (values.Number 0) (values.Number 0))).tree
no_test c d j =
    let v : ValueWithin 1 (valued c (values.Number 0)).tree = number_within c 0 1 (omega arith) in
    let w = comparison_within c rel.Equal (values.Number 0) (values.Number 0) 1 1 3 (omega arith) v v in
    record { weight = omega (arith, w.weight, cond_some d j); depth = omega (arith, w.depth, cond_some d j) }

pub test_stays : (c : Scope) → AllFew c → (s : Sight) (seen : Seen) → Holds c s seen → (d : Cond) → joins_two d ≡ true → (t : Tally) → ConditionWithin (in_cond d) (tested c (test_or (test_in s d) t).0).tree
test_stays c few s seen k d j t =
    found_is (λ x. ConditionWithin (in_cond d) (tested c x).tree) (tests.Compare rel.Equal (values.Number 0) (values.Number 0)) (test_in s d) t (no_test c d j) (λ x h. test_judged c few s seen k d x j h)

pub test_locals : (s : Sight) (d : Cond) (t : Tally) → (test_or (test_in s d) t).1.locals ≡ t.locals
test_locals s d t = found_locals (tests.Compare rel.Equal (values.Number 0) (values.Number 0)) (test_in s d) t

-- ---- jumps

pub goto_good : (n : Ident) → StatGood (λ s. goto s n) 2
goto_good n = record {
  grows = λ s t. grow_goto s n t;
  counts = λ s t. omega (arith, ap length (found_locals 0 (label_in s n) t));
  within = λ c a s seen t k f. goto_within c (label_or (label_in s n) t).0;
}

one_longer : {A : Type 0} (xs : List A) (x : A) → length (xs ++ x ∷ []) ≡ suc (length xs)
one_longer [] x = refl
one_longer (y ∷ ys) x = ap suc (one_longer ys x)

labels_many : (s : Sight) (done : List ℕ) (ns : List Ident) (t : Tally) → length (labels_in s done ns t).0 ≡ length done + length ns
labels_many s done [] t = omega arith
labels_many s done (n ∷ ns) t =
    let u : ℕ × Tally = label_or (label_in s n) t in
    labels_many s (done ++ u.0 ∷ []) ns u.1 ∙ omega (arith, one_longer done u.0)

pub labels_locals : (s : Sight) (done : List ℕ) (ns : List Ident) (t : Tally) → (labels_in s done ns t).1.locals ≡ t.locals
labels_locals s done [] t = refl
labels_locals s done (n ∷ ns) t =
    let u : ℕ × Tally = label_or (label_in s n) t in
    labels_locals s (done ++ u.0 ∷ []) ns u.1 ∙ found_locals 0 (label_in s n) t

pub switch_good : (e : Expr) (ns : List Ident) → StatGood (λ s. switch s e ns) (2 + (in_expr e + names ns))
switch_good e ns = record {
  grows = λ s t. grow_switch s e ns t;
  counts = λ s t. omega (arith, ap length (labels_locals s [] ns (int_in s e t).1), ap length (int_locals s e t));
  within = λ c a s seen t k f.
      let u : Value × Tally = int_in s e t in
      switch_within c u.0 (labels_in s [] ns u.1).0 (in_expr e) (names ns) (omega (arith, labels_many s [] ns u.1, twice_as_many_names ns)) (int_stays c a.few s seen k e t);
}
