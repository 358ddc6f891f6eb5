-- Conditions, places that are assigned and calls that stand alone stay within their items.
use Rattle.std.proofs.Common.{◌≡◌, ℕ, ◌+◌, max, ◌&&◌, Bool, true, false, List, ◌∷◌, length, Option, Some, None, Ok, Err, if◌then◌else◌, map, arith, refl, sym, ap, ◌∙◌, subst}
use Rattle.std.specs.Prelude.{nat_le}
use Rattle.rt_grammar.specs.declared.at.At.{At}
use Rattle.rt_syntax_exprs.specs.declared.tree.Chain.{Chain}
use Rattle.rt_syntax_exprs.specs.declared.tree.Cond.{Cond as Written, out-Cond}
use Rattle.rt_syntax_exprs.specs.declared.tree.Cond.TheFolds.{fold_out-Cond}
use Rattle.rt_syntax_exprs.specs.declared.tree.Cond.TheOpen.{Cond-F}
use Rattle.rt_syntax_exprs.specs.declared.tree.Rel.{Rel}
use Rattle.rt_syntax_exprs.specs.declared.tree.Rel.TheVariants as rel
use Rattle.rt_bricks_laws.specs.Counts.{listed, further, in_expr, in_chain, in_cond}
use Rattle.rt_modes.specs.declared.mode.Mode.{Mode, out-Mode, the_lemmas}
use Rattle.rt_modes.specs.declared.mode.Mode.TheOpen.{Mode-F}
use Rattle.rt_modes.specs.declared.mode.Mode.TheVariants as mode
use Rattle.rt_tree_nodes.specs.declared.operators.Rel.{Rel as MadeRel}
use Rattle.rt_tree_nodes.specs.declared.statement.Test.{Test, out-Test}
use Rattle.rt_tree_nodes.specs.declared.statement.Test as test_lemmas
use Rattle.rt_tree_nodes.specs.declared.statement.Test.TheFolds.{fold_out-Test}
use Rattle.rt_tree_nodes.specs.declared.statement.Test.TheOpen.{Test-F}
use Rattle.rt_tree_nodes.specs.declared.statement.Test.TheVariants as tests
use Rattle.rt_tree_nodes.specs.declared.value.Place.{Place}
use Rattle.rt_tree_nodes.specs.declared.value.Value.{Value}
use Rattle.rt_tree_nodes.specs.Scopes.{Scope}
use Rattle.rt_tree_nodes.specs.Tree.{Cond, Is as Compared, Both, Either}
use Rattle.rt_tree_nodes.specs.Typing.{placed}
use Rattle.rt_check_faults.specs.declared.fault.CheckFault.TheVariants as fault
use Rattle.rt_exprs.specs.declared.operand.Standing.TheVariants as standing
use Rattle.rt_exprs.specs.Sights.{Sight}
use Rattle.rt_exprs.specs.Modes.{Want, basic, ref, row, want, want_by}
use Rattle.rt_exprs.specs.Operands.{Is, text, place, loop, result, done}
use Rattle.rt_check_faults.specs.Outcomes.{Outcome}
use Rattle.rt_exprs.specs.Fitting as f
use Rattle.rt_exprs.specs.Fitting.{Assigns, AssignsVal, CallIs, TestIs, TestsAre}
use Rattle.rt_exprs.specs.Judging.{compares, made_rel, reference_in, place_compares, result_compares, base_in, frac_or_int, place_if, assigned_is, called_is, is_whole}
use Rattle.rt_tree.specs.Depth.{condition_depth}
use Rattle.rt_tree.specs.Statements.{Tested, tested, joined_by}
use Rattle.rt_tree.specs.Weights.{condition_weight}
use Rattle.rt_exprs_laws.specs.Agreeing.{Agree}
use Rattle.rt_syntax_exprs.specs.Joins.{joins_two, all_true}
use Rattle.rt_exprs_laws.proofs.Fitted.{is_typed, chain_typed}
use Rattle.rt_exprs_laws.proofs.Wanted.{want_base, of_base}
use Rattle.rt_check_bodies_laws.proofs.FittingWeights.{suits_as, is_within, chain_within, fits_within}
use Rattle.rt_check_bodies_laws.proofs.Followed.{tree_of}
use Rattle.rt_check_bodies_laws.proofs.Items.{or_items, and_items, compare_items}
use Rattle.rt_check_bodies_laws.proofs.Reached.{TargetWithin, target_within}
use Rattle.rt_check_bodies_laws.proofs.Suited.{PlaceWithin, in_local, in_path, Within}
use Rattle.rt_check_bodies_laws.specs.Parts.{ValueWithin, CallWithin, SpotWithin, ConditionWithin}
use Rattle.rt_check_bodies_laws.specs.Refs.{AllFew}

-- ---- the mode that a comparison wants

record Wants (w : Want) : Type 0 where
  mode : Mode
  is : want mode ≡ w

wants_basic : (b : _) → Wants (basic b)
wants_basic b = record { mode = of_base b; is = want_base b }

wants_ref : (n : Mode) → Wants (ref n)
wants_ref n = let o : out-Mode (mode.Ref n) ≡ Mode-F.Ref n = search the_lemmas in record { mode = mode.Ref n; is = ap (want_by (mode.Ref n)) o }

wants_row : (n : Mode) → Wants (row n)
wants_row n = let o : out-Mode (mode.RefArray n) ≡ Mode-F.RefArray n = search the_lemmas in record { mode = mode.RefArray n; is = ap (want_by (mode.RefArray n)) o }

same_want : (v w : Want) → Some v ≡ Some w → Wants v → Wants w
same_want v w e h = subst Wants (is v w e) h where
  is : (v w : Want) → Some v ≡ Some w → v ≡ w
  is v w e = cc

place_wants : (m : Mode) (l : Mode-F Mode) → Wants (place_compares m l)
place_wants m (Mode-F.Ref n) = wants_ref n
place_wants m (Mode-F.RefArray n) = wants_row n
place_wants m (Mode-F.Array k n) = wants_row n
place_wants m _ = wants_ref m

result_wants : (l : Mode-F Mode) (w : Want) → result_compares l ≡ Some w → Wants w
result_wants (Mode-F.Ref n) w e = same_want (ref n) w e (wants_ref n)
result_wants (Mode-F.RefArray n) w e = same_want (row n) w e (wants_row n)
result_wants _ w e = absurd cc

reference_wants : (is : Is) (w : Want) → reference_in is ≡ Some w → Wants w
reference_wants (text n) w e = same_want (row mode.Byte) w e (wants_row mode.Byte)
reference_wants (place p m st) w e = same_want (place_compares m (out-Mode m)) w e (place_wants m (out-Mode m))
reference_wants (loop k) w e = same_want (ref mode.Int) w e (wants_ref mode.Int)
reference_wants (result v m) w e = result_wants (out-Mode m) w e
reference_wants _ w e = absurd cc

compared_wants : (r : Rel) (is : Is) (w : Want) → compares r is ≡ Some w → Wants w
compared_wants rel.Same is w e = reference_wants is w e
compared_wants rel.Different is w e = reference_wants is w e
compared_wants rel.Equal is w e = same_want (basic (frac_or_int (base_in is))) w e (wants_basic _)
compared_wants rel.Unequal is w e = same_want (basic (frac_or_int (base_in is))) w e (wants_basic _)
compared_wants rel.Less is w e = same_want (basic (frac_or_int (base_in is))) w e (wants_basic _)
compared_wants rel.LessOrEqual is w e = same_want (basic (frac_or_int (base_in is))) w e (wants_basic _)
compared_wants rel.Greater is w e = same_want (basic (frac_or_int (base_in is))) w e (wants_basic _)
compared_wants rel.GreaterOrEqual is w e = same_want (basic (frac_or_int (base_in is))) w e (wants_basic _)

-- ---- conditions that are joined

left_of : (a b : Bool) → a && b ≡ true → a ≡ true
left_of true b e = refl
left_of false b e = e

right_of : (a b : Bool) → a && b ≡ true → b ≡ true
right_of true b e = e
right_of false b e = absurd cc

-- AND and OR alike
record Joins (join : Cond → Cond → Cond) : Type 0 where
  weighs : (t u : Cond) → condition_weight (join t u) ≡ 8 + (condition_weight t + condition_weight u)
  takes : (t u : Cond) → condition_depth (join t u) ≡ max (condition_depth t) (condition_depth u)

both_join : Joins Both
both_join = record { weighs = λ t u. refl; takes = λ t u. refl }

either_join : Joins Either
either_join = record { weighs = λ t u. refl; takes = λ t u. refl }

joins_or : (d : Written) (cs : List Written) (at : At) → out-Cond d ≡ Cond-F.Or cs at → joins_two d ≡ nat_le 2 (length (map joins_two cs)) && all_true (map joins_two cs)
unfolding joins_two
joins_or d cs at o = rw (fold_out-Cond, o) refl

joins_and : (d : Written) (cs : List Written) (at : At) → out-Cond d ≡ Cond-F.And cs at → joins_two d ≡ nat_le 2 (length (map joins_two cs)) && all_true (map joins_two cs)
unfolding joins_two
joins_and d cs at o = rw (fold_out-Cond, o) refl

module _ (c : Scope) where
  tree_compare : (k : MadeRel) (x y : Value) → (tested c (tests.Compare k x y)).tree ≡ Compared k (tree_of c x) (tree_of c y)
  tree_compare k x y = let o : out-Test (tests.Compare k x y) ≡ Test-F.Compare k x y = search test_lemmas.the_lemmas in rw (fold_out-Test, o) refl

  tree_and : (ts : List Test) → (tested c (tests.And ts)).tree ≡ joined_by Both (map (tested c) ts)
  tree_and ts = let o : out-Test (tests.And ts) ≡ Test-F.And ts = search test_lemmas.the_lemmas in rw (fold_out-Test, o) refl

  tree_or : (ts : List Test) → (tested c (tests.Or ts)).tree ≡ joined_by Either (map (tested c) ts)
  tree_or ts = let o : out-Test (tests.Or ts) ≡ Test-F.Or ts = search test_lemmas.the_lemmas in rw (fold_out-Test, o) refl

  pub comparison_within : (k : MadeRel) (x y : Value) (i j n : ℕ) → n ≡ i + (1 + j) → ValueWithin i (tree_of c x) → ValueWithin j (tree_of c y) → ConditionWithin n (tested c (tests.Compare k x y)).tree
  comparison_within k x y i j n e h g = record {
    weight = rw tree_compare (omega (arith, e, h.weight, g.weight));
    depth = rw tree_compare (omega (arith, e, h.depth, g.depth));
  }

  joined_within : (join : Cond → Cond → Cond) → Joins join → (t u : Cond) (i j n : ℕ) → n ≡ i + (1 + j) → ConditionWithin i t → ConditionWithin j u → ConditionWithin n (join t u)
  joined_within join law t u i j n e h g = record {
    weight = rw (law.weighs) (omega (arith, e, h.weight, g.weight));
    depth = rw (law.takes) (omega (arith, e, h.depth, g.depth));
  }

  as_many : (t : Cond) (j k : ℕ) → j ≡ k → ConditionWithin j t → ConditionWithin k t
  as_many t j k e h = subst (λ (z : ℕ). ConditionWithin z t) e h

  -- ---- places that are assigned

  pub spot_within : (p : Place) (m : Mode) (k : ℕ) → PlaceWithin c p m k → SpotWithin k (placed c p).tree
  spot_within p m k (in_local i e t l) = rw t l
  spot_within p m k (in_path b q e t h) = rw t h

  abbrev place_in : Outcome (Option Place × Mode) → Option Place
  place_in (Ok x) = x.0
  place_in (Err g) = None

  same_place : (p q : Place) → Some p ≡ Some q → p ≡ q
  same_place p q e = cc

  whole_split : (at : At) (p q : Place) (m n : Mode) (k : ℕ) (b : Bool) → if◌then◌else◌ {A = Outcome (Option Place × Mode)} b (Err (fault.NotAssignable at)) (Ok (place_if true p, m)) ≡ Ok (Some q, n) → PlaceWithin c p m k → SpotWithin k (placed c q).tree
  whole_split at p q m n k true e h = absurd cc
  whole_split at p q m n k false e h = subst (λ (y : Place). SpotWithin k (placed c y).tree) (same_place p q (ap (λ (o : Outcome (Option Place × Mode)). place_in o) e)) (spot_within p m k h)

  assigned_within : (at : At) (is : Is) (q : Place) (n : Mode) (k : ℕ) → Within c k is → assigned_is at true is ≡ Ok (Some q, n) → SpotWithin k (placed c q).tree
  assigned_within at (place p m st) q n k h e = whole_split at p q m n k (is_whole (out-Mode m)) e h.0
  assigned_within at _ q n k h e = absurd cc

  same_value : (a b : Value) (o : Outcome Value) → o ≡ Ok a → o ≡ Ok b → a ≡ b
  same_value a b o e h = cc

  called_within : (at : At) (is : Is) (x : Value) (k : ℕ) → Within c k is → called_is at is ≡ Ok x → CallWithin k (tree_of c x)
  called_within at (result v m) x k h e = subst (λ (z : Value). CallWithin k (tree_of c z)) (same_value v x _ refl e) h.0
  called_within at (done v) x k h e = subst (λ (z : Value). CallWithin k (tree_of c z)) (same_value v x _ refl e) h
  called_within at _ x k h e = absurd cc

  module _ (s : Sight) (agree : Agree s c) (few : AllFew c) where
    pub assigns_within : {h : Chain} {x : Place × Mode} → Assigns s h x → SpotWithin (in_chain h) (placed c x.0).tree
    assigns_within {h = h} (f.assigns {f = g} {p = p} {m = m} b i e) = assigned_within g.at g.is p m (in_chain h) (chain_within c s agree few i) e

    pub assigns_val_within : {at : At} {h : Chain} {x : Place × Mode} → AssignsVal s at h x → SpotWithin (1 + in_chain h) (placed c x.0).tree
    assigns_val_within {at = at} {h = h} (f.assigns_val {f = g} {p = p} {q = q} {m = m} {n = n} i t e) =
        assigned_within at (place p m standing.Shared) q n (1 + in_chain h) (subst (TargetWithin c (1 + in_chain h)) t (target_within c g.is (in_chain h) (chain_typed s c agree i) (chain_within c s agree few i))) e

    pub call_is_within : {h : Chain} {x : Value} → CallIs s h x → CallWithin (in_chain h) (tree_of c x)
    call_is_within {h = h} (f.call_is {f = g} {x = x} i e) = called_within g.at g.is x (in_chain h) (chain_within c s agree few i) e

    mutual
      pub test_within : {d : Written} {t : Test} → TestIs s d t → joins_two d ≡ true → ConditionWithin (in_cond d) (tested c t).tree
      test_within {d = d} (f.is_or {cs = cs} {at = at} {ts = ts} o h) j =
          as_many (tested c (tests.Or ts)).tree (listed (map in_cond cs)) (in_cond d) (sym (or_items d cs at o)) (rw tree_or (tests_within h Either either_join (sym (joins_or d cs at o) ∙ j)))
      test_within {d = d} (f.is_and {cs = cs} {at = at} {ts = ts} o h) j =
          as_many (tested c (tests.And ts)).tree (listed (map in_cond cs)) (in_cond d) (sym (and_items d cs at o)) (rw tree_and (tests_within h Both both_join (sym (joins_and d cs at o) ∙ j)))
      test_within {d = d} (f.is_comparison {r = r} {a = a} {b = b} {at = at} {f = g} {w = w} {x = x} {y = y} o h q e k) j =
          let m = compared_wants r g.is w q in
          comparison_within (made_rel r) x y (in_expr a) (in_expr b) (in_cond d) (compare_items d r a b at o)
          (suits_as c g.at g.is w m.mode (in_expr a) x m.is (is_typed s c agree h) (is_within c s agree few h) e) (fits_within c s agree few k m.mode m.is)

      -- two or more
      tests_within : {cs : List Written} {ts : List Test} → TestsAre s cs ts → (join : Cond → Cond → Cond) → Joins join → nat_le 2 (length (map joins_two cs)) && all_true (map joins_two cs) ≡ true
          → ConditionWithin (listed (map in_cond cs)) (joined_by join (map (tested c) ts))
      tests_within f.no_test join law j = absurd cc
      tests_within (f.one_test {c = d} {cs = cs} {t = t} h hs) join law j =
          let each : all_true (map joins_two (d ∷ cs)) ≡ true = right_of (nat_le 2 (length (map joins_two (d ∷ cs)))) _ j in
          behind_within hs join law (right_of (joins_two d) _ each) (tested c t) (in_cond d) (test_within h (left_of (joins_two d) _ each))

      -- with one in front of them
      behind_within : {cs : List Written} {ts : List Test} → TestsAre s cs ts → (join : Cond → Cond → Cond) → Joins join → all_true (map joins_two cs) ≡ true
          → (t : Tested) (i : ℕ) → ConditionWithin i t.tree → ConditionWithin (i + further (map in_cond cs)) (joined_by join (t ∷ map (tested c) ts))
      behind_within f.no_test join law j t i w = as_many t.tree i (i + 0) (omega arith) w
      behind_within (f.one_test {c = e} {cs = cs} {t = u} {ts = ts} g gs) join law j t i w =
          joined_within join law t.tree (joined_by join (map (tested c) (u ∷ ts))) i (in_cond e + further (map in_cond cs)) (i + ((1 + in_cond e) + further (map in_cond cs))) (omega arith) w
          (behind_within gs join law (right_of (joins_two e) _ j) (tested c u) (in_cond e) (test_within g (left_of (joins_two e) _ j)))
