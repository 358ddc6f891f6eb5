-- A mode that may stand as that of a parameter is that of a value.
use Rattle.std.proofs.Common.{◌≡◌, ℕ, ◌-◌, ◌&&◌, Bool, true, false, List, [], ◌∷◌, length, map, Option, Some, None, option_map, refl, sym, ap, ◌∙◌}
use Rattle.std.specs.Prelude.{nat_lt, nat_le}
use Rattle.rt_modes.specs.declared.mode.Mode.{Mode, out-Mode, roll-Mode, map-Mode, the_lemmas}
use Rattle.rt_modes.specs.declared.mode.Mode.TheFolds.{ind-Mode, fold_out-Mode}
use Rattle.rt_modes.specs.declared.mode.Mode.TheOpen.{Mode-F}
use Rattle.rt_tree.specs.declared.standing.Standing.{Standing}
use Rattle.rt_tree.specs.declared.standing.Standing.TheVariants as standing
use Rattle.rt_tree.specs.Modules.{Stands, stands as may_stand, layer_stands, stands_passed, all_passed, result_passed, is_length}
use Rattle.rt_exprs_laws.specs.Agreeing.{stands, all_values, answer_value, IsItem, IsValue}
use Rattle.rt_exprs_laws.proofs.Standing.{stands_at}

left_of : (a b : Bool) → a && b ≡ true → a ≡ true
left_of true b e = refl
left_of false b e = e

right_of : (a b : Bool) → a && b ≡ true → b ≡ true
right_of true b e = e
right_of false b e = absurd cc

both_true : (a b : Bool) → a ≡ true → b ≡ true → a && b ≡ true
both_true a b e h = rw (e, h) refl

module _ (n : ℕ) where
  record Placed (m : Mode) : Type 0 where
    alone : (levels refs : ℕ) → may_stand n m standing.Alone levels refs ≡ true → IsItem m
    inside : (levels refs : ℕ) → may_stand n m standing.Inside levels refs ≡ true → (stands m).inner ≡ true
    passed : (levels refs : ℕ) → may_stand n m standing.Passed levels refs ≡ true → IsValue m

  abbrev Pair : Type 0
  Pair = (m : Mode) × Placed m

  may_at : (m : Mode) (l : Mode-F Mode) → out-Mode m ≡ l → may_stand n m ≡ layer_stands n (map-Mode Mode Stands (may_stand n) l)
  may_at m l o = rw (fold_out-Mode, o) refl

  -- what may stand there by its first level
  at_place : (m : Mode) (l : Mode-F Mode) (p : Standing) (levels refs : ℕ) → out-Mode m ≡ l → may_stand n m p levels refs ≡ true → layer_stands n (map-Mode Mode Stands (may_stand n) l) p levels refs ≡ true
  at_place m l p levels refs o h = sym (ap (λ (f : Stands). f p levels refs) (may_at m l o)) ∙ h

  ref_inside : (k : Mode) (levels refs : ℕ) → Placed k → nat_lt 0 levels && (nat_lt 0 refs && may_stand n k standing.Inside (levels - 1) (refs - 1)) ≡ true → (stands k).inner ≡ true
  ref_inside k levels refs z h = z.inside (levels - 1) (refs - 1) (right_of (nat_lt 0 refs) _ (right_of (nat_lt 0 levels) _ h))

  row_inside : (k : Mode) (levels refs : ℕ) → Placed k → nat_lt 0 levels && (nat_lt 0 refs && may_stand n k standing.Inside (levels - 1) 8) ≡ true → (stands k).inner ≡ true
  row_inside k levels refs z h = z.inside (levels - 1) 8 (right_of (nat_lt 0 refs) _ (right_of (nat_lt 0 levels) _ h))

  all_are_values : (levels : ℕ) (ps : List Pair) → all_passed levels (map (may_stand n) (map (λ (e : Pair). e.0) ps)) ≡ true → all_values (map stands (map (λ (e : Pair). e.0) ps)) ≡ true
  all_are_values levels [] h = refl
  all_are_values levels (p ∷ ps) h =
      both_true (stands p.0).value (all_values (map stands (map (λ (e : Pair). e.0) ps))) (p.1.passed levels 8 (left_of (may_stand n p.0 standing.Passed levels 8) (all_passed levels (map (may_stand n) (map (λ (e : Pair). e.0) ps))) h))
      (all_are_values levels ps (right_of (may_stand n p.0 standing.Passed levels 8) (all_passed levels (map (may_stand n) (map (λ (e : Pair). e.0) ps))) h))

  answer_is_value : (levels : ℕ) (r : Option Pair) → result_passed levels (option_map (may_stand n) (option_map (λ (e : Pair). e.0) r)) ≡ true → answer_value (option_map stands (option_map (λ (e : Pair). e.0) r)) ≡ true
  answer_is_value levels None h = refl
  answer_is_value levels (Some p) h = p.1.passed levels 8 h

  proc_values : (levels : ℕ) (ps : List Pair) (r : Option Pair)
      → nat_lt 0 levels && (nat_le (length (map (may_stand n) (map (λ (e : Pair). e.0) ps))) 32 && (all_passed (levels - 1) (map (may_stand n) (map (λ (e : Pair). e.0) ps)) && result_passed (levels - 1) (option_map (may_stand n) (option_map (λ (e : Pair). e.0) r)))) ≡ true
      → all_values (map stands (map (λ (e : Pair). e.0) ps)) && answer_value (option_map stands (option_map (λ (e : Pair). e.0) r)) ≡ true
  proc_values levels ps r h =
      let both : Bool = all_passed (levels - 1) (map (may_stand n) (map (λ (e : Pair). e.0) ps)) && result_passed (levels - 1) (option_map (may_stand n) (option_map (λ (e : Pair). e.0) r)) in
      let g : both ≡ true = right_of (nat_le (length (map (may_stand n) (map (λ (e : Pair). e.0) ps))) 32) both (right_of (nat_lt 0 levels) (nat_le (length (map (may_stand n) (map (λ (e : Pair). e.0) ps))) 32 && both) h) in
      both_true (all_values (map stands (map (λ (e : Pair). e.0) ps))) (answer_value (option_map stands (option_map (λ (e : Pair). e.0) r)))
      (all_are_values (levels - 1) ps (left_of (all_passed (levels - 1) (map (may_stand n) (map (λ (e : Pair). e.0) ps))) _ g))
      (answer_is_value (levels - 1) r (right_of (all_passed (levels - 1) (map (may_stand n) (map (λ (e : Pair). e.0) ps))) _ g))

  no_truth : {P : Type 0} → false ≡ true → P
  no_truth e = absurd cc

  opened : (m : Mode) (y : Mode-F Pair) → out-Mode m ≡ map-Mode Pair Mode (λ e. e.0) y → Placed m
  opened m Mode-F.Byte o = let s = stands_at m Mode-F.Byte o in record { alone = λ a b h. ap (λ x. x.item) s; inside = λ a b h. ap (λ x. x.inner) s; passed = λ a b h. ap (λ x. x.value) s }
  opened m Mode-F.Int o = let s = stands_at m Mode-F.Int o in record { alone = λ a b h. ap (λ x. x.item) s; inside = λ a b h. ap (λ x. x.inner) s; passed = λ a b h. ap (λ x. x.value) s }
  opened m Mode-F.Frac o = let s = stands_at m Mode-F.Frac o in record { alone = λ a b h. ap (λ x. x.item) s; inside = λ a b h. ap (λ x. x.inner) s; passed = λ a b h. ap (λ x. x.value) s }
  opened m Mode-F.Label o = record {
    alone = λ a b h. no_truth (at_place m Mode-F.Label standing.Alone a b o h);
    inside = λ a b h. no_truth (at_place m Mode-F.Label standing.Inside a b o h);
    passed = λ a b h. no_truth (at_place m Mode-F.Label standing.Passed a b o h);
  }
  opened m (Mode-F.Ref k) o = let s = stands_at m (Mode-F.Ref k.0) o in record {
    alone = λ a b h. ap (λ x. x.item) s ∙ ref_inside k.0 a b k.1 (at_place m (Mode-F.Ref k.0) standing.Alone a b o h);
    inside = λ a b h. ap (λ x. x.inner) s ∙ ref_inside k.0 a b k.1 (at_place m (Mode-F.Ref k.0) standing.Inside a b o h);
    passed = λ a b h. ap (λ x. x.value) s ∙ ref_inside k.0 a b k.1 (at_place m (Mode-F.Ref k.0) standing.Passed a b o h);
  }
  opened m (Mode-F.RefArray k) o = let s = stands_at m (Mode-F.RefArray k.0) o in record {
    alone = λ a b h. ap (λ x. x.item) s ∙ row_inside k.0 a b k.1 (at_place m (Mode-F.RefArray k.0) standing.Alone a b o h);
    inside = λ a b h. ap (λ x. x.inner) s ∙ row_inside k.0 a b k.1 (at_place m (Mode-F.RefArray k.0) standing.Inside a b o h);
    passed = λ a b h. ap (λ x. x.value) s ∙ row_inside k.0 a b k.1 (at_place m (Mode-F.RefArray k.0) standing.Passed a b o h);
  }
  opened m (Mode-F.Array j k) o = let s = stands_at m (Mode-F.Array j k.0) o in record {
    alone = λ a b h. ap (λ x. x.item) s ∙ k.1.inside (a - 1) 8 (right_of (is_length j) (may_stand n k.0 standing.Inside (a - 1) 8) (right_of (nat_lt 0 a) (is_length j && may_stand n k.0 standing.Inside (a - 1) 8) (at_place m (Mode-F.Array j k.0) standing.Alone a b o h)));
    inside = λ a b h. no_truth (at_place m (Mode-F.Array j k.0) standing.Inside a b o h);
    passed = λ a b h. no_truth (at_place m (Mode-F.Array j k.0) standing.Passed a b o h);
  }
  opened m (Mode-F.Record r) o = let s = stands_at m (Mode-F.Record r) o in record {
    alone = λ a b h. ap (λ x. x.item) s;
    inside = λ a b h. ap (λ x. x.inner) s;
    passed = λ a b h. no_truth (at_place m (Mode-F.Record r) standing.Passed a b o h);
  }
  opened m (Mode-F.Proc ps None) o = let s = stands_at m (Mode-F.Proc (map (λ (e : Pair). e.0) ps) None) o in record {
    alone = λ a b h. ap (λ x. x.item) s ∙ proc_values a ps None (at_place m (Mode-F.Proc (map (λ (e : Pair). e.0) ps) None) standing.Alone a b o h);
    inside = λ a b h. ap (λ x. x.inner) s ∙ proc_values a ps None (at_place m (Mode-F.Proc (map (λ (e : Pair). e.0) ps) None) standing.Inside a b o h);
    passed = λ a b h. ap (λ x. x.value) s ∙ proc_values a ps None (at_place m (Mode-F.Proc (map (λ (e : Pair). e.0) ps) None) standing.Passed a b o h);
  }
  opened m (Mode-F.Proc ps (Some r)) o = let s = stands_at m (Mode-F.Proc (map (λ (e : Pair). e.0) ps) (Some r.0)) o in record {
    alone = λ a b h. ap (λ x. x.item) s ∙ proc_values a ps (Some r) (at_place m (Mode-F.Proc (map (λ (e : Pair). e.0) ps) (Some r.0)) standing.Alone a b o h);
    inside = λ a b h. ap (λ x. x.inner) s ∙ proc_values a ps (Some r) (at_place m (Mode-F.Proc (map (λ (e : Pair). e.0) ps) (Some r.0)) standing.Inside a b o h);
    passed = λ a b h. ap (λ x. x.value) s ∙ proc_values a ps (Some r) (at_place m (Mode-F.Proc (map (λ (e : Pair). e.0) ps) (Some r.0)) standing.Passed a b o h);
  }

  out_roll : (l : Mode-F Mode) → out-Mode (roll-Mode l) ≡ l
  out_roll l = search the_lemmas

  placed : (m : Mode) → Placed m
  placed = ind-Mode Placed (λ x y is. opened (roll-Mode x) y (out_roll x ∙ sym is))

  pub passed_is_value : (m : Mode) → stands_passed n m ≡ true → IsValue m
  passed_is_value m h = (placed m).passed 100 8 h

  pub alone_is_item : (m : Mode) → may_stand n m standing.Alone 100 8 ≡ true → IsItem m
  alone_is_item m h = (placed m).alone 100 8 h
