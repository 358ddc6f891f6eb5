-- Places that are assigned, and conditions, name only what is seen.
use Rattle.std.proofs.Common.{◌≡◌, true, List, [], ◌∷◌, Option, Some, None, map, arith, refl, sym, ◌∙◌}
use Rattle.std.specs.List.{AllByRecursion}
use Rattle.rt_grammar.specs.declared.at.At.{At}
use Rattle.rt_syntax_exprs.specs.declared.tree.Chain.{Chain}
use Rattle.rt_syntax_exprs.specs.declared.tree.Cond.{Cond as Written}
use Rattle.rt_modes.specs.declared.mode.Mode.{Mode}
use Rattle.rt_tree_nodes.specs.declared.operators.Rel.{Rel as MadeRel}
use Rattle.rt_tree_nodes.specs.declared.statement.Test.{Test, out-Test}
use Rattle.rt_tree_nodes.specs.declared.statement.Test as test_lemmas
use Rattle.rt_tree_nodes.specs.declared.statement.Test.TheFolds.{fold_out-Test}
use Rattle.rt_tree_nodes.specs.declared.statement.Test.TheOpen.{Test-F}
use Rattle.rt_tree_nodes.specs.declared.statement.Test.TheVariants as tests
use Rattle.rt_tree_nodes.specs.declared.value.Place.{Place}
use Rattle.rt_tree_nodes.specs.declared.value.Value.{Value}
use Rattle.rt_tree_nodes.specs.Scopes.{Scope, with}
use Rattle.rt_tree_nodes.specs.Tree.{Cond, Is, Both, Either}
use Rattle.rt_tree_nodes.specs.Typing.{Found, Row, Spot, OnLocal, OnPath, OnRow, assigned_mode, placed, valued}
use Rattle.rt_exprs.specs.Sights.{Sight}
use Rattle.rt_exprs.specs.Fitting as f
use Rattle.rt_exprs.specs.Fitting.{Assigns, AssignsVal, TestIs, TestsAre}
use Rattle.rt_tree.specs.Statements.{Tested, tested, joined_by}
use Rattle.rt_exprs_laws.specs.Agreeing.{Agree}
use Rattle.rt_exprs_laws.specs.Laws.{MayBeAssigned}
use Rattle.rt_exprs_laws.proofs.Targets.{target_assigned, val_assigned}
use Rattle.rt_bricks_laws.specs.Bodies.{all}
use Rattle.rt_bricks_laws.specs.Numbers.{words_in_expr, words_in_chain, words_in_cond}
use Rattle.rt_bricks_laws.proofs.Truths.{left_of, right_of}
use Rattle.rt_meaning_laws.specs.Trees.{Started}
use Rattle.rt_meaning_laws.specs.Named.{any_name, CondNamed}
use Rattle.rt_meaning_sound.specs.Seen.{LocalsSeen, SpotNamed}
use Rattle.rt_meaning_sound.specs.Short.{AllShort}
use Rattle.rt_meaning_sound.proofs.Fitting.{is_seen, fits_seen, assigns_seen, assigns_val_seen}
use Rattle.rt_meaning_sound.proofs.Nodes.{OnlyRow, RowAlone, SpotSeen, PlaceSeen}
use Rattle.rt_meaning_sound.proofs.Operands.{suits_seen}
use Rattle.rt_meaning_sound.proofs.Words.{or_words, and_words, compare_words}

-- ---- places that are assigned

module _ (k : Started) where
  row_assigned : (f : Option Found) (m : Mode) → OnlyRow f → with f assigned_mode ≡ Some m → ⊥
  row_assigned None m h e = cc
  row_assigned (Some (Row w)) m h e = cc
  row_assigned (Some _) m h e = h

  spot_assigned : (f : Option Found) (t : Spot) (m : Mode) → SpotSeen k t → RowAlone f t → with f assigned_mode ≡ Some m → SpotNamed k t
  spot_assigned f (OnLocal i) m h r e = tt
  spot_assigned f (OnPath q) m h r e = h
  spot_assigned f (OnRow v) m h r e = row_assigned f m r e

  place_assigned : (c : Scope) (p : Place) (m : Mode) → PlaceSeen k c p → MayBeAssigned c p m → SpotNamed k (placed c p).tree
  place_assigned c p m h g = spot_assigned (placed c p).found (placed c p).tree m h.tree h.alone g.0

  -- ---- conditions that are joined

  abbrev TestedNamed : Tested → Type 0
  TestedNamed t = CondNamed any_name k t.tree

  joined_named : (join : Cond → Cond → Cond) → ((t u : Cond) → CondNamed any_name k t → CondNamed any_name k u → CondNamed any_name k (join t u)) → (ts : List Tested) → AllByRecursion TestedNamed ts
      → CondNamed any_name k (joined_by join ts)
  joined_named join both [] h = (omega arith, omega arith)
  joined_named join both (t ∷ []) h = h.0
  joined_named join both (t ∷ (u ∷ ts)) h = both t.tree (joined_by join (u ∷ ts)) h.0 (joined_named join both (u ∷ ts) h.1)

module _ (c : Scope) where
  tree_compare : (r : MadeRel) (x y : Value) → (tested c (tests.Compare r x y)).tree ≡ Is r (valued c x).tree (valued c y).tree
  tree_compare r x y = let o : out-Test (tests.Compare r x y) ≡ Test-F.Compare r x y = search test_lemmas.the_lemmas in rw (fold_out-Test, o) refl

  tree_and : (ts : List Test) → (tested c (tests.And ts)).tree ≡ joined_by Both (map (tested c) ts)
  tree_and ts = let o : out-Test (tests.And ts) ≡ Test-F.And ts = search test_lemmas.the_lemmas in rw (fold_out-Test, o) refl

  tree_or : (ts : List Test) → (tested c (tests.Or ts)).tree ≡ joined_by Either (map (tested c) ts)
  tree_or ts = let o : out-Test (tests.Or ts) ≡ Test-F.Or ts = search test_lemmas.the_lemmas in rw (fold_out-Test, o) refl

module _ (s : Sight) (c : Scope) (k : Started) (short : AllShort c) (locals : LocalsSeen s k) where
  pub targets_named : Agree s c → {h : Chain} {x : Place × Mode} → Assigns s h x → words_in_chain h ≡ true → SpotNamed k (placed c x.0).tree
  targets_named agree {x = x} a w = place_assigned k c x.0 x.1 (assigns_seen s c k short locals a w) (target_assigned s c agree a)

  pub val_targets_named : Agree s c → {at : At} {h : Chain} {x : Place × Mode} → AssignsVal s at h x → words_in_chain h ≡ true → SpotNamed k (placed c x.0).tree
  val_targets_named agree {x = x} a w = place_assigned k c x.0 x.1 (assigns_val_seen s c k short locals a w) (val_assigned s c agree a)

  mutual
    pub test_named : {d : Written} {t : Test} → TestIs s d t → words_in_cond d ≡ true → CondNamed any_name k (tested c t).tree
    test_named {d = d} (f.is_or {cs = cs} {at = at} {ts = ts} o h) w =
        rw tree_or (joined_named k Either (λ t u a b. (a, b)) (map (tested c) ts) (tests_named h (sym (or_words d cs at o) ∙ w)))
    test_named {d = d} (f.is_and {cs = cs} {at = at} {ts = ts} o h) w =
        rw tree_and (joined_named k Both (λ t u a b. (a, b)) (map (tested c) ts) (tests_named h (sym (and_words d cs at o) ∙ w)))
    test_named {d = d} (f.is_comparison {r = r} {a = a} {b = b} {at = at} {f = g} {w = wanted} {x = x} {y = y} o h q e i) w =
        let both = sym (compare_words d r a b at o) ∙ w in
        let left = suits_seen c k short g.at g.is wanted x (is_seen s c k short locals h (left_of (words_in_expr a) (words_in_expr b) both)) e in
        let right = fits_seen s c k short locals i (right_of (words_in_expr a) (words_in_expr b) both) in
        rw tree_compare (left.tree, right.tree)

    tests_named : {cs : List Written} {ts : List Test} → TestsAre s cs ts → all (map words_in_cond cs) ≡ true → AllByRecursion (TestedNamed k) (map (tested c) ts)
    tests_named f.no_test w = tt
    tests_named (f.one_test {c = d} {cs = cs} h hs) w =
        (test_named h (left_of (words_in_cond d) (all (map words_in_cond cs)) w), tests_named hs (right_of (words_in_cond d) (all (map words_in_cond cs)) w))
