-- Conditions that fit as nodes fit as plain trees.
use Rattle.std.proofs.Common.{◌≡◌, ℕ, nat_le, true, List, [], ◌∷◌, map, Some, length, refl, sym, ◌∙◌, subst, arith}
use Rattle.std.specs.List.{Contains}
use Rattle.std.proofs.lemmas.Bool.Decides.{nat_tests}
use Rattle.rt_modes.specs.declared.mode.Mode.{Mode}
use Rattle.rt_tree_nodes.specs.declared.statement.Test.{Test, out-Test, roll-Test, map-Test}
use Rattle.rt_tree_nodes.specs.declared.statement.Test as tests
use Rattle.rt_tree_nodes.specs.declared.statement.Test.TheFolds.{ind-Test, fold_out-Test}
use Rattle.rt_tree_nodes.specs.declared.statement.Test.TheOpen.{Test-F}
use Rattle.rt_tree_nodes.specs.Scopes.{Scope, passes, faces, svc_mode, scope_of, with_locals}
use Rattle.rt_tree_nodes.specs.Tree.{Both, Either}
use Rattle.rt_tree_nodes.specs.Typing.{Private, item_found, compare_fits, valued}
use Rattle.rt_tree.specs.Statements.{Tested, all_fit, joined_by, one_test, tested}
use Rattle.rt_tree.specs.Taken.{taken}
use Rattle.rt_meaning_laws.specs.Trees.{Started, Site, CondFits}
use Rattle.rt_meaning_laws.specs.Named.{CondNamed}
use Rattle.rt_meaning_laws.proofs.Values.{SvcIs}
use Rattle.rt_meaning_laws.proofs.Nodings.{value_good}
use Rattle.rt_meaning_laws.proofs.Small.{two_true, passed}

module _ (x : Site) (s : Started) (private_none : (b j : ℕ) (m : Mode) → item_found (faces x.parts.bricks) b j ≡ Some (Private m) → ⊥) (svc_is : (k : ℕ) (m : Mode) → svc_mode (scope_of x.parts) k ≡ Some m → SvcIs x.parts.modes k m) where
  abbrev c : Scope
  c = with_locals (scope_of x.parts) x.locals

  abbrev names : ℕ → Type 0
  names b = Contains (taken x.parts) b

  abbrev TestGood : Tested → Type 0
  TestGood t = t.fits ≡ true → CondNamed names s t.tree → CondFits x s t.tree

  abbrev Pair : Type 0
  Pair = (t : Test) × TestGood (tested c t)

  abbrev theirs : List Pair → List Tested
  theirs ts = map (tested c) (map (λ (e : Pair). e.0) ts)

  both_joined : (ts : List Pair) → nat_le 1 (length (theirs ts)) ≡ true → all_fit (theirs ts) ≡ true → CondNamed names s (joined_by Both (theirs ts)) → CondFits x s (joined_by Both (theirs ts))
  both_joined [] l e r = absurd cc
  both_joined (t ∷ []) l e r = t.1 (two_true (tested c t.0).fits true e).0 r
  both_joined (t ∷ (u ∷ ts)) l e r =
      let h = two_true (tested c t.0).fits (all_fit (theirs (u ∷ ts))) e in
      (t.1 h.0 r.0, both_joined (u ∷ ts) some h.1 r.1)
    where
      some : nat_le 1 (length (theirs (u ∷ ts))) ≡ true
      some = grind (arith, nat_tests)

  either_joined : (ts : List Pair) → nat_le 1 (length (theirs ts)) ≡ true → all_fit (theirs ts) ≡ true → CondNamed names s (joined_by Either (theirs ts)) → CondFits x s (joined_by Either (theirs ts))
  either_joined [] l e r = absurd cc
  either_joined (t ∷ []) l e r = t.1 (two_true (tested c t.0).fits true e).0 r
  either_joined (t ∷ (u ∷ ts)) l e r =
      let h = two_true (tested c t.0).fits (all_fit (theirs (u ∷ ts))) e in
      (t.1 h.0 r.0, either_joined (u ∷ ts) some h.1 r.1)
    where
      some : nat_le 1 (length (theirs (u ∷ ts))) ≡ true
      some = grind (arith, nat_tests)

  at_least : (n : ℕ) → nat_le 2 n ≡ true → nat_le 1 n ≡ true
  at_least n e = grind (arith, nat_tests)

  abbrev plain : Test-F Pair → Test-F Test
  plain y = map-Test Pair Test (λ e. e.0) y

  abbrev tree : Test-F Test → Test-F Tested
  tree l = map-Test Test Tested (tested c) l

  level : (y : Test-F Pair) → TestGood (one_test c (tree (plain y)))
  level (Test-F.Compare r a b) = λ e named.
      let j = passed (λ z. passes (compare_fits r z) (valued c b).mode) (valued c a).mode e in
      let k = passed (compare_fits r j.0) (valued c b).mode j.2 in
      (j.0, k.0, k.2, (value_good x s private_none svc_is a).is j.0 j.1 named.0, (value_good x s private_none svc_is b).is k.0 k.1 named.1)
  level (Test-F.And ts) = λ e named. let h = two_true (nat_le 2 (length (theirs ts))) (all_fit (theirs ts)) e in both_joined ts (at_least (length (theirs ts)) h.0) h.1 named
  level (Test-F.Or ts) = λ e named. let h = two_true (nat_le 2 (length (theirs ts))) (all_fit (theirs ts)) e in either_joined ts (at_least (length (theirs ts)) h.0) h.1 named

  rolled : (z : Test-F Test) → out-Test (roll-Test z) ≡ z
  rolled z = search tests.the_lemmas

  abbrev Each : Test → Type 0
  Each t = TestGood (tested c t)

  tested_at : (t : Test) (l : Test-F Test) → out-Test t ≡ l → tested c t ≡ one_test c (tree l)
  tested_at t l o = rw (fold_out-Test, o) refl

  as_level : (t : Test) (y : Test-F Pair) → out-Test t ≡ plain y → Each t
  as_level t y o = subst TestGood (sym (tested_at t (plain y) o)) (level y)

  pub test_good : (t : Test) → TestGood (tested c t)
  test_good = ind-Test Each (λ z y is. as_level (roll-Test z) y (rolled z ∙ sym is))
