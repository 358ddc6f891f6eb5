-- The test that a condition is fits.
use Rattle.std.proofs.Common.{◌≡◌, suc, ◌&&◌, Bool, true, false, List, length, Some, Ok, map, refl, sym, ap, ◌∙◌, subst}
use Rattle.std.specs.Prelude.{nat_le}
use Rattle.rt_grammar.specs.declared.at.At.{At}
use Rattle.rt_syntax_exprs.specs.declared.tree.Cond.{Cond, out-Cond}
use Rattle.rt_syntax_exprs.specs.declared.tree.Cond.TheFolds.{fold_out-Cond}
use Rattle.rt_syntax_exprs.specs.declared.tree.Cond.TheOpen.{Cond-F}
use Rattle.rt_syntax_exprs.specs.declared.tree.Rel.{Rel}
use Rattle.rt_syntax_exprs.specs.declared.tree.Rel.TheVariants as rel
use Rattle.rt_modes.specs.declared.mode.Mode.{Mode, out-Mode, the_lemmas}
use Rattle.rt_modes.specs.declared.mode.Mode.TheFolds.{fold_out-Mode}
use Rattle.rt_modes.specs.declared.mode.Mode.TheOpen.{Mode-F}
use Rattle.rt_modes.specs.declared.mode.Mode.TheVariants as mode
use Rattle.rt_tree_nodes.specs.declared.operators.Rel.{Rel as MadeRel}
use Rattle.rt_tree_nodes.specs.declared.statement.Test.{Test, out-Test}
use Rattle.rt_tree_nodes.specs.declared.statement.Test as test_lemmas
use Rattle.rt_tree_nodes.specs.declared.statement.Test.TheFolds.{fold_out-Test}
use Rattle.rt_tree_nodes.specs.declared.statement.Test.TheOpen.{Test-F}
use Rattle.rt_tree_nodes.specs.declared.statement.Test.TheVariants as tests
use Rattle.rt_tree_nodes.specs.declared.value.Value.{Value}
use Rattle.rt_tree_nodes.specs.Scopes.{Scope, same}
use Rattle.rt_tree_nodes.specs.Typing.{valued, is_byte, is_reference, compare_fits, numbers_compare, references_compare}
use Rattle.rt_tree_nodes.proofs.Same.{same_itself}
use Rattle.rt_exprs.specs.declared.operand.Base.{Base}
use Rattle.rt_exprs.specs.declared.operand.Base.TheVariants as base
use Rattle.rt_exprs.specs.Sights.{Sight}
use Rattle.rt_exprs.specs.Modes.{Want, basic, ref, row, want, want_by}
use Rattle.rt_exprs.specs.Operands.{Is, text, place, loop, result, suits_by}
use Rattle.rt_exprs.specs.Fitting as f
use Rattle.rt_exprs.specs.Fitting.{TestIs, TestsAre}
use Rattle.rt_exprs.specs.Judging.{compares, made_rel, reference_in, place_compares, result_compares, base_in, frac_or_int}
use Rattle.rt_tree.specs.Statements.{tested, all_fit, some_fit, comparison_fits}
use Rattle.rt_exprs_laws.specs.Agreeing.{Agree, IsItem, IsValue, stands}
use Rattle.rt_syntax_exprs.specs.Joins.{joins_two, all_true}
use Rattle.rt_exprs_laws.proofs.Standing.{stands_at, value_item, ref_inner, row_inner, array_inner}
use Rattle.rt_exprs_laws.proofs.Wanted.{of_base, want_base}
use Rattle.rt_exprs_laws.proofs.Suiting.{Has, IsTyped, suits_here, suits_mode}
use Rattle.rt_exprs_laws.proofs.Links.{place_item}
use Rattle.rt_exprs_laws.proofs.Operators.{int_no_byte, frac_no_byte, int_is_int, frac_is_frac, frac_no_int, out_byte, out_int}
use Rattle.rt_exprs_laws.proofs.Fitted.{is_typed, fits_suit, base_stands}

-- ---- what a comparison wants of both sides

pub record Compared (r : Rel) (w : Want) : Type 0 where
  pub mode : Mode
  pub wanted : want mode ≡ w
  pub value : IsValue mode
  pub no_byte : is_byte mode ≡ false
  pub fits : compare_fits (made_rel r) mode mode ≡ true

same_want : (r : Rel) (v w : Want) → Some v ≡ Some w → Compared r v → Compared r w
same_want r v w e h = subst (Compared r) (is v w e) h where
  is : (v w : Want) → Some v ≡ Some w → v ≡ w
  is v w e = cc

-- numbers

numbers_fit : (b : Base) → numbers_compare (of_base (frac_or_int b)) (of_base (frac_or_int b)) ≡ true
numbers_fit base.Byte = rw int_is_int refl
numbers_fit base.Int = rw int_is_int refl
numbers_fit base.Frac = rw (frac_no_int, frac_is_frac) refl

no_byte_by : (b : Base) → is_byte (of_base (frac_or_int b)) ≡ false
no_byte_by base.Byte = int_no_byte
no_byte_by base.Int = int_no_byte
no_byte_by base.Frac = frac_no_byte

numbers_wanted : (r : Rel) (b : Base) → compare_fits (made_rel r) (of_base (frac_or_int b)) (of_base (frac_or_int b)) ≡ true → Compared r (basic (frac_or_int b))
numbers_wanted r b h = record { mode = of_base (frac_or_int b); wanted = want_base (frac_or_int b); value = base_stands (frac_or_int b); no_byte = no_byte_by b; fits = h }

-- references

abbrev IsReferenceRel : Rel → Type 0
IsReferenceRel r = (m : Mode) → is_reference (out-Mode m) ≡ true → compare_fits (made_rel r) m m ≡ true

both_true : (a b : Bool) → a ≡ true → b ≡ true → a && b ≡ true
both_true a b e h = rw (e, h) refl

references_fit : (m : Mode) → is_reference (out-Mode m) ≡ true → references_compare m m ≡ true
references_fit m t = both_true (is_reference (out-Mode m)) (same m m) t (same_itself m)

ref_wanted : (r : Rel) (n : Mode) → IsReferenceRel r → (stands n).inner ≡ true → Compared r (ref n)
ref_wanted r n go i =
    let o : out-Mode (mode.Ref n) ≡ Mode-F.Ref n = search the_lemmas in
    record {
      mode = mode.Ref n;
      wanted = ap (want_by (mode.Ref n)) o;
      value = ap (λ x. x.value) (stands_at (mode.Ref n) (Mode-F.Ref n) o) ∙ i;
      no_byte = rw (fold_out-Mode, out_byte, o) refl;
      fits = go (mode.Ref n) (ap is_reference o);
    }

row_wanted : (r : Rel) (n : Mode) → IsReferenceRel r → (stands n).inner ≡ true → Compared r (row n)
row_wanted r n go i =
    let o : out-Mode (mode.RefArray n) ≡ Mode-F.RefArray n = search the_lemmas in
    record {
      mode = mode.RefArray n;
      wanted = ap (want_by (mode.RefArray n)) o;
      value = ap (λ x. x.value) (stands_at (mode.RefArray n) (Mode-F.RefArray n) o) ∙ i;
      no_byte = rw (fold_out-Mode, out_byte, o) refl;
      fits = go (mode.RefArray n) (ap is_reference o);
    }

-- an item that is no array stands inside other modes too
plain_place : (r : Rel) (m : Mode) (l : Mode-F Mode) → IsReferenceRel r → out-Mode m ≡ l → IsItem m → Compared r (place_compares m l)
plain_place r m (Mode-F.Ref n) go o i = ref_wanted r n go (ref_inner m n o i)
plain_place r m (Mode-F.RefArray n) go o i = row_wanted r n go (row_inner m n o i)
plain_place r m (Mode-F.Array k n) go o i = row_wanted r n go (array_inner m k n o i)
plain_place r m Mode-F.Byte go o i = ref_wanted r m go (ap (λ x. x.inner) (stands_at m Mode-F.Byte o))
plain_place r m Mode-F.Int go o i = ref_wanted r m go (ap (λ x. x.inner) (stands_at m Mode-F.Int o))
plain_place r m Mode-F.Frac go o i = ref_wanted r m go (ap (λ x. x.inner) (stands_at m Mode-F.Frac o))
plain_place r m Mode-F.Label go o i = absurd (let bad : false ≡ true = sym (ap (λ x. x.item) (stands_at m Mode-F.Label o)) ∙ i in cc)
plain_place r m (Mode-F.Record k) go o i = ref_wanted r m go (ap (λ x. x.inner) (stands_at m (Mode-F.Record k) o))
plain_place r m (Mode-F.Proc ps q) go o i = ref_wanted r m go (ap (λ x. x.inner) (stands_at m (Mode-F.Proc ps q) o) ∙ sym (ap (λ x. x.item) (stands_at m (Mode-F.Proc ps q) o)) ∙ i)

result_wanted : (r : Rel) (m : Mode) (l : Mode-F Mode) (w : Want) → IsReferenceRel r → out-Mode m ≡ l → IsItem m → result_compares l ≡ Some w → Compared r w
result_wanted r m (Mode-F.Ref n) w go o i e = same_want r (ref n) w e (ref_wanted r n go (ref_inner m n o i))
result_wanted r m (Mode-F.RefArray n) w go o i e = same_want r (row n) w e (row_wanted r n go (row_inner m n o i))
result_wanted r m _ w go o i e = absurd cc

module _ (s : Sight) (c : Scope) (agree : Agree s c) where
  reference_wanted : (r : Rel) (is : Is) (w : Want) → IsReferenceRel r → IsTyped c is → reference_in is ≡ Some w → Compared r w
  reference_wanted r (text n) w go h e = same_want r (row mode.Byte) w e (row_wanted r mode.Byte go (ap (λ x. x.inner) (stands_at mode.Byte Mode-F.Byte out_byte)))
  reference_wanted r (place p m st) w go h e = same_want r (place_compares m (out-Mode m)) w e (plain_place r m (out-Mode m) go refl (place_item c p m st h))
  reference_wanted r (loop k) w go h e = same_want r (ref mode.Int) w e (ref_wanted r mode.Int go (ap (λ x. x.inner) (stands_at mode.Int Mode-F.Int out_int)))
  reference_wanted r (result v m) w go h e = result_wanted r m (out-Mode m) w go refl (value_item m h.2) e
  reference_wanted r _ w go h e = absurd cc

  compared : (r : Rel) (is : Is) (w : Want) → IsTyped c is → compares r is ≡ Some w → Compared r w
  compared rel.Same is w h e = reference_wanted rel.Same is w references_fit h e
  compared rel.Different is w h e = reference_wanted rel.Different is w references_fit h e
  compared rel.Equal is w h e = same_want rel.Equal (basic (frac_or_int (base_in is))) w e (numbers_wanted rel.Equal (base_in is) (numbers_fit (base_in is)))
  compared rel.Unequal is w h e = same_want rel.Unequal (basic (frac_or_int (base_in is))) w e (numbers_wanted rel.Unequal (base_in is) (numbers_fit (base_in is)))
  compared rel.Less is w h e = same_want rel.Less (basic (frac_or_int (base_in is))) w e (numbers_wanted rel.Less (base_in is) (numbers_fit (base_in is)))
  compared rel.LessOrEqual is w h e = same_want rel.LessOrEqual (basic (frac_or_int (base_in is))) w e (numbers_wanted rel.LessOrEqual (base_in is) (numbers_fit (base_in is)))
  compared rel.Greater is w h e = same_want rel.Greater (basic (frac_or_int (base_in is))) w e (numbers_wanted rel.Greater (base_in is) (numbers_fit (base_in is)))
  compared rel.GreaterOrEqual is w h e = same_want rel.GreaterOrEqual (basic (frac_or_int (base_in is))) w e (numbers_wanted rel.GreaterOrEqual (base_in is) (numbers_fit (base_in is)))

  -- ---- tests

  out_compare : (k : MadeRel) (x y : Value) → (tested c (tests.Compare k x y)).fits ≡ comparison_fits k (valued c x) (valued c y)
  out_compare k x y = let o : out-Test (tests.Compare k x y) ≡ Test-F.Compare k x y = search test_lemmas.the_lemmas in rw (fold_out-Test, o) refl

  out_and : (ts : List Test) → (tested c (tests.And ts)).fits ≡ some_fit (map (tested c) ts)
  out_and ts = let o : out-Test (tests.And ts) ≡ Test-F.And ts = search test_lemmas.the_lemmas in rw (fold_out-Test, o) refl

  out_or : (ts : List Test) → (tested c (tests.Or ts)).fits ≡ some_fit (map (tested c) ts)
  out_or ts = let o : out-Test (tests.Or ts) ≡ Test-F.Or ts = search test_lemmas.the_lemmas in rw (fold_out-Test, o) refl

  sides_fit : (k : MadeRel) (m : Mode) (x y : Value) → Has c m x → Has c m y → compare_fits k m m ≡ true → comparison_fits k (valued c x) (valued c y) ≡ true
  sides_fit k m x y h g t = rw (h, g) t

  left_of : (a b : Bool) → a && b ≡ true → a ≡ true
  left_of true b e = refl
  left_of false b e = e

  right_of : (a b : Bool) → a && b ≡ true → b ≡ true
  right_of true b e = e
  right_of false b e = absurd cc

  joins_or : (d : Cond) (cs : List Cond) (at : At) → out-Cond d ≡ Cond-F.Or cs at → joins_two d ≡ nat_le 2 (length (map joins_two cs)) && all_true (map joins_two cs)
  unfolding joins_two
  joins_or d cs at o = rw (fold_out-Cond, o) refl

  joins_and : (d : Cond) (cs : List Cond) (at : At) → out-Cond d ≡ Cond-F.And cs at → joins_two d ≡ nat_le 2 (length (map joins_two cs)) && all_true (map joins_two cs)
  unfolding joins_two
  joins_and d cs at o = rw (fold_out-Cond, o) refl

  as_many : {cs : List Cond} {ts : List Test} → TestsAre s cs ts → length (map joins_two cs) ≡ length (map (tested c) ts)
  as_many f.no_test = refl
  as_many (f.one_test h hs) = ap suc (as_many hs)

  abbrev joins : List Cond → Bool
  joins cs = nat_le 2 (length (map joins_two cs)) && all_true (map joins_two cs)

  each_joins : (cs : List Cond) → joins cs ≡ true → all_true (map joins_two cs) ≡ true
  each_joins cs j = right_of (nat_le 2 (length (map joins_two cs))) (all_true (map joins_two cs)) j

  two_fit : {cs : List Cond} {ts : List Test} → TestsAre s cs ts → joins cs ≡ true → all_fit (map (tested c) ts) ≡ true → some_fit (map (tested c) ts) ≡ true
  two_fit {cs = cs} {ts = ts} h j e =
      both_true (nat_le 2 (length (map (tested c) ts))) (all_fit (map (tested c) ts)) (ap (nat_le 2) (sym (as_many h)) ∙ left_of (nat_le 2 (length (map joins_two cs))) (all_true (map joins_two cs)) j) e

  mutual
    pub test_fits : {d : Cond} {t : Test} → TestIs s d t → joins_two d ≡ true → (tested c t).fits ≡ true
    test_fits {d = d} (f.is_or {cs = cs} {at = at} {ts = ts} o h) j = out_or ts ∙ two_fit h (sym (joins_or d cs at o) ∙ j) (each_fits h (each_joins cs (sym (joins_or d cs at o) ∙ j)))
    test_fits {d = d} (f.is_and {cs = cs} {at = at} {ts = ts} o h) j = out_and ts ∙ two_fit h (sym (joins_and d cs at o) ∙ j) (each_fits h (each_joins cs (sym (joins_and d cs at o) ∙ j)))
    test_fits (f.is_comparison {r = r} {f = g} {w = w} {x = x} {y = y} o h q e k) j =
        let m = compared r g.is w (is_typed s c agree h) q in
        let left : Has c m.mode x = suits_mode m.mode (valued c x).mode _ m.no_byte (suits_here c g.at g.is m.mode x (is_typed s c agree h) m.value (subst (λ (z : Want). suits_by g.at g.is z ≡ Ok x) (sym m.wanted) e)) in
        let right : Has c m.mode y = suits_mode m.mode (valued c y).mode _ m.no_byte (fits_suit s c agree k m.mode m.wanted m.value) in
        out_compare (made_rel r) x y ∙ sides_fit (made_rel r) m.mode x y left right m.fits

    each_fits : {cs : List Cond} {ts : List Test} → TestsAre s cs ts → all_true (map joins_two cs) ≡ true → all_fit (map (tested c) ts) ≡ true
    each_fits f.no_test j = refl
    each_fits (f.one_test {c = d} {cs = cs} {t = t} {ts = ts} h hs) j =
        both_true (tested c t).fits (all_fit (map (tested c) ts)) (test_fits h (left_of (joins_two d) (all_true (map joins_two cs)) j)) (each_fits hs (right_of (joins_two d) (all_true (map joins_two cs)) j))
