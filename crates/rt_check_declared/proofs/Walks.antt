-- One more element of each list of names, and the end of the list.
use Rattle.std.proofs.Common.{◌≡◌, ℕ, ◌+◌, ◌<◌, ◌≤◌, List, [], ◌∷◌, None, length, drop, get_or, refl, sym, ap, ◌∙◌, add-one}
use Rattle.std.proofs.Math.Seq.{drop-cons}
use Rattle.std.proofs.lemmas.List.{drop_all}
use denote.Bor.{Bor}
use Rattle.rt_grammar.specs.declared.at.Ident.{Ident}
use Rattle.rt_bricks.specs.declared.tree.DataItem.{DataItem}
use Rattle.rt_bricks.specs.declared.tree.DataLine.{DataLine}
use Rattle.rt_bricks.specs.declared.tree.Declaration.{Declaration}
use Rattle.rt_bricks.specs.declared.tree.Fields.{Fields}
use Rattle.rt_check_declared.specs.Verdicts.{with_faults}
use Rattle.rt_check_declared.specs.declared.names.Declared.{Declared}
use Rattle.rt_check_declared.specs.declared.names.Declared.TheVariants as what
use Rattle.rt_check_declared.specs.declared.names.Numbers.{Numbers}
use Rattle.rt_check_declared.specs.Names.{Named, named, items_of, idents, fields_names, lines_names, bricks_of, names_in, names_from, counting, twice}
use Rattle.rt_check_declared.specs.Naming.{State, plain, add, add_all, behind}
use Rattle.rt_check_declared.proofs.Adding.{add_append, add_cons, add_none, add_law}

drop_next : {A : Type 0} (xs : List A) (i : ℕ) (x : A) → i < length xs → x ≡ get_or xs i x → drop i xs ≡ x ∷ drop (i + 1) xs
drop_next xs i x h e = rw (add-one, drop-cons xs i x, ← e) refl

-- ---- one more

module _ (s t : State) where
  pub bricks_step : (b n : ℕ) (xs : List Ident) (i : ℕ) (x : Ident) → t ≡ add s (named x (what.Brick b)) → n ≡ b + 1 → i < length xs → x ≡ get_or xs i x
      → add_all t (bricks_of n (drop (i + 1) xs)) ≡ add_all s (bricks_of b (drop i xs))
  bricks_step b n xs i x et en h e =
      rw (et, en) (sym (ap (λ (ys : List Ident). add_all s (bricks_of b ys)) (drop_next xs i x h e) ∙ add_cons s (named x (what.Brick b)) (bricks_of (b + 1) (drop (i + 1) xs))))

  pub items_step : (b k n : ℕ) (xs : List Ident) (i : ℕ) (x : Ident) → t ≡ add s (named x (what.Item b k)) → n ≡ k + 1 → i < length xs → x ≡ get_or xs i x
      → add_all t (items_of b n (drop (i + 1) xs)) ≡ add_all s (items_of b k (drop i xs))
  items_step b k n xs i x et en h e =
      rw (et, en) (sym (ap (λ (ys : List Ident). add_all s (items_of b k ys)) (drop_next xs i x h e) ∙ add_cons s (named x (what.Item b k)) (items_of b (k + 1) (drop (i + 1) xs))))

  pub data_step : (b k n : ℕ) (xs : List DataItem) (i : ℕ) (x : DataItem) → t ≡ add s (named x.name (what.Item b k)) → n ≡ k + 1 → i < length xs → x ≡ get_or xs i x
      → add_all t (items_of b n (idents (drop (i + 1) xs))) ≡ add_all s (items_of b k (idents (drop i xs)))
  data_step b k n xs i x et en h e =
      rw (et, en) (sym (ap (λ (ys : List DataItem). add_all s (items_of b k (idents ys))) (drop_next xs i x h e) ∙ add_cons s (named x.name (what.Item b k)) (items_of b (k + 1) (idents (drop (i + 1) xs)))))

  pub fields_step : (b k n : ℕ) (ls : List Fields) (i : ℕ) (x : Fields) (xs : List Ident) → xs ≡ x.names → t ≡ add_all s (items_of b k xs) → n ≡ k + length xs → i < length ls → x ≡ get_or ls i x
      → add_all t (fields_names b n (drop (i + 1) ls)) ≡ add_all s (fields_names b k (drop i ls))
  fields_step b k n ls i x xs ex et en h e =
      rw (et, en, ex) (sym (ap (λ (ys : List Fields). add_all s (fields_names b k ys)) (drop_next ls i x h e) ∙ add_append s (items_of b k x.names) (fields_names b (k + length x.names) (drop (i + 1) ls))))

  pub lines_step : (b k n : ℕ) (ls : List DataLine) (i : ℕ) (x : DataLine) (xs : List DataItem) → xs ≡ x.items → t ≡ add_all s (items_of b k (idents xs)) → n ≡ k + length xs → i < length ls → x ≡ get_or ls i x
      → add_all t (lines_names b n (drop (i + 1) ls)) ≡ add_all s (lines_names b k (drop i ls))
  lines_step b k n ls i x xs ex et en h e =
      rw (et, en, ex) (sym (ap (λ (ys : List DataLine). add_all s (lines_names b k ys)) (drop_next ls i x h e) ∙ add_append s (items_of b k (idents x.items)) (lines_names b (k + length x.items) (drop (i + 1) ls))))

  pub declarations_step : (m n : Numbers) (ds : List Declaration) (i : ℕ) (d : Declaration) → t ≡ add_all s (names_in m.records m.bricks d) → n ≡ behind m d → i < length ds → d ≡ get_or ds i d
      → add_all t (names_from n.records n.bricks (drop (i + 1) ds)) ≡ add_all s (names_from m.records m.bricks (drop i ds))
  declarations_step m n ds i d et en h e =
      rw (et, en) (sym (ap (λ (ys : List Declaration). add_all s (names_from m.records m.bricks ys)) (drop_next ds i d h e)
      ∙ add_append s (names_in m.records m.bricks d) (names_from (behind m d).records (behind m d).bricks (drop (i + 1) ds))))

-- ---- the end

module _ (s : State) where
  pub bricks_end : (b : ℕ) (xs : List Ident) (i : ℕ) → length xs ≤ i → s ≡ add_all s (bricks_of b (drop i xs))
  bricks_end b xs i h = rw (drop_all i xs h) (sym (add_none s))

  pub items_end : (b k : ℕ) (xs : List Ident) (i : ℕ) → length xs ≤ i → s ≡ add_all s (items_of b k (drop i xs))
  items_end b k xs i h = rw (drop_all i xs h) (sym (add_none s))

  pub data_end : (b k : ℕ) (xs : List DataItem) (i : ℕ) → length xs ≤ i → s ≡ add_all s (items_of b k (idents (drop i xs)))
  data_end b k xs i h = rw (drop_all i xs h) (sym (add_none s))

  pub fields_end : (b k : ℕ) (ls : List Fields) (i : ℕ) → length ls ≤ i → s ≡ add_all s (fields_names b k (drop i ls))
  fields_end b k ls i h = rw (drop_all i ls h) (sym (add_none s))

  pub lines_end : (b k : ℕ) (ls : List DataLine) (i : ℕ) → length ls ≤ i → s ≡ add_all s (lines_names b k (drop i ls))
  lines_end b k ls i h = rw (drop_all i ls h) (sym (add_none s))

  pub declarations_end : (m : Numbers) (ds : List Declaration) (i : ℕ) → length ds ≤ i → s ≡ add_all s (names_from m.records m.bricks (drop i ds))
  declarations_end m ds i h = rw (drop_all i ds h) (sym (add_none s))

-- ---- from an empty table

pub from_empty : (n : State) (es : List (Bor (List ℕ) × Declared)) (ms : List Named) → n ≡ add_all (record { known = plain es; fault = None }) ms → es ≡ []
    → n ≡ record { known = counting [] ms; fault = with_faults None (twice [] ms) }
from_empty n es ms en e = en ∙ ap (λ (xs : List (Bor (List ℕ) × Declared)). add_all (record { known = plain xs; fault = None }) ms) e ∙ add_law (record { known = []; fault = None }) ms
