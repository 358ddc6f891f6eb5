-- Where the routines of the support code begin, by the table of entries.
use Rattle.std.proofs.Common.{◌≡◌, ℕ, ◌+◌, ◌*◌, ◌<◌, ◌≤◌, ◌⊎◌, inl, inr, Bool, true, false, eqb, List, [], ◌∷◌, length, map, Option, Some, None, refl, sym, ap, ◌∙◌, arith}
use Rattle.std.specs.Prelude.{slice_get, option_map, if◌then◌else◌}
use Rattle.std.specs.List.{AllByRecursion, range_with_len}
use Rattle.std.proofs.lemmas.Bool.Decides.{eqb_tells}
use Rattle.std.proofs.lemmas.List.FromFn.{length-range_with_len, get_or-range_with_len}
use Rattle.std.proofs.lemmas.Option.{slice_get-map, slice_get-get_or, slice_get_past, none-some}
use Rattle.rt_digraph.proofs.Lists.{some_is}
use Rattle.rt_templates.specs.declared.line.Line.{Line}
use Rattle.rt_templates.specs.declared.routine.Routine.{Routine}
use Rattle.rt_templates.specs.Layouts.{routine_number}
use Rattle.rt_templates.specs.Lines.{words}
use Rattle.rt_templates.specs.Supported.{begins, routines, numbers}
use Rattle.rt_link.proofs.Summed.{all_so}
use Rattle.rt_link.specs.Named.{routine_address}

-- a number that no routine has
none_begins : (rs : List (Routine × List Line)) (at n : ℕ) → AllByRecursion (λ r. routine_number r.0 ≡ n → ⊥) rs → begins at rs n ≡ 0
none_begins [] at n h = refl
none_begins (r ∷ rs) at n h = by (eqb_tells (routine_number r.0) n) (none_begins rs (at + 2 * length (words r.1)) n h.1)
  where
    by : ((eqb (routine_number r.0) n ≡ true) × (routine_number r.0 ≡ n)) ⊎ ((eqb (routine_number r.0) n ≡ false) × (routine_number r.0 ≡ n → ⊥)) → begins (at + 2 * length (words r.1)) rs n ≡ 0 → begins at (r ∷ rs) n ≡ 0
    by (inl same) rest = absurd (h.0 same.1)
    by (inr other) rest = ap (λ (b : Bool). if b then at else begins (at + 2 * length (words r.1)) rs n) other.0 ∙ rest

routines_small : AllByRecursion (λ r. (1 ≤ routine_number r.0) × (routine_number r.0 ≤ 17)) routines
routines_small = ((omega arith, omega arith), ((omega arith, omega arith), ((omega arith, omega arith), ((omega arith, omega arith), ((omega arith, omega arith), ((omega arith, omega arith), ((omega arith, omega arith), ((omega arith, omega arith), ((omega arith, omega arith), ((omega arith, omega arith), ((omega arith, omega arith), ((omega arith, omega arith), ((omega arith, omega arith), ((omega arith, omega arith), ((omega arith, omega arith), ((omega arith, omega arith), ((omega arith, omega arith), tt)))))))))))))))))

outside : (n : ℕ) → (n ≡ 0) ⊎ (17 < n) → begins 0 routines n ≡ 0
outside n h =
    none_begins routines 0 n (all_so (λ r. (1 ≤ routine_number r.0) × (routine_number r.0 ≤ 17)) (λ r. routine_number r.0 ≡ n → ⊥) routines routines_small (λ r small same. by small same h))
  where
    by : {k : ℕ} → (1 ≤ k) × (k ≤ 17) → k ≡ n → (n ≡ 0) ⊎ (17 < n) → ⊥
    by small same (inl none) = let a = small.0 in omega arith
    by small same (inr past) = let a = small.1 in omega arith

pub zero_routine : 0 ≡ routine_address 0
unfolding routine_address
zero_routine = sym (outside 0 (inl refl))

numbers_are : numbers ≡ range_with_len 1 17
numbers_are = refl

number_at : (k : ℕ) → k < 17 → slice_get numbers k ≡ Some (1 + k)
number_at k h =
    let ns = range_with_len 1 17 in
    let long : length ns ≡ 17 = length-range_with_len 1 17 in
    ap (λ xs. slice_get xs k) numbers_are ∙ slice_get-get_or ns k 0 (omega arith) ∙ ap (λ n. Some n) (get_or-range_with_len 1 17 k 0 h)

none_at : (k : ℕ) → 17 ≤ k → slice_get numbers k ≡ None
none_at k h = slice_get_past numbers k h

less_or : (k m : ℕ) → (k < m) ⊎ (m ≤ k)
less_or k m = grind arith

module _ (entries : List ℕ) (e : entries ≡ map (begins 0 routines) numbers) where
  looked : (k : ℕ) (o : Option ℕ) → slice_get numbers k ≡ o → slice_get entries k ≡ option_map (begins 0 routines) o
  looked k o at = ap (λ xs. slice_get xs k) e ∙ slice_get-map (begins 0 routines) numbers k ∙ ap (option_map (begins 0 routines)) at

  -- what stands in the table of entries
  pub entry_there : (k a : ℕ) → slice_get entries k ≡ Some a → a ≡ routine_address (1 + k)
  unfolding routine_address
  entry_there k a there = by (less_or k 17)
    where
      by : (k < 17) ⊎ (17 ≤ k) → a ≡ begins 0 routines (1 + k)
      by (inl h) = some_is a (begins 0 routines (1 + k)) (sym there ∙ looked k (Some (1 + k)) (number_at k h))
      by (inr h) = absurd (none-some a (sym (looked k None (none_at k h)) ∙ there))

  pub entry_none : (k : ℕ) → slice_get entries k ≡ None → 0 ≡ routine_address (1 + k)
  unfolding routine_address
  entry_none k none = by (less_or k 17)
    where
      by : (k < 17) ⊎ (17 ≤ k) → 0 ≡ begins 0 routines (1 + k)
      by (inl h) = absurd (none-some (begins 0 routines (1 + k)) (sym none ∙ looked k (Some (1 + k)) (number_at k h)))
      by (inr h) = sym (outside (1 + k) (inr (omega arith)))
