-- Starts that fit, layer by layer.
use Rattle.std.proofs.Common.{◌≡◌, ℕ, ◌==◌, true, List, [], ◌∷◌, ◌++◌, Some, zero, suc, length, map, slice_get, arith, refl, ap, ◌∙◌}
use Rattle.std.specs.Prelude.{replicate}
use Rattle.std.specs.List.{AllByRecursion}
use Rattle.std.proofs.lemmas.List.{length-map}
use Rattle.rt_modes.specs.declared.mode.Field.{Field}
use Rattle.rt_modes.specs.declared.mode.Mode.{Mode, out-Mode}
use Rattle.rt_modes.specs.declared.mode.Mode.TheOpen.{Mode-F}
use Rattle.rt_modes.specs.declared.mode.RecordDef.{RecordDef}
use Rattle.rt_tree_nodes.specs.declared.brick.DataStart.{DataStart, out-DataStart, the_lemmas}
use Rattle.rt_tree_nodes.specs.declared.brick.DataStart.TheFolds.{fold_out-DataStart}
use Rattle.rt_tree_nodes.specs.declared.brick.DataStart.TheOpen.{DataStart-F}
use Rattle.rt_tree_nodes.specs.declared.brick.DataStart.TheVariants as start
use Rattle.rt_tree_nodes.specs.Scopes.{Scope, passes, same, proc_mode}
use Rattle.rt_tree.specs.Modules.{number_starts, text_starts, place_starts, shared_mode, starts, all_start, fields_start, record_starts, list_starts}
use Rattle.rt_check_module_laws.proofs.Tests.{left_of, right_of, both, equal_numbers, equal_tested}

module _ (c : Scope) where
  -- ---- each kind

  pub a_number : (n : ℕ) (m : Mode) → starts c (start.Number n) m ≡ number_starts n (out-Mode m)
  a_number n m = let o : out-DataStart (start.Number n) ≡ DataStart-F.Number n = search the_lemmas in rw (fold_out-DataStart, o) refl

  pub a_text : (n : ℕ) (m : Mode) → starts c (start.Text n) m ≡ text_starts c n (out-Mode m)
  a_text n m = let o : out-DataStart (start.Text n) ≡ DataStart-F.Text n = search the_lemmas in rw (fold_out-DataStart, o) refl

  pub a_procedure : (b : ℕ) (m : Mode) → starts c (start.Proc b) m ≡ passes (same m) (proc_mode c.bricks b)
  a_procedure b m = let o : out-DataStart (start.Proc b) ≡ DataStart-F.Proc b = search the_lemmas in rw (fold_out-DataStart, o) refl

  pub a_place : (b i : ℕ) (path : List ℕ) (m : Mode) → starts c (start.Place b i path) m ≡ passes (λ found. place_starts found (out-Mode m)) (shared_mode c b i path)
  a_place b i path m = let o : out-DataStart (start.Place b i path) ≡ DataStart-F.Place b i path = search the_lemmas in rw (fold_out-DataStart, o) refl

  pub a_list : (ss : List DataStart) (m : Mode) → starts c (start.List ss) m ≡ list_starts c.records (map (starts c) ss) (out-Mode m)
  a_list ss m = let o : out-DataStart (start.List ss) ≡ DataStart-F.List ss = search the_lemmas in rw (fold_out-DataStart, o) refl

  -- ---- lists

  pub an_array : (ss : List DataStart) (m : Mode) (n : ℕ) (e : Mode) → out-Mode m ≡ Mode-F.Array n e → length ss ≡ n → all_start (map (starts c) ss) e ≡ true → starts c (start.List ss) m ≡ true
  an_array ss m n e o many h =
      a_list ss m ∙ ap (list_starts c.records (map (starts c) ss)) o ∙ both (length (map (starts c) ss) == n) (all_start (map (starts c) ss) e) (equal_tested (length (map (starts c) ss)) n (length-map ss (starts c) ∙ many)) h

  pub a_record : (ss : List DataStart) (m : Mode) (r : ℕ) (d : RecordDef) → out-Mode m ≡ Mode-F.Record r → slice_get c.records r ≡ Some d → fields_start (map (starts c) ss) d.fields ≡ true → starts c (start.List ss) m ≡ true
  a_record ss m r d o is h = a_list ss m ∙ ap (list_starts c.records (map (starts c) ss)) o ∙ ap (record_starts (map (starts c) ss)) is ∙ h

  -- ---- elements and fields

  pub more_start : (xs ys : List DataStart) (m : Mode) → all_start (map (starts c) xs) m ≡ true → all_start (map (starts c) ys) m ≡ true → all_start (map (starts c) (xs ++ ys)) m ≡ true
  more_start [] ys m a b = b
  more_start (x ∷ xs) ys m a b =
      both (starts c x m) (all_start (map (starts c) (xs ++ ys)) m) (left_of (starts c x m) (all_start (map (starts c) xs) m) a) (more_start xs ys m (right_of (starts c x m) (all_start (map (starts c) xs) m) a) b)

  pub copies_start : (n : ℕ) (x : DataStart) (m : Mode) → starts c x m ≡ true → all_start (map (starts c) (replicate n x)) m ≡ true
  copies_start zero x m h = refl
  copies_start (suc n) x m h = both (starts c x m) (all_start (map (starts c) (replicate n x)) m) h (copies_start n x m h)

  -- what is made for each of some fields, and more for those behind them
  pub more_fields : (made : Mode → DataStart) (gs hs : List Field) (ys : List DataStart) → AllByRecursion (λ (g : Field). starts c (made g.mode) g.mode ≡ true) gs → fields_start (map (starts c) ys) hs ≡ true
      → fields_start (map (starts c) (map (λ (g : Field). made g.mode) gs ++ ys)) (gs ++ hs) ≡ true
  more_fields made [] hs ys a b = b
  more_fields made (g ∷ gs) hs ys a b =
      both (starts c (made g.mode) g.mode) (fields_start (map (starts c) (map (λ (g : Field). made g.mode) gs ++ ys)) (gs ++ hs)) a.0 (more_fields made gs hs ys a.1 b)

  -- one after the other
  pub joined_fields : (gs hs : List Field) (xs ys : List DataStart) → fields_start (map (starts c) xs) gs ≡ true → fields_start (map (starts c) ys) hs ≡ true → fields_start (map (starts c) (xs ++ ys)) (gs ++ hs) ≡ true
  joined_fields [] hs [] ys a b = b
  joined_fields [] hs (x ∷ xs) ys a b = absurd cc
  joined_fields (g ∷ gs) hs [] ys a b = absurd (let bad : length (g ∷ gs) ≡ 0 = equal_numbers (length (g ∷ gs)) 0 a in omega (arith, bad))
  joined_fields (g ∷ gs) hs (x ∷ xs) ys a b =
      both (starts c x g.mode) (fields_start (map (starts c) (xs ++ ys)) (gs ++ hs)) (left_of (starts c x g.mode) (fields_start (map (starts c) xs) gs) a)
      (joined_fields gs hs xs ys (right_of (starts c x g.mode) (fields_start (map (starts c) xs) gs) a) b)
