-- Tables of names, as plain data.
use Rattle.std.proofs.Common.{◌≡◌, ℕ, Bool, true, false, List, [], ◌∷◌, ◌++◌, Option, Some, None, refl, sym, ap, ◌∙◌}
use denote.Bor.{Bor}
use Rattle.std.specs.Map.{lookup}
use Rattle.std.specs.Option.{is_some, option_copied}
use Rattle.std.specs.Str.{bytes_eq}
use Rattle.indexmap.specs.IndexMap.{insert_entry}
use Rattle.rt_check_declared.specs.declared.names.Declared.{Declared}
use Rattle.rt_check_declared.specs.Names.{Known, find, is_there}
use Rattle.rt_check_declared.specs.Naming.{plain, plain_entry}

find_yes : (x : List ℕ × Declared) (xs : Known) (n : List ℕ) → bytes_eq n x.0 ≡ true → find (x ∷ xs) n ≡ Some x.1
unfolding find
find_yes x xs n e = rw e refl

find_no : (x : List ℕ × Declared) (xs : Known) (n : List ℕ) → bytes_eq n x.0 ≡ false → find (x ∷ xs) n ≡ find xs n
unfolding find
find_no x xs n e = rw e refl

find_none : (n : List ℕ) → find [] n ≡ None
unfolding find
find_none n = refl

no_true : true ≡ false → ⊥
no_true e = cc

no_some : (d : Declared) → Some d ≡ None → ⊥
no_some d e = cc

lookup_by : (n : List ℕ) (e : Bor (List ℕ) × Declared) (es : List (Bor (List ℕ) × Declared)) (b : Bool) → bytes_eq n e.0.now ≡ b → find (plain es) n ≡ lookup (λ k. bytes_eq n k.now) es
    → find (plain (e ∷ es)) n ≡ lookup (λ k. bytes_eq n k.now) (e ∷ es)
lookup_by n e es true h ih = find_yes (plain_entry e) (plain es) n h ∙ rw h refl
lookup_by n e es false h ih = find_no (plain_entry e) (plain es) n h ∙ rw h ih

pub find_plain : (es : List (Bor (List ℕ) × Declared)) (n : List ℕ) → find (plain es) n ≡ lookup (λ k. bytes_eq n k.now) es
find_plain [] n = find_none n
find_plain (e ∷ es) n = lookup_by n e es (bytes_eq n e.0.now) refl (find_plain es n)

module _ (eq : Bor (List ℕ) → Bor (List ℕ) → Bool) (k : Bor (List ℕ)) (v : Declared) (same : (e : Bor (List ℕ)) → eq k e ≡ bytes_eq k.now e.now) where
  insert_by : (e : Bor (List ℕ) × Declared) (es : List (Bor (List ℕ) × Declared)) (b : Bool) → bytes_eq k.now e.0.now ≡ b → find (plain (e ∷ es)) k.now ≡ None
      → (find (plain es) k.now ≡ None → plain (insert_entry eq es k v) ≡ plain es ++ (k.now, v) ∷ []) → plain (insert_entry eq (e ∷ es) k v) ≡ plain (e ∷ es) ++ (k.now, v) ∷ []
  insert_by e es true h none ih = absurd (no_some e.1 (sym (find_yes (plain_entry e) (plain es) k.now h) ∙ none))
  insert_by e es false h none ih =
      let rest : plain (insert_entry eq es k v) ≡ plain es ++ (k.now, v) ∷ [] = ih (sym (find_no (plain_entry e) (plain es) k.now h) ∙ none) in
      rw (same e.0, h) (ap (λ (xs : Known). plain_entry e ∷ xs) rest)

  pub insert_plain : (es : List (Bor (List ℕ) × Declared)) → find (plain es) k.now ≡ None → plain (insert_entry eq es k v) ≡ plain es ++ (k.now, v) ∷ []
  insert_plain [] none = refl
  insert_plain (e ∷ es) none = insert_by e es (bytes_eq k.now e.0.now) refl none (insert_plain es)

pub not_there : (o : Option Declared) → is_there o ≡ false → o ≡ None
not_there None e = refl
not_there (Some d) e = absurd (no_true e)

copied_there : (o : Option (Bor Declared)) → is_some o ≡ is_there (option_copied o)
copied_there None = refl
copied_there (Some d) = refl

pub has_by : (es : List (Bor (List ℕ) × Declared)) (n : List ℕ) (o : Option (Bor Declared)) → option_copied o ≡ lookup (λ k. bytes_eq n k.now) es → is_some o ≡ is_there (find (plain es) n)
has_by es n o e = copied_there o ∙ ap is_there (e ∙ sym (find_plain es n))
