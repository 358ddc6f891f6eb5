-- The names of a level, as the program keeps them, and as contracts see them.
use Rattle.std.proofs.Common.{◌≡◌, ℕ, Bool, true, false, List, [], ◌∷◌, ◌++◌, Option, Some, None, map, refl, sym, ap, ◌∙◌}
use Rattle.std.specs.Prelude.{cond, ◌||◌, is_some}
use Rattle.std.specs.Str.{bytes_eq}
use Rattle.std.specs.Map.{lookup}
use Rattle.std.specs.Option.{option_copied}
use Rattle.indexmap.specs.IndexMap.{insert_entry}
use denote.Bor.{Bor}
use Rattle.rt_exprs.specs.declared.scope.Meaning.{Meaning}
use Rattle.rt_exprs.specs.Sights.{Names, holds, declared}
use Rattle.rt_exprs.specs.Kept.{shown}

-- a name stands for the same in both
pub kept_lookup : (n : List ℕ) (es : List (Bor (List ℕ) × Meaning)) → lookup (λ k. bytes_eq n k.now) es ≡ lookup (bytes_eq n) (map shown es)
kept_lookup n [] = refl
kept_lookup n (e ∷ es) = ap (cond (bytes_eq n e.0.now) (Some e.1)) (kept_lookup n es)

-- whether a name is there
there_by : (b c : Bool) (m : Meaning) (o : Option Meaning) → c ≡ is_some o → (b || c) ≡ is_some (cond b (Some m) o)
there_by true c m o e = refl
there_by false c m o e = e

kept_holds : (n : List ℕ) (es : List (Bor (List ℕ) × Meaning)) → holds (map shown es) n ≡ is_some (lookup (λ k. bytes_eq n k.now) es)
kept_holds n [] = refl
kept_holds n (e ∷ es) = there_by (bytes_eq n e.0.now) (holds (map shown es) n) e.1 (lookup (λ k. bytes_eq n k.now) es) (kept_holds n es)

copied_there : (o : Option (Bor Meaning)) → is_some o ≡ is_some (option_copied o)
copied_there None = refl
copied_there (Some m) = refl

pub has_by : (es : List (Bor (List ℕ) × Meaning)) (n : List ℕ) (o : Option (Bor Meaning)) → option_copied o ≡ lookup (λ k. bytes_eq n k.now) es → is_some o ≡ holds (map shown es) n
has_by es n o e = copied_there o ∙ ap is_some e ∙ sym (kept_holds n es)

-- a name that isn't there goes last, and one that is stays
no_true : true ≡ false → ⊥
no_true e = cc

module _ (eq : Bor (List ℕ) → Bor (List ℕ) → Bool) (k : Bor (List ℕ)) (m : Meaning) (same : (e : Bor (List ℕ)) → eq k e ≡ bytes_eq k.now e.now) where
  insert_by : (e : Bor (List ℕ) × Meaning) (es : List (Bor (List ℕ) × Meaning)) (b : Bool) → bytes_eq k.now e.0.now ≡ b → (b || holds (map shown es) k.now) ≡ false
      → (holds (map shown es) k.now ≡ false → map shown (insert_entry eq es k m) ≡ map shown es ++ (k.now, m) ∷ []) → map shown (insert_entry eq (e ∷ es) k m) ≡ map shown (e ∷ es) ++ (k.now, m) ∷ []
  insert_by e es true h none ih = absurd (no_true none)
  insert_by e es false h none ih = rw (same e.0, h) (ap (λ (xs : Names). shown e ∷ xs) (ih none))

  pub insert_shown : (es : List (Bor (List ℕ) × Meaning)) → holds (map shown es) k.now ≡ false → map shown (insert_entry eq es k m) ≡ map shown es ++ (k.now, m) ∷ []
  insert_shown [] none = refl
  insert_shown (e ∷ es) none = insert_by e es (bytes_eq k.now e.0.now) refl none (insert_shown es)

pub declared_held : (n : List ℕ) (m : Meaning) (l : Names) → holds l n ≡ true → l ≡ declared n m l
declared_held n m l e = rw e refl
