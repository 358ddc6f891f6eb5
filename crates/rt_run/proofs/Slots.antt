-- Tasks in their places.
use Rattle.std.proofs.Common.{◌≡◌, ℕ, zero, suc, ◌<◌, List, [], ◌∷◌, length, map, get_or, Option, Some, None, refl, sym, ap, ◌∙◌, arith}
use Rattle.std.specs.Prelude.{slice_get, slice_set}
use Rattle.rt_tasks.specs.Parts.{Task}
use Rattle.rt_run.specs.Picture.{present}

abbrev pub all_some : List Task → List (Option Task)
all_some ts = map (λ t. Some t) ts

present_some : (ts : List Task) → present (all_some ts) ≡ ts
present_some [] = refl
present_some (t ∷ ts) = ap (λ (us : List Task). t ∷ us) (present_some ts)

get_some : (ts : List Task) (n : ℕ) (d : Option Task) → n < length ts → Some (get_or (all_some ts) n d) ≡ slice_get (all_some ts) n
get_some [] n d h = absurd (omega arith)
get_some (t ∷ ts) zero d h = refl
get_some (t ∷ ts) (suc n) d h = get_some ts n d (omega arith)

pub length_some : (ts : List Task) → length (all_some ts) ≡ length ts
length_some [] = refl
length_some (t ∷ ts) = ap suc (length_some ts)

pub length_there : (os : List (Option Task)) → os ≡ all_some (present os) → length os ≡ length (present os)
length_there os h = ap (λ (x : List (Option Task)). length x) h ∙ length_some (present os)

at_some : (ts : List Task) (n : ℕ) (o : Option Task) → o ≡ get_or (all_some ts) n o → n < length ts → o ≡ slice_get ts n
at_some [] n o e h = absurd (omega arith)
at_some (t ∷ ts) zero o e h = e
at_some (t ∷ ts) (suc n) o e h = at_some ts n o e (omega arith)

-- what stands at a place is the task there
pub there_is : (os : List (Option Task)) (n : ℕ) (o : Option Task) → os ≡ all_some (present os) → n < length os → o ≡ get_or os n o → o ≡ slice_get (present os) n
there_is os n o h l e = at_some (present os) n o (e ∙ ap (λ (x : List (Option Task)). get_or x n o) h) (omega (arith, length_there os h))

-- a place is never empty
pub not_empty : (os : List (Option Task)) (n : ℕ) → os ≡ all_some (present os) → n < length os → None ≡ get_or os n None → ⊥
not_empty os n h l e = no (present os) n (omega (arith, length_there os h)) (there_is os n None h l e)
  where
    no : (ts : List Task) (k : ℕ) → k < length ts → None ≡ slice_get ts k → ⊥
    no [] k m q = omega arith
    no (t ∷ ts) zero m q = let bad : None ≡ Some t = q in cc
    no (t ∷ ts) (suc k) m q = no ts k (omega arith) q

set_some : (ts : List Task) (n : ℕ) (o : Option Task) (t : Task) → slice_set (slice_set (all_some ts) n o) n (Some t) ≡ all_some (slice_set ts n t)
set_some [] n o t = refl
set_some (u ∷ us) zero o t = refl
set_some (u ∷ us) (suc n) o t = ap (λ (x : List (Option Task)). Some u ∷ x) (set_some us n o t)

-- a task that was taken and put back
pub put_present : (os : List (Option Task)) (n : ℕ) (o : Option Task) (t : Task) → os ≡ all_some (present os) → present (slice_set (slice_set os n o) n (Some t)) ≡ slice_set (present os) n t
put_present os n o t h = ap (λ (x : List (Option Task)). present (slice_set (slice_set x n o) n (Some t))) h ∙ ap present (set_some (present os) n o t) ∙ present_some (slice_set (present os) n t)

pub put_there : (os : List (Option Task)) (n : ℕ) (o : Option Task) (t : Task) → os ≡ all_some (present os) → slice_set (slice_set os n o) n (Some t) ≡ all_some (present (slice_set (slice_set os n o) n (Some t)))
put_there os n o t h =
    ap (λ (x : List (Option Task)). slice_set (slice_set x n o) n (Some t)) h
    ∙ set_some (present os) n o t
    ∙ ap all_some (sym (put_present os n o t h))
