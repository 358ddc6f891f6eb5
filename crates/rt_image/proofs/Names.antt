-- Names that differ.
use Rattle.std.proofs.Common.{◌≡◌, ℕ, zero, suc, ◌+◌, ◌<◌, Bool, true, false, ◌&&◌, not, ◌⊎◌, inl, inr, List, [], ◌∷◌, ◌++◌, length, Some, take, drop, get_or, refl, sym, ap, subst, ◌∙◌, arith}
use Rattle.std.specs.List.{slice_get}
use Rattle.std.specs.Str.{bytes_eq}
use Rattle.std.proofs.lemmas.List.{take_more, drop_more, take-append-drop}
use Rattle.std.proofs.lemmas.Option.{slice_get_within}
use Rattle.std.proofs.lemmas.Slice.Eq.{bytes_eq-Decides}
use Rattle.rt_image.specs.declared.image.ImageTask.{ImageTask}
use Rattle.rt_image.specs.Grammar.{is_new}
use Rattle.rt_image.specs.Ranges.{HaveDifferentNames}

either_way : (b : Bool) → (b ≡ true) ⊎ (b ≡ false)
either_way true = inl refl
either_way false = inr refl

both_true : (a b : Bool) → (a && b) ≡ true → (a ≡ true) × (b ≡ true)
both_true true b e = (refl, e)
both_true false b e = absurd cc

-- none of the tasks has the name
HasNone : List ImageTask → List ℕ → Type 0
HasNone ts n = (i : ℕ) (t : ImageTask) → slice_get ts i ≡ Some t → t.name ≡ n → ⊥

differ : (a b : List ℕ) → not (bytes_eq a b) ≡ true → a ≡ b → ⊥
differ a b e f = let g = (bytes_eq-Decides a b).1 f in let h : false ≡ true = sym (ap not g) ∙ e in cc

some_is : (t u : ImageTask) → Some t ≡ Some u → t ≡ u
some_is t u e = cc

pub new_is : (ts : List ImageTask) (n : List ℕ) → is_new ts n ≡ true → (i : ℕ) (t : ImageTask) → slice_get ts i ≡ Some t → t.name ≡ n → ⊥
new_is [] n e i t g f = absurd cc
new_is (u ∷ ts) n e zero t g f = let b = both_true (not (bytes_eq u.name n)) (is_new ts n) e in differ u.name n b.0 (ap (λ x. x.name) (some_is u t g) ∙ f)
new_is (u ∷ ts) n e (suc i) t g f = let b = both_true (not (bytes_eq u.name n)) (is_new ts n) e in new_is ts n b.1 i t g f

pub is_new_where : (ts : List ImageTask) (n : List ℕ) → ((i : ℕ) (t : ImageTask) → slice_get ts i ≡ Some t → t.name ≡ n → ⊥) → is_new ts n ≡ true
is_new_where [] n h = refl
is_new_where (u ∷ ts) n h =
    let rest = is_new_where ts n (λ i t g f. h (suc i) t g f) in
    elim (either_way (bytes_eq u.name n)) [
      | inl k ↦ absurd (h zero u refl ((bytes_eq-Decides u.name n).0 k))
      | inr k ↦ rw (k, rest) refl
    ]

-- what stands at a place of a list with one more task
at_push : (ts : List ImageTask) (x t : ImageTask) (i : ℕ) → slice_get (ts ++ x ∷ []) i ≡ Some t → (slice_get ts i ≡ Some t) ⊎ ((i ≡ length ts) × (x ≡ t))
at_push [] x t zero e = inr (refl, some_is x t e)
at_push [] x t (suc i) e = absurd cc
at_push (u ∷ ts) x t zero e = inl e
at_push (u ∷ ts) x t (suc i) e = elim (at_push ts x t i e) [ inl k ↦ inl k | inr k ↦ inr (ap suc k.0, k.1) ]

pub different_push : (ts : List ImageTask) (x : ImageTask) → HaveDifferentNames ts → is_new ts x.name ≡ true → HaveDifferentNames (ts ++ x ∷ [])
different_push ts x h new = λ i j t u below e f same. by i j t u below (at_push ts x t i e) (at_push ts x u j f) same
  where
    by : (i j : ℕ) (t u : ImageTask) → i < j → ((slice_get ts i ≡ Some t) ⊎ ((i ≡ length ts) × (x ≡ t))) → ((slice_get ts j ≡ Some u) ⊎ ((j ≡ length ts) × (x ≡ u))) → t.name ≡ u.name → ⊥
    by i j t u below (inl e) (inl f) same = h i j t u below e f same
    by i j t u below (inl e) (inr f) same = new_is ts x.name new i t e (same ∙ ap (λ y. y.name) (sym f.1))
    by i j t u below (inr e) (inl f) same = let within = slice_get_within ts j u f in let at = e.0 in absurd (omega arith)
    by i j t u below (inr e) (inr f) same = let at = e.0 in let at' = f.0 in absurd (omega arith)

front_at : (ts more : List ImageTask) (i : ℕ) (t : ImageTask) → slice_get ts i ≡ Some t → slice_get (ts ++ more) i ≡ Some t
front_at [] more i t e = absurd cc
front_at (u ∷ ts) more zero t e = e
front_at (u ∷ ts) more (suc i) t e = front_at ts more i t e

behind_at : (ts more : List ImageTask) (x : ImageTask) → slice_get (ts ++ x ∷ more) (length ts) ≡ Some x
behind_at [] more x = refl
behind_at (u ∷ ts) more x = behind_at ts more x

-- a task behind others has a new name
pub new_behind : (ts more : List ImageTask) (x : ImageTask) → HaveDifferentNames (ts ++ x ∷ more) → is_new ts x.name ≡ true
new_behind ts more x h =
    is_new_where ts x.name (λ i t e f. h i (length ts) t x (slice_get_within ts i t e) (front_at ts (x ∷ more) i t e) (behind_at ts more x) f)

pub no_names : HaveDifferentNames []
no_names = λ i j t u below e f same. absurd cc

-- ---- the tasks one by one

-- a task more, with a name that is new
pub different_more : (ts : List ImageTask) (i : ℕ) (d : ImageTask) → i < length ts → HaveDifferentNames (take i ts) → is_new (take i ts) (get_or ts i d).name ≡ true → HaveDifferentNames (take (i + 1) ts)
different_more ts i d within h new = subst HaveDifferentNames (sym (take_more ts i d within)) (different_push (take i ts) (get_or ts i d) h new)

-- where one isn't new, the names don't differ
pub not_different : (ts : List ImageTask) (i : ℕ) (d : ImageTask) → i < length ts → is_new (take i ts) (get_or ts i d).name ≡ false → HaveDifferentNames ts → ⊥
not_different ts i d within old h =
    let split : ts ≡ take i ts ++ get_or ts i d ∷ drop (i + 1) ts = sym (take-append-drop i ts) ∙ ap (λ x. take i ts ++ x) (drop_more ts i d within) in
    let k : true ≡ false = sym (new_behind (take i ts) (drop (i + 1) ts) (get_or ts i d) (subst HaveDifferentNames split h)) ∙ old in
    cc
