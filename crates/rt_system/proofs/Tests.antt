-- Tests and what they mean.
use Rattle.std.proofs.Common.{◌≡◌, ℕ, Bool, true, false, ◌&&◌, cond, List, [], ◌∷◌, Option, Some, None, refl, ap}
use Rattle.std.specs.List.{AllByRecursion, list_all}

pub true_false : {A : Type 0} (b : Bool) → b ≡ true → b ≡ false → A
true_false b h k = absurd cc

pub not_true : (b : Bool) → (b ≡ true → ⊥) → b ≡ false
not_true true h = absurd (h refl)
not_true false h = refl

pub and_parts : (a b : Bool) → (a && b) ≡ true → (a ≡ true) × (b ≡ true)
and_parts true b h = (refl, h)
and_parts false b h = absurd cc

pub and_both : (a b : Bool) → a ≡ true → b ≡ true → (a && b) ≡ true
and_both a b h k = rw (h, k) refl

pub none_some : {A B : Type 0} {a : A} → None ≡ Some a → B
none_some e = absurd cc

abbrev some_or : {A : Type 0} → A → Option A → A
some_or a (Some x) = x
some_or a None = a

pub some_inj : {A : Type 0} {x y : A} → Some x ≡ Some y → x ≡ y
some_inj {x = x} e = ap (some_or x) e

pub passes : {A : Type 0} (b : Bool) (x y : A) → cond b (Some x) None ≡ Some y → (b ≡ true) × (x ≡ y)
passes true x y e = (refl, some_inj e)
passes false x y e = none_some e

pub all_means : (p : ℕ → Bool) (P : ℕ → Type 0) → ((c : ℕ) → p c ≡ true → P c) → (l : List ℕ) → list_all p l ≡ true → AllByRecursion P l
all_means p P f [] h = tt
all_means p P f (c ∷ cs) h = let k = and_parts (p c) (list_all p cs) h in (f c k.0, all_means p P f cs k.1)

pub all_is : (p : ℕ → Bool) (P : ℕ → Type 0) → ((c : ℕ) → P c → p c ≡ true) → (l : List ℕ) → AllByRecursion P l → list_all p l ≡ true
all_is p P f [] h = refl
all_is p P f (c ∷ cs) h = and_both (p c) (list_all p cs) (f c h.0) (all_is p P f cs h.1)
