-- Of the faults of some parts one counts, or none stands, where that is so of each part.
use Rattle.std.proofs.Common.{◌≡◌, ◌⊎◌, ℕ, zero, suc, ◌==◌, ◌&&◌, ◌||◌, inl, inr, Bool, true, false, not, List, [], ◌∷◌, Option, Some, slice_get, drop, arith, refl, sym, ◌∙◌, subst}
use Rattle.std.proofs.lemmas.Bool.Decides.{nat_tests}
use Rattle.std.specs.Prelude.{nat_lt, nat_le}
use Rattle.rt_bricks.specs.declared.tree.Declaration.{Declaration}
use Rattle.rt_check_declared.specs.declared.bricks.Heading.{Heading}
use Rattle.rt_check_declared.specs.Names.{bricks_in}
use Rattle.rt_check_declared.specs.Verdicts.{IsIn}
use Rattle.rt_check_faults.proofs.Counting.{sooner_yes, sooner_no, before_same, before_through_left, before_through_right}
use Rattle.rt_check_module.specs.Tree.{Somewhere, first}
use Rattle.rt_check_faults.specs.declared.fault.CheckFault.{CheckFault}
use Rattle.rt_check_faults.specs.declared.fault.CheckFault.TheVariants.{Memory, UnknownName, WrongMode, NotAssignable, WrongCount, RefOfLocal, LeftOut, DeclaredTwice, BadStart, UnknownLabel, NoResult, Unknown}
use Rattle.rt_check_faults.specs.Outcomes.{sooner, is_before, is_unknown, item_of, number_of, IsLeast}

abbrev pub Faults : Type 1
Faults = CheckFault → Type 0

-- A fault counts of those that stand, or none stands.
abbrev pub HasLeast : Faults → Type 0
HasLeast Stands = ((g : CheckFault) × IsLeast Stands g) ⊎ ((g : CheckFault) → Stands g → ⊥)

pub none_stands : {P : Faults} → ((g : CheckFault) → P g → ⊥) → HasLeast P
none_stands never = inr never

pub least_as : {P Q : Faults} → ((g : CheckFault) → P g → Q g) → ((g : CheckFault) → Q g → P g) → HasLeast P → HasLeast Q
least_as there back (inl a) = inl (a.0, record { stands = there a.0 a.1.stands; least = λ h q. a.1.least h (back h q) })
least_as there back (inr never) = inr (λ g q. never g (back g q))

sooner_stands : (P Q : Faults) (f g : CheckFault) (b : Bool) → is_before f g ≡ b → P f → Q g → P (sooner f g) ⊎ Q (sooner f g)
sooner_stands P Q f g true e p q = inl (subst P (sym (sooner_yes f g e)) p)
sooner_stands P Q f g false e p q = inr (subst Q (sym (sooner_no f g e)) q)

pub least_either : {P Q : Faults} → HasLeast P → HasLeast Q → HasLeast (λ g. P g ⊎ Q g)
least_either {P = P} {Q = Q} (inl a) (inl b) = inl (
  sooner a.0 b.0,
  record {
    stands = sooner_stands P Q a.0 b.0 (is_before a.0 b.0) refl a.1.stands b.1.stands;
    least = λ h x. elim x [ inl p ↦ before_through_left a.0 b.0 h (a.1.least h p) | inr q ↦ before_through_right a.0 b.0 h (b.1.least h q) ];
  },
)
least_either (inl a) (inr never) = inl (a.0, record { stands = inl a.1.stands; least = λ h x. elim x [ inl p ↦ a.1.least h p | inr q ↦ absurd (never h q) ] })
least_either (inr never) (inl b) = inl (b.0, record { stands = inr b.1.stands; least = λ h x. elim x [ inl p ↦ absurd (never h p) | inr q ↦ b.1.least h q ] })
least_either (inr never) (inr neither) = inr (λ g x. elim x [ inl p ↦ never g p | inr q ↦ neither g q ])

pub least_only : {P : Faults} (f : CheckFault) → P f → ((g : CheckFault) → P g → g ≡ f) → HasLeast P
least_only f p only = inl (f, record { stands = p; least = λ h x. subst (λ (g : CheckFault). is_before f g ≡ true) (sym (only h x)) (before_same f) })

pub least_in : (fs : List CheckFault) → HasLeast (λ g. IsIn g fs)
least_in [] = none_stands (λ g h. h)
least_in (f ∷ fs) = least_either (least_only f refl (λ g e. e)) (least_in fs)

-- ---- parts of a list

abbrev pub At : {A : Type 0} → (ℕ → A → Faults) → List A → Faults
At {A = A} Q xs g = (k : ℕ) × (x : A) × (slice_get xs k ≡ Some x) × Q k x g

at_there : {A : Type 0} (Q : ℕ → A → Faults) (x : A) (xs : List A) (g : CheckFault) → (Q 0 x g) ⊎ At (λ k. Q (suc k)) xs g → At Q (x ∷ xs) g
at_there Q x xs g (inl q) = (0, x, refl, q)
at_there Q x xs g (inr a) = (suc a.0, a.1, a.2, a.3)

at_back : {A : Type 0} (Q : ℕ → A → Faults) (x : A) (xs : List A) (g : CheckFault) (k : ℕ) (y : A) → slice_get (x ∷ xs) k ≡ Some y → Q k y g → (Q 0 x g) ⊎ At (λ k. Q (suc k)) xs g
at_back {A = A} Q x xs g zero y e q = inl (let same : x ≡ y = cc in subst (λ (z : A). Q 0 z g) (sym same) q)
at_back Q x xs g (suc k) y e q = inr (k, y, e, q)

pub least_at : {A : Type 0} (Q : ℕ → A → Faults) (xs : List A) → ((k : ℕ) (x : A) → HasLeast (Q k x)) → HasLeast (At Q xs)
least_at Q [] each = none_stands (λ g a. let e = a.2 in cc)
least_at Q (x ∷ xs) each =
    least_as (λ g p. at_there Q x xs g p) (λ g a. at_back Q x xs g a.0 a.1 a.2 a.3) (least_either (each 0 x) (least_at (λ k. Q (suc k)) xs (λ k y. each (suc k) y)))

pub least_somewhere : (P : CheckFault → Option Heading → Declaration → Type 0) (hs : List Heading) (ds : List Declaration) → ((h : Option Heading) (d : Declaration) → HasLeast (λ g. P g h d)) → HasLeast (λ g. Somewhere (P g) hs ds)
least_somewhere P hs [] each = none_stands (λ g h. h)
least_somewhere P hs (d ∷ ds) each = least_either (each (first hs) d) (least_somewhere P (drop (bricks_in d) hs) ds each)

-- ---- two that count

abbrev before : ℕ → ℕ → ℕ → ℕ → Bool
before i k j n = nat_lt i j || (i == j && nat_le k n)

same_items : (i k j n : ℕ) → before i k j n ≡ true → before j n i k ≡ true → i ≡ j
same_items i k j n a b = grind (arith, nat_tests)

same_numbers : (i k j n : ℕ) → before i k j n ≡ true → before j n i k ≡ true → k ≡ n
same_numbers i k j n a b = grind (arith, nat_tests)

abbrev IsNowhere : CheckFault → Type 0
IsNowhere g = (item_of g ≡ 0) × (number_of g ≡ 0)

nowhere : (g : CheckFault) → is_unknown g ≡ true → IsNowhere g
nowhere Memory e = absurd cc
nowhere (UnknownName at) e = absurd cc
nowhere (WrongMode at) e = absurd cc
nowhere (NotAssignable at) e = absurd cc
nowhere (WrongCount at) e = absurd cc
nowhere (RefOfLocal at) e = absurd cc
nowhere (LeftOut form at) e = absurd cc
nowhere (DeclaredTwice at) e = absurd cc
nowhere (BadStart at) e = absurd cc
nowhere (UnknownLabel at) e = absurd cc
nowhere (NoResult at) e = absurd cc
nowhere Unknown e = (refl, refl)

abbrev order : Bool → Bool → ℕ → ℕ → ℕ → ℕ → Bool
order u v i k j n = v || (not u && before i k j n)

same_by : (g h : CheckFault) (u v : Bool) → is_unknown g ≡ u → is_unknown h ≡ v → order u v (item_of g) (number_of g) (item_of h) (number_of h) ≡ true
    → order v u (item_of h) (number_of h) (item_of g) (number_of g) ≡ true → (item_of g ≡ item_of h) × (number_of g ≡ number_of h)
same_by g h true true p q a b = let x = nowhere g p in let y = nowhere h q in (x.0 ∙ sym y.0, x.1 ∙ sym y.1)
same_by g h true false p q a b = absurd cc
same_by g h false true p q a b = absurd cc
same_by g h false false p q a b = (same_items (item_of g) (number_of g) (item_of h) (number_of h) a b, same_numbers (item_of g) (number_of g) (item_of h) (number_of h) a b)

pub one_place : {P : Faults} (g h : CheckFault) → IsLeast P g → IsLeast P h → (item_of g ≡ item_of h) × (number_of g ≡ number_of h)
one_place g h a b = same_by g h (is_unknown g) (is_unknown h) refl refl (a.least h b.stands) (b.least g a.stands)
