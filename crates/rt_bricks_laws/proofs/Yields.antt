-- What holds of all that a part of a grammar may mean, part by part.
use Rattle.std.proofs.Common.{◌≡◌, ℕ, zero, suc, ◌+◌, ◌≤◌, Bool, List, [], ◌∷◌, Option, Some, None, inl, inr, refl, sym, subst, arith}
use Rattle.std.specs.List.{AllByRecursion}
use Rattle.rt_pieces.specs.declared.item.Item.{Item}
use Rattle.rt_grammar.specs.declared.next.Next.{Next}
use Rattle.rt_grammar.specs.Parts.{Part, nothing, never, ◌>>=◌, either, optional, Turns, stop, turn, turns, up_to, at_most, starting, within, push}

-- All that the part means is so.
pub record Yields {A : Type 0} (p : Part A) (Q : A → Type 0) : Type 0 where
  pub yields : (l r : List Item) (a : A) → p.Fits l r a → Q a

pub it : {A : Type 0} {a : A} {Q : A → Type 0} → Q a → Yields (nothing a) Q
it {Q = Q} h = record { yields = λ l r x (same, is). subst Q (sym is) h }

pub not : {A : Type 0} {Q : A → Type 0} → Yields never Q
not = record { yields = λ l r x fits. absurd fits }

-- where it matters what the first part means
pub thn : {A B : Type 0} {p : Part A} {q : A → Part B} {P : A → Type 0} {Q : B → Type 0} → Yields p P → ((a : A) → P a → Yields (q a) Q) → Yields (p >>= q) Q
thn h k = record { yields = λ l r b (m, a, fits, rest). (k a (h.yields l m a fits)).yields m r b rest }

-- where it does not
pub behind : {A B : Type 0} {p : Part A} {q : A → Part B} {Q : B → Type 0} → ((a : A) → Yields (q a) Q) → Yields (p >>= q) Q
behind k = record { yields = λ l r b (m, a, fits, rest). (k a).yields m r b rest }

pub so : {A : Type 0} {p : Part A} {P Q : A → Type 0} → Yields p P → ((a : A) → P a → Q a) → Yields p Q
so h k = record { yields = λ l r a fits. k a (h.yields l r a fits) }

pub or_else : {A : Type 0} {p q : Part A} {Q : A → Type 0} → Yields p Q → Yields q Q → Yields (either p q) Q
or_else h k = record { yields = λ l r a. elim [ inl x ↦ h.yields l r a x | inr x ↦ k.yields l r a x ] }

pub maybe : {A : Type 0} {p : Part A} {P : A → Type 0} {Q : Option A → Type 0} → Yields p P → ((a : A) → P a → Q (Some a)) → Q None → Yields (optional p) Q
maybe h some none = or_else (thn h (λ a k. it (some a k))) (it none)

module _ {A B : Type 0} (step : A → B → A) (p : Part B) (P : B → Type 0) (Q : A → Type 0) (h : Yields p P) (adds : (a : A) (b : B) → Q a → P b → Q (step a b)) where
  turned_from : {a c : A} {l r : List Item} → Q a → Turns step p a l r c → Q c
  turned_from q stop = q
  turned_from q (turn {a = a} {b = b} {l = l} {m = m} fits more) = turned_from (adds a b q (h.yields l m b fits)) more

  pub turned : {a : A} → Q a → Yields (turns step a p) Q
  turned q = record { yields = λ l r c fits. turned_from q fits }

  pub turned_up : (k : ℕ) (a : A) → Q a → Yields (up_to k step a p) Q
  turned_up zero a q = it q
  turned_up (suc k) a q = or_else (thn h (λ b g. turned_up k (step a b) (adds a b q g))) (it q)

-- up to so many times more, by a size to which each adds one
pub up_to_size : {A B : Type 0} (step : A → B → A) (p : Part B) (size : A → ℕ) → ((a : A) (b : B) → size (step a b) ≤ size a + 1) → (k : ℕ) (a : A) → Yields (up_to k step a p) (λ x. size x ≤ size a + k)
up_to_size step p size adds zero a = it (omega arith)
up_to_size step p size adds (suc k) a = or_else (behind (λ b. so (up_to_size step p size adds k (step a b)) (λ x h. let e = adds a b in omega arith))) (it (omega arith))

pub also : {A : Type 0} {p : Part A} {P Q : A → Type 0} → Yields p P → Yields p Q → Yields p (λ a. P a × Q a)
also h k = record { yields = λ l r a fits. (h.yields l r a fits, k.yields l r a fits) }

pub limited : {A : Type 0} {p : Part A} {Q : A → Type 0} (k : ℕ) → Yields p Q → Yields (at_most k p) Q
limited k h = record { yields = λ l r a fits. h.yields l r a fits.0 }

pub begun : {A : Type 0} {p : Part A} {Q : A → Type 0} (test : Next → Bool) → Yields p Q → Yields (starting test p) Q
begun test h = record { yields = λ l r a fits. h.yields l r a fits.0 }

pub opened : {A : Type 0} {p : Part A} {Q : A → Type 0} (levels : ℕ) → ((m : ℕ) → levels ≡ suc m → Yields p Q) → Yields (within levels p) Q
opened zero h = not
opened (suc levels) h = h levels refl

-- one more of a list
pub one_more : {A : Type 0} (Q : A → Type 0) (xs : List A) (x : A) → AllByRecursion Q xs → Q x → AllByRecursion Q (push xs x)
one_more Q [] x h k = (k, tt)
one_more Q (y ∷ ys) x h k = (h.0, one_more Q ys x h.1 k)
