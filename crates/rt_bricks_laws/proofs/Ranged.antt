-- What holds of all that a part of a grammar may mean where each item is in range, part by part.
use Rattle.std.proofs.Common.{◌≡◌, ℕ, zero, suc, true, Bool, List, ◌∷◌, Option, Some, None, inl, inr, sym, subst}
use Rattle.std.specs.List.{AllByRecursion}
use Rattle.std.proofs.lemmas.Bool.{le-leb}
use Rattle.rt_pieces.specs.declared.item.Item.{Item}
use Rattle.rt_grammar.specs.declared.next.Next.{Next}
use Rattle.rt_grammar.specs.Parts.{Part, nothing, never, ◌>>=◌, either, optional, Turns, stop, turn, turns, up_to, at_most, starting, within, number}
use Rattle.rt_grammar.proofs.Tails.{Tail, all, past}
use Rattle.rt_items.specs.Ranges.{InRange, KindInRange}
use Rattle.rt_bricks_laws.proofs.Parts.{Counts}
use Rattle.rt_bricks_laws.specs.Numbers.{is_word}

-- The items behind the part are in range, and all that it means is so.
pub record Ranged {A : Type 0} (p : Part A) (Q : A → Type 0) : Type 0 where
  pub holds : (l r : List Item) (a : A) → AllByRecursion InRange l → p.Fits l r a → AllByRecursion InRange r × Q a

tail_range : {l r : List Item} → Tail l r → AllByRecursion InRange l → AllByRecursion InRange r
tail_range all h = h
tail_range (past t) h = tail_range t h.1

pub it : {A : Type 0} {a : A} {Q : A → Type 0} → Q a → Ranged (nothing a) Q
it {Q = Q} h = record { holds = λ l r x range (same, is). (subst (AllByRecursion InRange) same range, subst Q (sym is) h) }

pub not : {A : Type 0} {Q : A → Type 0} → Ranged never Q
not = record { holds = λ l r x range fits. absurd fits }

-- where it matters what the first part means
pub thn : {A B : Type 0} {p : Part A} {q : A → Part B} {P : A → Type 0} {Q : B → Type 0} → Ranged p P → ((a : A) → P a → Ranged (q a) Q) → Ranged (p >>= q) Q
thn h k = record { holds = λ l r b range (m, a, fits, rest). let x = h.holds l m a range fits in (k a x.1).holds m r b x.0 rest }

-- where it does not
pub behind : {A B : Type 0} {p : Part A} {q : A → Part B} {f : A → ℕ} {Q : B → Type 0} → Counts 0 p f → ((a : A) → Ranged (q a) Q) → Ranged (p >>= q) Q
behind h k = record { holds = λ l r b range (m, a, fits, rest). (k a).holds m r b (tail_range (h.tails l m a fits) range) rest }

pub or_else : {A : Type 0} {p q : Part A} {Q : A → Type 0} → Ranged p Q → Ranged q Q → Ranged (either p q) Q
or_else h k = record { holds = λ l r a range. elim [ inl x ↦ h.holds l r a range x | inr x ↦ k.holds l r a range x ] }

pub maybe : {A : Type 0} {p : Part A} {P : A → Type 0} {Q : Option A → Type 0} → Ranged p P → ((a : A) → P a → Q (Some a)) → Q None → Ranged (optional p) Q
maybe h some none = or_else (thn h (λ a k. it (some a k))) (it none)

module _ {A B : Type 0} (step : A → B → A) (p : Part B) (P : B → Type 0) (Q : A → Type 0) (h : Ranged p P) (adds : (a : A) (b : B) → Q a → P b → Q (step a b)) where
  turned_from : {a c : A} {l r : List Item} → AllByRecursion InRange l → Q a → Turns step p a l r c → AllByRecursion InRange r × Q c
  turned_from range q stop = (range, q)
  turned_from range q (turn {a = a} {b = b} {l = l} {m = m} fits more) = let x = h.holds l m b range fits in turned_from x.0 (adds a b q x.1) more

  pub turned : {a : A} → Q a → Ranged (turns step a p) Q
  turned q = record { holds = λ l r c range fits. turned_from range q fits }

  pub turned_up : (k : ℕ) (a : A) → Q a → Ranged (up_to k step a p) Q
  turned_up zero a q = it q
  turned_up (suc k) a q = or_else (thn h (λ b g. turned_up k (step a b) (adds a b q g))) (it q)

pub limited : {A : Type 0} {p : Part A} {Q : A → Type 0} (k : ℕ) → Ranged p Q → Ranged (at_most k p) Q
limited k h = record { holds = λ l r a range fits. h.holds l r a range fits.0 }

pub begun : {A : Type 0} {p : Part A} {Q : A → Type 0} (test : Next → Bool) → Ranged p Q → Ranged (starting test p) Q
begun test h = record { holds = λ l r a range fits. h.holds l r a range fits.0 }

pub opened : {A : Type 0} {p : Part A} {Q : A → Type 0} (levels : ℕ) → Ranged p Q → Ranged (within levels p) Q
opened zero h = not
opened (suc levels) h = h

pub a_number : Ranged number (λ n. is_word n ≡ true)
a_number = record {
  holds = λ l r n range (i, same, k).
      let here : AllByRecursion InRange (i ∷ r) = subst (AllByRecursion InRange) same range in
      (here.1, le-leb (suc n) 65536 (subst KindInRange k here.0));
}
