-- How many items each part of a grammar takes, part by part.
use Rattle.std.proofs.Common.{ℕ, zero, suc, ◌+◌, ◌≤◌, Bool, List, length, Option, Some, None, inl, inr, sym, ap, subst, arith}
use Rattle.rt_pieces.specs.declared.item.Item.{Item}
use Rattle.rt_pieces.specs.declared.item.Mark.{Mark}
use Rattle.rt_pieces.specs.declared.item.Word.{Word}
use Rattle.rt_grammar.specs.declared.next.Next.{Next}
use Rattle.rt_grammar.specs.Parts.{Part, nothing, never, one, ◌>>=◌, either, optional, Turns, stop, turn, turns, up_to, at_most, starting, within, word, mark, name, number, text, here, ident, label}
use Rattle.rt_grammar.proofs.Tails.{Tail, all, past, Tail-then}

-- Where the part fits, with n items before it: what it means counts no more items than there are before the rest.
pub record Counts {A : Type 0} (n : ℕ) (p : Part A) (f : A → ℕ) : Type 0 where
  pub counts : (l r : List Item) (a : A) → p.Fits l r a → f a + length r ≤ n + length l
  pub tails : (l r : List Item) (a : A) → p.Fits l r a → Tail l r

pub done : {A : Type 0} {a : A} {n : ℕ} {f : A → ℕ} → f a ≤ n → Counts n (nothing a) f
done {A = A} {a = a} {n = n} {f = f} h = record {
  counts = λ l r x (same, is). let e = ap length same in let i = ap f is in omega arith;
  tails = λ l r x (same, is). subst (Tail l) same all;
}

pub none : {A : Type 0} {n : ℕ} {f : A → ℕ} → Counts n never f
none = record { counts = λ l r x fits. absurd fits; tails = λ l r x fits. absurd fits }

pub one_item : {A : Type 0} {test : Item → A → Type 0} → Counts 0 (one test) (λ _. 1)
one_item = record {
  counts = λ l r x (i, same, is). let e = ap length same in omega arith;
  tails = λ l r x (i, same, is). subst (λ (m : List Item). Tail m r) (sym same) (past all);
}

pub thn : {A B : Type 0} {p : Part A} {q : A → Part B} {n : ℕ} {f : A → ℕ} {g : B → ℕ} → Counts 0 p f → ((a : A) → Counts (n + f a) (q a) g) → Counts n (p >>= q) g
thn h k = record {
  counts = λ l r b (m, a, fits, rest). let x = h.counts l m a fits in let y = (k a).counts m r b rest in omega arith;
  tails = λ l r b (m, a, fits, rest). Tail-then (h.tails l m a fits) ((k a).tails m r b rest);
}

-- the first part counts what stands before it, too
pub thn_from : {A B : Type 0} {p : Part A} {q : A → Part B} {n : ℕ} {f : A → ℕ} {g : B → ℕ} → Counts n p f → ((a : A) → Counts (f a) (q a) g) → Counts n (p >>= q) g
thn_from h k = record {
  counts = λ l r b (m, a, fits, rest). let x = h.counts l m a fits in let y = (k a).counts m r b rest in omega arith;
  tails = λ l r b (m, a, fits, rest). Tail-then (h.tails l m a fits) ((k a).tails m r b rest);
}

-- a part that counts as much in other words
pub counted_as : {A : Type 0} {p : Part A} {n : ℕ} {f g : A → ℕ} → Counts 0 p f → ((a : A) → g a ≤ n + f a) → Counts n p g
counted_as h k = record { counts = λ l r a fits. let x = h.counts l r a fits in let y = k a in omega arith; tails = h.tails }

pub or_else : {A : Type 0} {p q : Part A} {n : ℕ} {f : A → ℕ} → Counts n p f → Counts n q f → Counts n (either p q) f
or_else h k = record {
  counts = λ l r a. elim [ inl x ↦ h.counts l r a x | inr x ↦ k.counts l r a x ];
  tails = λ l r a. elim [ inl x ↦ h.tails l r a x | inr x ↦ k.tails l r a x ];
}

pub maybe : {A : Type 0} {p : Part A} {n : ℕ} {f : A → ℕ} {g : Option A → ℕ} → Counts 0 p f → ((a : A) → g (Some a) ≤ n + f a) → g None ≤ n → Counts n (optional p) g
maybe h some none = or_else (thn h (λ a. done (some a))) (done none)

module _ {A B : Type 0} (step : A → B → A) (p : Part B) (f : A → ℕ) (g : B → ℕ) (h : Counts 0 p g) (adds : (a : A) (b : B) → f (step a b) ≤ f a + g b) where
  turned_from : {a c : A} {l r : List Item} → Turns step p a l r c → f c + length r ≤ f a + length l
  turned_from stop = omega arith
  turned_from (turn {a = a} {c = c} {b = b} {l = l} {m = m} {r = r} fits more) = let x = h.counts l m b fits in let y = turned_from more in let z = adds a b in omega arith

  turned_tails : {a c : A} {l r : List Item} → Turns step p a l r c → Tail l r
  turned_tails stop = all
  turned_tails (turn {b = b} {l = l} {m = m} fits more) = Tail-then (h.tails l m b fits) (turned_tails more)

  pub turned : {n : ℕ} {a : A} → f a ≤ n → Counts n (turns step a p) f
  turned e = record { counts = λ l r c fits. let x = turned_from fits in omega arith; tails = λ l r c fits. turned_tails fits }

  pub turned_up : {n : ℕ} (k : ℕ) (a : A) → f a ≤ n → Counts n (up_to k step a p) f
  turned_up zero a e = done e
  turned_up {n = n} (suc k) a e = or_else (thn {f = g} h (λ b. turned_up {n = n + g b} k (step a b) (let z = adds a b in omega arith))) (done e)

pub limited : {A : Type 0} {p : Part A} {n : ℕ} {f : A → ℕ} (k : ℕ) → Counts n p f → Counts n (at_most k p) f
limited k h = record { counts = λ l r a fits. h.counts l r a fits.0; tails = λ l r a fits. h.tails l r a fits.0 }

pub begun : {A : Type 0} {p : Part A} {n : ℕ} {f : A → ℕ} (test : Next → Bool) → Counts n p f → Counts n (starting test p) f
begun test h = record { counts = λ l r a fits. h.counts l r a fits.0; tails = λ l r a fits. h.tails l r a fits.0 }

pub opened : {A : Type 0} {p : Part A} {n : ℕ} {f : A → ℕ} (levels : ℕ) → Counts n p f → Counts n (within levels p) f
opened zero h = none
opened (suc levels) h = h

-- ---- one item

pub a_word : (w : Word) → Counts 0 (word w) (λ _. 1)
a_word w = one_item

pub a_mark : (k : Mark) → Counts 0 (mark k) (λ _. 1)
a_mark k = one_item

pub a_name : Counts 0 name (λ _. 1)
a_name = one_item

pub a_number : Counts 0 number (λ _. 1)
a_number = one_item

pub a_text : Counts 0 text (λ _. 1)
a_text = one_item

pub a_place : (total : ℕ) → Counts 0 (here total) (λ _. 0)
a_place total = record { counts = λ l r x (same, is). let e = ap length same in omega arith; tails = λ l r x (same, is). subst (Tail l) same all }

pub an_ident : (total : ℕ) → Counts 0 (ident total) (λ _. 1)
an_ident total = thn (a_place total) (λ at. thn a_name (λ s. done (omega arith)))

pub a_label : (total : ℕ) → Counts 0 (label total) (λ _. 2)
a_label total = thn (an_ident total) (λ n. thn (a_mark _) (λ _. done (omega arith)))
