-- What holds of all that a part of a grammar may mean where each item is well spelled, part by part.
use Rattle.std.proofs.Common.{ℕ, List, ◌∷◌, inl, inr, sym, subst}
use Rattle.std.specs.List.{AllByRecursion}
use Rattle.rt_pieces.specs.declared.item.Item.{Item}
use Rattle.rt_grammar.specs.Parts.{Part, nothing, ◌>>=◌, either, optional, Turns, stop, turn, turns, ident}
use Rattle.rt_grammar.proofs.Tails.{Tail, all, past, Tail-then}
use Rattle.rt_bricks_laws.proofs.Yields.{Yields}
use Rattle.rt_bricks_laws.specs.Spelled.{KindSpelled, IsSpelled}
use Rattle.rt_bricks_laws.specs.SpelledDeclarations.{IdentSpelled}

abbrev pub AllSpelled : List Item → Type 0
AllSpelled l = AllByRecursion IsSpelled l

-- what is left behind the part is a tail
pub record Leaves {A : Type 0} (p : Part A) : Type 0 where
  pub tails : (l r : List Item) (a : A) → p.Fits l r a → Tail l r

-- All that the part means is so, where each item from its first one on is well spelled.
pub record Spells {A : Type 0} (p : Part A) (Q : A → Type 0) : Type 0 where
  pub holds : (l r : List Item) (a : A) → AllSpelled l → p.Fits l r a → Q a

-- ---- what is left

tail_spelled : {l r : List Item} → Tail l r → AllSpelled l → AllSpelled r
tail_spelled all h = h
tail_spelled (past t) h = tail_spelled t h.1

pub leaves_it : {A : Type 0} {a : A} → Leaves (nothing a)
leaves_it = record { tails = λ l r x (same, is). subst (Tail l) same all }

pub leaves_then : {A B : Type 0} {p : Part A} {q : A → Part B} → Leaves p → ((a : A) → Leaves (q a)) → Leaves (p >>= q)
leaves_then h k = record { tails = λ l r b (m, a, fits, rest). Tail-then (h.tails l m a fits) ((k a).tails m r b rest) }

leaves_either : {A : Type 0} {p q : Part A} → Leaves p → Leaves q → Leaves (either p q)
leaves_either h k = record { tails = λ l r a. elim [ inl x ↦ h.tails l r a x | inr x ↦ k.tails l r a x ] }

pub leaves_maybe : {A : Type 0} {p : Part A} → Leaves p → Leaves (optional p)
leaves_maybe h = leaves_either (leaves_then h (λ a. leaves_it)) leaves_it

module _ {A B : Type 0} (step : A → B → A) (p : Part B) (h : Leaves p) where
  leaves_from : {a c : A} {l r : List Item} → Turns step p a l r c → Tail l r
  leaves_from stop = all
  leaves_from (turn {b = b} {l = l} {m = m} fits more) = Tail-then (h.tails l m b fits) (leaves_from more)

  pub leaves_turned : (a : A) → Leaves (turns step a p)
  leaves_turned a = record { tails = λ l r c fits. leaves_from fits }

-- ---- what holds

pub it : {A : Type 0} {a : A} {Q : A → Type 0} → Q a → Spells (nothing a) Q
it {Q = Q} h = record { holds = λ l r x spelled (same, is). subst Q (sym is) h }

-- where it matters what the first part means
pub thn : {A B : Type 0} {p : Part A} {q : A → Part B} {P : A → Type 0} {Q : B → Type 0} → Leaves p → Spells p P → ((a : A) → P a → Spells (q a) Q) → Spells (p >>= q) Q
thn t h k = record { holds = λ l r b spelled (m, a, fits, rest). (k a (h.holds l m a spelled fits)).holds m r b (tail_spelled (t.tails l m a fits) spelled) rest }

-- where it does not
pub behind : {A B : Type 0} {p : Part A} {q : A → Part B} {Q : B → Type 0} → Leaves p → ((a : A) → Spells (q a) Q) → Spells (p >>= q) Q
behind t k = record { holds = λ l r b spelled (m, a, fits, rest). (k a).holds m r b (tail_spelled (t.tails l m a fits) spelled) rest }

-- where nothing matters behind the first part
pub last : {A B : Type 0} {p : Part A} {q : A → Part B} {P : A → Type 0} {Q : B → Type 0} → Spells p P → ((a : A) → P a → Yields (q a) Q) → Spells (p >>= q) Q
last h k = record { holds = λ l r b spelled (m, a, fits, rest). (k a (h.holds l m a spelled fits)).yields m r b rest }

-- what holds whatever the items are
pub yielded : {A : Type 0} {p : Part A} {Q : A → Type 0} → Yields p Q → Spells p Q
yielded h = record { holds = λ l r a spelled fits. h.yields l r a fits }

pub or_else : {A : Type 0} {p q : Part A} {Q : A → Type 0} → Spells p Q → Spells q Q → Spells (either p q) Q
or_else h k = record { holds = λ l r a spelled. elim [ inl x ↦ h.holds l r a spelled x | inr x ↦ k.holds l r a spelled x ] }

module _ {A B : Type 0} (step : A → B → A) (p : Part B) (P : B → Type 0) (Q : A → Type 0) (t : Leaves p) (h : Spells p P) (adds : (a : A) (b : B) → Q a → P b → Q (step a b)) where
  turned_from : {a c : A} {l r : List Item} → AllSpelled l → Q a → Turns step p a l r c → Q c
  turned_from spelled q stop = q
  turned_from spelled q (turn {a = a} {b = b} {l = l} {m = m} fits more) = turned_from (tail_spelled (t.tails l m b fits) spelled) (adds a b q (h.holds l m b spelled fits)) more

  pub turned : {a : A} → Q a → Spells (turns step a p) Q
  turned q = record { holds = λ l r c spelled fits. turned_from spelled q fits }

-- a name is that of an item
pub an_ident : (total : ℕ) → Spells (ident total) IdentSpelled
an_ident total = record {
  holds = λ l r n spelled (m, at, (same, place), (o, s, (i, e, k), (ends, is))).
      let here : AllSpelled (i ∷ o) = subst AllSpelled e (subst AllSpelled same spelled) in
      subst IdentSpelled (sym is) (subst KindSpelled k here.0);
}
