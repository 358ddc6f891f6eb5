-- What a grammar is made of. A part says which items fit it, and which begin it.
use Rattle.std.specs.Prelude.{◌≡◌, ◌≤◌, ℕ, zero, suc, ◌+◌, ◌-◌, min, Bool, true, List, [], ◌∷◌, ◌++◌, length, Option, Some, None, ◌⊎◌}
use Rattle.rt_pieces.specs.declared.item.Item.{Item}
use Rattle.rt_pieces.specs.declared.item.ItemKind.{ItemKind}
use Rattle.rt_pieces.specs.declared.item.ItemKind.TheVariants as kind
use Rattle.rt_pieces.specs.declared.item.Mark.{Mark}
use Rattle.rt_pieces.specs.declared.item.Mark.TheVariants as m
use Rattle.rt_pieces.specs.declared.item.Word.{Word}
use Rattle.rt_grammar.specs.declared.next.Next.{Next}
use Rattle.rt_grammar.specs.declared.next.Next.TheVariants as next
use Rattle.rt_grammar.specs.declared.at.At.{At}
use Rattle.rt_grammar.specs.declared.at.Ident.{Ident}

abbrev pub next_by : ItemKind → Next
next_by (kind.Word w) = next.Word w
next_by (kind.Name s) = next.Name
next_by (kind.Number n) = next.Number
next_by (kind.Text s) = next.Text
next_by (kind.Mark k) = next.Mark k

-- what comes first in a list of items
abbrev pub next_of : List Item → Next
next_of [] = next.End
next_of (i ∷ l) = next_by i.kind

-- Fits l r a: the items of l before r are the part, and mean a.
-- Begins l r: the items of l before r begin the part.
pub record Part (A : Type 0) : Type 1 where
  pub Fits : List Item → List Item → A → Type 0
  pub Begins : List Item → List Item → Type 0

-- nothing, which means a
abbrev pub nothing : {A : Type 0} → A → Part A
nothing a = record {
  Fits = λ l r x. (l ≡ r) × (x ≡ a);
  Begins = λ l r. l ≡ r;
}

-- what nothing fits
abbrev pub never : {A : Type 0} → Part A
never {A} = record {
  Fits = λ l r x. ⊥;
  Begins = λ l r. l ≡ r;
}

-- one item that means a by this test
abbrev pub one : {A : Type 0} → (Item → A → Type 0) → Part A
one {A} test = record {
  Fits = λ l r a. (i : Item) × (l ≡ i ∷ r) × test i a;
  Begins = λ l r. (l ≡ r) ⊎ ((i : Item) × (a : A) × (l ≡ i ∷ r) × test i a);
}

-- a part and then another, which may name what the first one means
infixl 10 ◌>>=◌
abbrev pub ◌>>=◌ : {A B : Type 0} → Part A → (A → Part B) → Part B
◌>>=◌ {A} {B} p q = record {
  Fits = λ l r b. (m : List Item) × (a : A) × p.Fits l m a × (q a).Fits m r b;
  Begins = λ l r. p.Begins l r ⊎ ((m : List Item) × (a : A) × p.Fits l m a × (q a).Begins m r);
}

-- one part or the other
abbrev pub either : {A : Type 0} → Part A → Part A → Part A
either p q = record {
  Fits = λ l r a. p.Fits l r a ⊎ q.Fits l r a;
  Begins = λ l r. p.Begins l r ⊎ q.Begins l r;
}

-- a part or nothing
abbrev pub optional : {A : Type 0} → Part A → Part (Option A)
optional p = either (p >>= λ a. nothing (Some a)) (nothing None)

-- A part any number of times. What it means grows from a by step.
pub data Turns {A B : Type 0} (step : A → B → A) (p : Part B) : A → List Item → List Item → A → Type 0 where
  stop : {a : A} {l : List Item} → Turns step p a l l a
  turn : {a c : A} {b : B} {l m r : List Item} → p.Fits l m b → Turns step p (step a b) m r c → Turns step p a l r c

pub data BeginsTurns {B : Type 0} (p : Part B) : List Item → List Item → Type 0 where
  begun : {l r : List Item} → p.Begins l r → BeginsTurns p l r
  turned : {b : B} {l m r : List Item} → p.Fits l m b → BeginsTurns p m r → BeginsTurns p l r

abbrev pub turns : {A B : Type 0} → (A → B → A) → A → Part B → Part A
turns step a p = record {
  Fits = λ l r c. Turns step p a l r c;
  Begins = λ l r. BeginsTurns p l r;
}

-- a part up to so many times
abbrev pub up_to : {A B : Type 0} → ℕ → (A → B → A) → A → Part B → Part A
up_to zero step a p = nothing a
up_to (suc n) step a p = either (p >>= λ b. up_to n step (step a b) p) (nothing a)

-- a part of at most so many items
abbrev pub at_most : {A : Type 0} → ℕ → Part A → Part A
at_most n p = record {
  Fits = λ l r a. p.Fits l r a × (length l ≤ length r + n);
  Begins = λ l r. p.Begins l r × (length l ≤ length r + n);
}

-- a part whose first item passes a test
abbrev pub starting : {A : Type 0} → (Next → Bool) → Part A → Part A
starting test p = record {
  Fits = λ l r a. p.Fits l r a × (test (next_of l) ≡ true);
  Begins = λ l r. (l ≡ r) ⊎ (p.Begins l r × (test (next_of l) ≡ true));
}

-- a part that opens one more level, where so many may still open
abbrev pub within : {A : Type 0} → ℕ → Part A → Part A
within zero p = never
within (suc levels) p = p

-- ---- one item

abbrev pub word : Word → Part (Unit {0})
word w = one (λ i _. i.kind ≡ kind.Word w)

abbrev pub mark : Mark → Part (Unit {0})
mark k = one (λ i _. i.kind ≡ kind.Mark k)

abbrev pub name : Part (List ℕ)
name = one (λ i s. i.kind ≡ kind.Name s)

abbrev pub number : Part ℕ
number = one (λ i n. i.kind ≡ kind.Number n)

abbrev pub text : Part (List ℕ)
text = one (λ i s. i.kind ≡ kind.Text s)

-- an item that means what this table says of it
abbrev pub listed_in : {A : Type 0} → (Next → Option A) → Part A
listed_in table = one (λ i a. table (next_by i.kind) ≡ Some a)

-- ---- where a part begins

-- the line of the first item, or 0
abbrev pub line_of : List Item → ℕ
line_of [] = 0
line_of (i ∷ l) = i.line

-- the first item of l, where there are total items in all
abbrev pub at_of : ℕ → List Item → At
at_of total l = record { item = min (total - length l) 65535; line = line_of l }

abbrev pub here : ℕ → Part At
here total = record {
  Fits = λ l r at. (l ≡ r) × (at ≡ at_of total l);
  Begins = λ l r. l ≡ r;
}

-- a name and where it stands
abbrev pub ident : ℕ → Part Ident
ident total = do
  at ← here total
  s ← name
  nothing (record { name = s; at = at })

-- a name and a colon
abbrev pub label : ℕ → Part Ident
label total = do
  n ← ident total
  _ ← mark m.Colon
  nothing n

abbrev pub push : {A : Type 0} → List A → A → List A
push xs x = xs ++ x ∷ []
