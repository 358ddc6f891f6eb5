-- Where a label stands in a plain tree, so that it leads somewhere.
use Rattle.std.proofs.Common.{◌≡◌, ℕ, zero, suc, ◌+◌, ◌<◌, ◌≤◌, ◌==◌, Bool, true, false, List, [], ◌∷◌, Option, Some, None, arith, refl, ap, subst}
use Rattle.std.proofs.lemmas.Bool.Decides.{nat_tests}
use Rattle.rt_tree_nodes.specs.Tree.{Cond, Stmt, If, Seq, Then, Mark}
use Rattle.rt_tree.specs.Statements.{marks}
use Rattle.rt_work_state.specs.Items.{Item, Do, PastElse, or_else, here_or, from_label, from_inside}

-- whatever is to be done behind the sequence
abbrev pub StandsIn : Seq → ℕ → Type 0
StandsIn q l = (rest : List Item) → (todo : List Item) × (from_label l q rest ≡ Some todo)

abbrev pub StandsInside : Stmt → ℕ → Type 0
StandsInside a l = (rest : List Item) → (todo : List Item) × (from_inside l a rest ≡ Some todo)

or_first : (o r : Option (List Item)) (todo : List Item) → o ≡ Some todo → or_else o r ≡ Some todo
or_first o r todo e = ap (λ (x : Option (List Item)). or_else x r) e

or_second : (o r : Option (List Item)) (todo : List Item) → r ≡ Some todo → (some : List Item) × (or_else o r ≡ Some some)
or_second None r todo e = (todo, e)
or_second (Some x) r todo e = (x, refl)

or_here : (b : Bool) (here : List Item) (o : Option (List Item)) (todo : List Item) → o ≡ Some todo → (some : List Item) × (here_or b here o ≡ Some some)
or_here true here o todo e = (here, refl)
or_here false here o todo e = (todo, e)

same_number : (k : ℕ) → (k == k) ≡ true
same_number k = grind (arith, nat_tests)

pub stands_first : (a : Stmt) (q : Seq) (l : ℕ) → StandsInside a l → StandsIn (Then a q) l
stands_first a q l h rest = let z = h (Do q ∷ rest) in (z.0, or_first (from_inside l a (Do q ∷ rest)) (from_label l q rest) z.0 z.1)

pub stands_later : (a : Stmt) (q : Seq) (l : ℕ) → StandsIn q l → StandsIn (Then a q) l
stands_later a q l h rest = let z = h rest in or_second (from_inside l a (Do q ∷ rest)) (from_label l q rest) z.0 z.1

pub stands_chosen : (t : Cond) (a b : Seq) (l : ℕ) → StandsIn a l → StandsInside (If t a b) l
stands_chosen t a b l h rest = let z = h (PastElse ∷ rest) in (z.0, or_first (from_label l a (PastElse ∷ rest)) (from_label l b rest) z.0 z.1)

pub stands_otherwise : (t : Cond) (a b : Seq) (l : ℕ) → StandsIn b l → StandsInside (If t a b) l
stands_otherwise t a b l h rest = let z = h rest in or_second (from_label l a (PastElse ∷ rest)) (from_label l b rest) z.0 z.1

stands_here : (l : ℕ) (q : Seq) → StandsIn (Mark l q) l
stands_here l q rest = (Do q ∷ rest, ap (λ (b : Bool). here_or b (Do q ∷ rest) (from_label l q rest)) (same_number l))

stands_behind : (m : ℕ) (q : Seq) (l : ℕ) → StandsIn q l → StandsIn (Mark m q) l
stands_behind m q l h rest = let z = h rest in or_here (m == l) (Do q ∷ rest) (from_label l q rest) z.0 z.1

-- ---- labels in a row

-- so many numbers from one on
abbrev pub up_from : ℕ → ℕ → List ℕ
up_from k zero = []
up_from k (suc n) = k ∷ up_from (suc k) n

pub stands_marked : (ls : List ℕ) (q : Seq) (l : ℕ) → StandsIn q l → StandsIn (marks ls q) l
stands_marked [] q l h = h
stands_marked (k ∷ ls) q l h = stands_behind k (marks ls q) l (stands_marked ls q l h)

pub stands_own : (k n : ℕ) (q : Seq) (l : ℕ) → k ≤ l → l < k + n → StandsIn (marks (up_from k n) q) l
stands_own k zero q l a b = absurd (grind arith)
stands_own k (suc n) q l a b = by_test (k == l) refl (λ p. stands_own (suc k) n q l p (omega (arith, b))) where
  by_test : (c : Bool) → (k == l) ≡ c → (suc k ≤ l → StandsIn (marks (up_from (suc k) n) q) l) → StandsIn (marks (up_from k (suc n)) q) l
  by_test true e go =
      let same : k ≡ l = grind (arith, nat_tests) in
      subst (λ (m : ℕ). StandsIn (marks (up_from k (suc n)) q) m) same (stands_here k (marks (up_from (suc k) n) q))
  by_test false e go = stands_behind k (marks (up_from (suc k) n) q) l (go (grind (arith, nat_tests)))
