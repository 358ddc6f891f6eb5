-- Where a label leads, what is left to be done fits.
use Rattle.std.proofs.Common.{◌≡◌, ◌⊎◌, inl, inr, ℕ, ◌==◌, ◌&&◌, Bool, true, false, List, [], ◌∷◌, Option, Some, None, refl, sym, ap, ◌∙◌, subst, arith}
use Rattle.std.proofs.lemmas.Bool.Decides.{nat_tests}
use Rattle.rt_tree_nodes.specs.Tree.{Stmt, Inner, If, For, To, While, Seq, Done, Then, Mark}
use Rattle.rt_tree.specs.Stored.{System}
use Rattle.rt_work_state.specs.Items.{Item, Do, PastElse, Again, TurnFor, TurnTo, or_else, here_or, from_label, from_inside}
use Rattle.rt_meaning_laws.specs.Trees.{Started, Within, Site, behind, StmtFits, SeqFits, stmt_ends, seq_ends, ends}
use Rattle.rt_meaning_laws.specs.Work.{TodoFits}
use Rattle.rt_meaning_laws.proofs.Locals.{within_self, within_all}

module _ (ps : System) (x : Site) where
  -- what is left to be done from a label on fits what has a value there
  abbrev pub FitsFrom : ℕ → List Item → Type 0
  FitsFrom l todo = (k : Started) × (x.at_label l ≡ Some k) × TodoFits ps x k todo []

  abbrev Tail : Started → Bool → List Item → Type 0
  Tail b c rest = (c ≡ true) ⊎ ((j : Started) × Within j b × TodoFits ps x j rest [])

  abbrev Rest : Started → Bool → List Item → Type 0
  Rest b c rest = (c ≡ true) ⊎ TodoFits ps x b rest []

  up : (b k : Started) (c : Bool) (rest : List Item) → Within b k → Tail b c rest → Tail k c rest
  up b k c rest w (inl h) = inl h
  up b k c rest w (inr h) = inr (h.0, within_all h.0 b k h.1 w, h.2)

  self : (b : Started) (c : Bool) (rest : List Item) → Rest b c rest → Tail b c rest
  self b c rest (inl h) = inl h
  self b c rest (inr h) = inr (b, within_self b, h)

  left_of : (b : Started) (c d : Bool) (rest : List Item) → Rest b (c && d) rest → Rest b c rest × Rest b d rest
  left_of b true true rest (inl h) = (inl refl, inl refl)
  left_of b true false rest (inl h) = absurd cc
  left_of b false d rest (inl h) = absurd cc
  left_of b c d rest (inr h) = (inr h, inr h)

  comes : (b : Started) (rest : List Item) → Rest b false rest → TodoFits ps x b rest []
  comes b rest (inl h) = absurd cc
  comes b rest (inr h) = h

  followed : (c : Bool) (b k : Started) (q : Seq) (rest : List Item) → Within k b → SeqFits x k q → Tail k (seq_ends c q) rest → Rest b c (Do q ∷ rest)
  followed true b k q rest w h o = inl refl
  followed false b k q rest w h o = inr (k, w, h, o)

  one_or : (l : ℕ) (o r : Option (List Item)) (todo : List Item) → or_else o r ≡ Some todo → ((y : List Item) → o ≡ Some y → FitsFrom l y) → ((y : List Item) → r ≡ Some y → FitsFrom l y) → FitsFrom l todo
  one_or l None r todo e f g = g todo e
  one_or l (Some y) r todo e f g = f todo e

  here : (l n : ℕ) (c : Bool) (q : Seq) (k : Started) (rest todo : List Item) (o : Option (List Item)) → (n == l) ≡ c → here_or c (Do q ∷ rest) o ≡ Some todo → x.at_label n ≡ Some k → TodoFits ps x k (Do q ∷ rest) [] → (o ≡ Some todo → FitsFrom l todo) → FitsFrom l todo
  here l n true q k rest todo o c e a h go =
      let same : n ≡ l = grind (arith, nat_tests) in
      let is : Do q ∷ rest ≡ todo = cc in
      (k, ap x.at_label (sym same) ∙ a, subst (λ (y : List Item). TodoFits ps x k y []) is h)
  here l n false q k rest todo o c e a h go = go e

  -- a sequence with a label in it ends by its own statements
  tail_for : (l : ℕ) (c : Bool) (k : Started) (q : Seq) (rest todo : List Item) → Tail k (seq_ends c q) rest → from_label l q rest ≡ Some todo → Tail k (ends q) rest
  tail_for l c k Done rest todo t e = absurd cc
  tail_for l c k (Then a q) rest todo t e = t
  tail_for l c k (Mark n q) rest todo t e = t

  mutual
    pub seq_label : (l : ℕ) (q : Seq) (b : Started) (rest todo : List Item) → SeqFits x b q → Tail b (ends q) rest → from_label l q rest ≡ Some todo → FitsFrom l todo
    seq_label l Done b rest todo h t e = absurd cc
    seq_label l (Mark n q) b rest todo h t e =
        let o : Tail h.0 (ends q) rest = up b h.0 (ends q) rest h.2 t in
        here l n (n == l) q h.0 rest todo (from_label l q rest) refl e h.1 (h.0, within_self h.0, h.4, o) (λ r. seq_label l q h.0 rest todo h.4 o r)
    seq_label l (Then a q) b rest todo h t e =
        let o : Tail h.1.0 (seq_ends (stmt_ends a) q) rest = up b h.1.0 (seq_ends (stmt_ends a) q) rest h.1.1 t in
        one_or l (from_inside l a (Do q ∷ rest)) (from_label l q rest) todo e
        (λ y r. stmt_label l a b (Do q ∷ rest) y h.0 (followed (stmt_ends a) (behind b a) h.1.0 q rest h.1.2 h.1.3 o) r)
        (λ y r. seq_label l q h.1.0 rest y h.1.3 (tail_for l (stmt_ends a) h.1.0 q rest y o r) r)

    pub stmt_label : (l : ℕ) (a : Stmt) (b : Started) (rest todo : List Item) → StmtFits x b a → Rest (behind b a) (stmt_ends a) rest → from_inside l a rest ≡ Some todo → FitsFrom l todo
    stmt_label l (Inner q) b rest todo h t e = seq_label l q b rest todo h (self b (ends q) rest t) e
    stmt_label l (If t c d) b rest todo h r e =
        let each = left_of b (ends c) (ends d) rest r in
        one_or l (from_label l c (PastElse ∷ rest)) (from_label l d rest) todo e (λ y q. seq_label l c b (PastElse ∷ rest) y h.1 (self b (ends c) rest each.0) q) (λ y q. seq_label l d b rest y h.2 (self b (ends d) rest each.1) q)
    stmt_label l (For i y z w q) b rest todo h r e = seq_label l q b (TurnFor i q ∷ rest) todo h.7 (inr (b, within_self b, (h.3, h.7, comes b rest r))) e
    stmt_label l (To i n q) b rest todo h r e = seq_label l q b (TurnTo i q ∷ rest) todo h.3 (inr (b, within_self b, (h.1, h.3, comes b rest r))) e
    stmt_label l (While t q) b rest todo h r e = seq_label l q b (Again t q ∷ rest) todo h.1 (inr (b, within_self b, (h.0, h.1, comes b rest r))) e
    stmt_label l _ b rest todo h r e = absurd cc
