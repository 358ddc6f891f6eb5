-- Sequences stay within their items, where each of their statements does.
use Rattle.std.proofs.Common.{◌≡◌, ℕ, ◌+◌, ◌≤◌, Bool, true, false, List, [], ◌∷◌, ◌++◌, length, map, Option, Some, None, option_map, append_assoc, arith, refl, sym, ap, ◌∙◌, subst}
use Rattle.std.proofs.lemmas.List.{append-nil}
use Rattle.rt_grammar.specs.declared.at.Ident.{Ident}
use Rattle.rt_bricks_laws.specs.Counts.{sum}
use Rattle.rt_tree_nodes.specs.declared.statement.Labelled.{Labelled}
use Rattle.rt_tree_nodes.specs.declared.statement.Stat.{Stat}
use Rattle.rt_tree_nodes.specs.Scopes.{Scope}
use Rattle.rt_tree_nodes.specs.Tree.{Seq}
use Rattle.rt_check_faults.specs.declared.fault.CheckFault.{CheckFault}
use Rattle.rt_tree.specs.Statements.{Sight as Seen, labels_from, sight_with, marks, labelled_tree, sequence_tree}
use Rattle.rt_check_bodies.specs.declared.tally.Tally.{Tally}
use Rattle.rt_check_bodies.specs.Parts.{noted_if, label_more, labels_more, numbers_from}
use Rattle.rt_exprs.specs.Sights.{Names, Sight, holds, within}
use Rattle.rt_check_bodies.specs.Statements.{Line, labels_of, labels_at, labelled, in_order, sequence}
use Rattle.rt_check_bodies_laws.specs.Held.{Holds}
use Rattle.rt_check_bodies_laws.proofs.Growing.{Pre, pre_then, LineGrows, LinesGrow, grow_order}
use Rattle.rt_check_bodies_laws.proofs.Holding.{holds_labelled}
use Rattle.rt_check_bodies_laws.proofs.Sequences.{own, all_labels_done}
use Rattle.rt_check_bodies_laws.specs.Parts.{StatementWithin, SequenceWithin}
use Rattle.rt_check_bodies_laws.proofs.Good.{Around}
use Rattle.rt_check_bodies_laws.proofs.Made.{stat_of, line_of, made_line}

abbrev pub AnyWithin : Scope → ℕ → Option Stat → Type 0
AnyWithin c n None = Unit {0}
AnyWithin c n (Some x) = StatementWithin n (stat_of c x)

-- a statement of so many items, with its labels
pub record LineGood (x : Line) (n : ℕ) : Type 0 where
  pub grows : LineGrows x
  pub counts : (s : Sight) (t : Tally) → length (x.part s t).1.locals ≤ length t.locals + n
  pub within : (c : Scope) → Around c → (s : Sight) (seen : Seen) (t : Tally) → Holds c s seen → Pre (x.part s t).1.locals c.locals → AnyWithin c n (x.part s t).0

abbrev pub AllGood : List Line → List ℕ → Type 0
AllGood [] [] = Unit {0}
AllGood (x ∷ xs) (n ∷ ns) = LineGood x n × AllGood xs ns
AllGood _ _ = ⊥

pub all_grow : (xs : List Line) (ns : List ℕ) → AllGood xs ns → LinesGrow xs
all_grow [] [] h = tt
all_grow (x ∷ xs) (n ∷ ns) h = (h.0.grows, all_grow xs ns h.1)
all_grow [] (n ∷ ns) h = absurd h
all_grow (x ∷ xs) [] h = absurd h

-- ---- labels

noted_locals : (b : Bool) (g : CheckFault) (t : Tally) → (noted_if b g t).locals ≡ t.locals
noted_locals true g t = refl
noted_locals false g t = refl

labels_keep : (l : Names) (ns : List Ident) (t : Tally) → (labels_more l ns t).1.locals ≡ t.locals
labels_keep l [] t = refl
labels_keep l (n ∷ ns) t = let u : Names × Tally = label_more l n t in labels_keep u.0 ns u.1 ∙ noted_locals (holds l n.name) _ t

pub all_labels_keep : (l : Names) (nss : List (List Ident)) (t : Tally) → (labels_of l nss t).1.locals ≡ t.locals
all_labels_keep l [] t = refl
all_labels_keep l (ns ∷ nss) t = let u : Names × Tally = labels_more l ns t in all_labels_keep u.0 nss u.1 ∙ labels_keep l ns t

-- ---- trees

marks_weigh : (n : ℕ) (ls : List ℕ) (q : Seq) → SequenceWithin n q → SequenceWithin n (marks ls q)
marks_weigh n [] q h = h
marks_weigh n (l ∷ ls) q h = let g = marks_weigh n ls q h in record { weight = g.weight; depth = g.depth }

line_adds : (c : Scope) (ls : List ℕ) (o : Option Stat) (n m : ℕ) (q : Seq) → AnyWithin c n o → SequenceWithin m q → SequenceWithin (n + m) (labelled_tree ls (option_map (stat_of c) o) q)
line_adds c ls None n m q h g = marks_weigh (n + m) ls q (record { weight = omega (arith, g.weight); depth = omega (arith, g.depth) })
line_adds c ls (Some x) n m q h g = marks_weigh (n + m) ls (Seq.Then (stat_of c x) q) (record { weight = omega (arith, h.weight, g.weight); depth = omega (arith, h.depth, g.depth) })

-- ---- statements of a sequence

pub order_counts : (xs : List Line) (ns : List ℕ) → AllGood xs ns → (s : Sight) (k : ℕ) (done : List Labelled) (t : Tally) → length (in_order s k done xs t).1.locals ≤ length t.locals + sum ns
order_counts [] [] h s k done t = omega arith
order_counts (x ∷ xs) (n ∷ ns) h s k done t =
    let o : Option Stat × Tally = x.part s t in
    omega (arith, h.0.counts s t, order_counts xs ns h.1 s (numbers_from [] k x.labels).1 (done ++ labelled (numbers_from [] k x.labels).0 o.0 ∷ []) o.1)
order_counts [] (n ∷ ns) h s k done t = absurd h
order_counts (x ∷ xs) [] h s k done t = absurd h

pub sequence_counts : (xs : List Line) (ns : List ℕ) → AllGood xs ns → (s : Sight) (t : Tally) → length (sequence s xs t).1.locals ≤ length t.locals + sum ns
sequence_counts xs ns h s t =
    let u : Names × Tally = labels_of [] (map labels_at xs) t in
    omega (arith, ap length (all_labels_keep [] (map labels_at xs) t), order_counts xs ns h (within u.0 s) t.labels [] u.1)

module _ (c : Scope) (a : Around c) where
  record OrderWithin (n : ℕ) (done result : List Labelled) : Type 0 where
    rows : List Labelled
    is : result ≡ done ++ rows
    within : SequenceWithin n (sequence_tree (map (line_of c) rows))

  order_within : (xs : List Line) (ns : List ℕ) → AllGood xs ns → (s : Sight) (seen : Seen) (k : ℕ) (done : List Labelled) (t : Tally) → Holds c s seen → Pre (in_order s k done xs t).1.locals c.locals
      → OrderWithin (sum ns) done (in_order s k done xs t).0
  order_within [] [] h s seen k done t g f = record { rows = []; is = sym (append-nil done); within = record { weight = omega arith; depth = omega arith } }
  order_within (x ∷ xs) (n ∷ ns) h s seen k done t g f =
      let o : Option Stat × Tally = x.part s t in
      let ls : List ℕ = (numbers_from [] k x.labels).0 in
      let after : ℕ = (numbers_from [] k x.labels).1 in
      let more : List Labelled = done ++ labelled ls o.0 ∷ [] in
      let one = h.0.within c a s seen t g (pre_then (grow_order s after more xs (all_grow xs ns h.1) o.1).locals f) in
      let go = order_within xs ns h.1 s seen after more o.1 g f in
      record {
        rows = labelled ls o.0 ∷ go.rows;
        is = go.is ∙ append_assoc done (labelled ls o.0 ∷ []) go.rows;
        within =
            subst (λ (w : Seq → Seq). SequenceWithin (n + sum ns) (w (sequence_tree (map (line_of c) go.rows)))) (sym (made_line c ls o.0))
            (line_adds c ls o.0 n (sum ns) (sequence_tree (map (line_of c) go.rows)) one go.within);
      }
  order_within [] (n ∷ ns) h s seen k done t g f = absurd h
  order_within (x ∷ xs) [] h s seen k done t g f = absurd h

  pub sequence_within : (xs : List Line) (ns : List ℕ) → AllGood xs ns → (s : Sight) (seen : Seen) (t : Tally) → Holds c s seen → Pre (sequence s xs t).1.locals c.locals
      → SequenceWithin (sum ns) (sequence_tree (map (line_of c) (sequence s xs t).0))
  sequence_within xs ns h s seen t g f =
      let end : ℕ = t.labels + own c (map labels_at xs) in
      let u : Names × Tally = labels_of [] (map labels_at xs) t in
      let all = all_labels_done c seen 0 end [] (map labels_at xs) t (omega arith) (omega arith) tt in
      let inside = holds_labelled c s seen 0 end u.0 g all.level in
      let go = order_within xs ns h (within u.0 s) (sight_with seen (labels_from 0 end)) t.labels [] u.1 inside f in
      subst (λ (rows : List Labelled). SequenceWithin (sum ns) (sequence_tree (map (line_of c) rows))) (sym go.is) go.within
