-- The statements of a sequence name locals where these have a value, and its labels stand in it.
use Rattle.std.proofs.Common.{◌≡◌, ◌⊎◌, inl, inr, ℕ, zero, suc, ◌+◌, ◌<◌, ◌≤◌, List, [], ◌∷◌, ◌++◌, length, map, Option, Some, None, option_map, append_assoc, arith, refl, sym, ap, ◌∙◌, subst}
use Rattle.std.proofs.lemmas.List.{append-nil}
use Rattle.rt_grammar.specs.declared.at.Ident.{Ident}
use Rattle.rt_tree_nodes.specs.declared.statement.Labelled.{Labelled}
use Rattle.rt_tree_nodes.specs.declared.statement.Stat.{Stat}
use Rattle.rt_tree_nodes.specs.Scopes.{Scope}
use Rattle.rt_tree_nodes.specs.Tree.{Stmt, Keep, Clear, Put, Run, Toss, Goto, GiveBack, Back, Switch, Inner, If, For, To, While, Recover, Seq, Then}
use Rattle.rt_exprs.specs.declared.scope.Meaning.TheVariants as meaning
use Rattle.rt_tree.specs.Statements.{marks, labelled_tree, sequence_tree}
use Rattle.rt_check_bodies.specs.declared.tally.Tally.{Tally}
use Rattle.rt_check_bodies.specs.Parts.{label_more, labels_more, numbers_from, behind as number_behind}
use Rattle.rt_exprs.specs.Sights.{Names, Sight, holds, within}
use Rattle.rt_check_bodies.specs.Statements.{Line, labels_of, labels_at, labelled, in_order, sequence}
use Rattle.rt_bricks_laws.specs.Bodies.{sum}
use Rattle.rt_check_bodies_laws.proofs.Growing.{LineGrows, LinesGrow, grow_order}
use Rattle.rt_check_bodies_laws.proofs.Sequences.{Fine, fine_before}
use Rattle.rt_check_bodies_laws.proofs.Made.{stat_of, line_of, made_line}
use Rattle.rt_meaning_laws.specs.Trees.{Started, Within, behind}
use Rattle.rt_meaning_laws.specs.Named.{any_name, StmtNamed, SeqNamed}
use Rattle.rt_meaning_laws.proofs.Locals.{within_self, within_more}
use Rattle.rt_meaning_sound.proofs.Good.{Zeroed, noted_labels}
use Rattle.rt_meaning_sound.proofs.Seen.{IsSeen, LevelHas, declared_has, Sees, sees_within}
use Rattle.rt_meaning_sound.proofs.Sets.{Sets, AllAt, Made, below_or, made_alone, made_counted, made_then, made_labelled}
use Rattle.rt_meaning_sound.proofs.Standing.{StandsIn, StandsInside, stands_first, stands_later, up_from, stands_marked, stands_own}

-- ---- trees

pub within_behind : (v : Started) (a : Stmt) → Within v (behind v a)
within_behind v (Keep i x) = within_more v i
within_behind v (Clear i) = within_self v
within_behind v (Put m p x) = within_self v
within_behind v (Run x) = within_self v
within_behind v (Toss x) = within_self v
within_behind v (Goto l) = within_self v
within_behind v (GiveBack x) = within_self v
within_behind v Back = within_self v
within_behind v (Switch x ls) = within_self v
within_behind v (Inner q) = within_self v
within_behind v (If t a b) = within_self v
within_behind v (For i x y z q) = within_self v
within_behind v (To i x q) = within_self v
within_behind v (While t q) = within_self v
within_behind v (Recover l) = within_self v

module _ (at : Sets) (v : Started) where
  pub then_named : (a : Stmt) (q : Seq) → StmtNamed any_name at v a → SeqNamed any_name at v q → SeqNamed any_name at v (Then a q)
  then_named a q h g = (h, (v, within_self v, within_behind v a, g))

  marks_named : (k n : ℕ) (q : Seq) → AllAt at k n v → SeqNamed any_name at v q → SeqNamed any_name at v (marks (up_from k n) q)
  marks_named k zero q h g = g
  marks_named k (suc n) q h g = (v, h k (omega arith) (omega arith), within_self v, within_self v, marks_named (suc k) n q (λ l x y. h l (omega (arith, x)) (omega (arith, y))) g)

-- ---- labels

-- the number behind a label
next_number : (l : Names) (n : Ident) (t : Tally) → t.labels + 1 < 65536 → (label_more l n t).1.labels ≡ suc t.labels
next_number l n t b = ap number_behind (noted_labels (holds l n.name) _ t) ∙ omega arith

labels_count : (l : Names) (ns : List Ident) (t : Tally) → t.labels + length ns < 65536 → (labels_more l ns t).1.labels ≡ t.labels + length ns
labels_count l [] t b = omega arith
labels_count l (n ∷ ns) t b =
    let u : Names × Tally = label_more l n t in
    let next = next_number l n t (omega (arith, b)) in
    labels_count u.0 ns u.1 (omega (arith, b, next)) ∙ omega (arith, next)

-- how many labels the statements have
abbrev pub labels_on : List Line → ℕ
labels_on [] = 0
labels_on (x ∷ xs) = length x.labels + labels_on xs

all_labels_count : (l : Names) (xs : List Line) (t : Tally) → t.labels + labels_on xs < 65536 → (labels_of l (map labels_at xs) t).1.labels ≡ t.labels + labels_on xs
all_labels_count l [] t b = omega arith
all_labels_count l (x ∷ xs) t b =
    let u : Names × Tally = labels_more l x.labels t in
    let one = labels_count l x.labels t (omega (arith, b)) in
    all_labels_count u.0 xs u.1 (omega (arith, b, one)) ∙ omega (arith, one)

-- the names of so many labels from one on are seen where all of them have the set
module _ (at : Sets) (c : Scope) (v : Started) (first count : ℕ) (small : first + count < 65536) (h : AllAt at first count v) where
  labels_seen : (l : Names) (ns : List Ident) (t : Tally) → first ≤ t.labels → t.labels + length ns ≤ first + count → LevelHas (IsSeen at c v) l → LevelHas (IsSeen at c v) (labels_more l ns t).0
  labels_seen l [] t a b k = k
  labels_seen l (n ∷ ns) t a b k =
      let u : Names × Tally = label_more l n t in
      let next = next_number l n t (omega (arith, b, small)) in
      labels_seen u.0 ns u.1 (omega (arith, a, next)) (omega (arith, b, next))
      (declared_has (IsSeen at c v) n.name (meaning.Label t.labels) l k (tt, (v, h t.labels a (omega (arith, b)), within_self v)))

  all_labels_seen : (l : Names) (xs : List Line) (t : Tally) → first ≤ t.labels → t.labels + labels_on xs ≤ first + count → LevelHas (IsSeen at c v) l → LevelHas (IsSeen at c v) (labels_of l (map labels_at xs) t).0
  all_labels_seen l [] t a b k = k
  all_labels_seen l (x ∷ xs) t a b k =
      let u : Names × Tally = labels_more l x.labels t in
      let one = labels_count l x.labels t (omega (arith, b, small)) in
      all_labels_seen u.0 xs u.1 (omega (arith, a, one)) (omega (arith, b, one)) (labels_seen l x.labels t a (omega (arith, b)) k)

-- the numbers of the labels of one statement
numbers_are : (done : List ℕ) (k : ℕ) (ns : List Ident) → k + length ns < 65536 → ((numbers_from done k ns).0 ≡ done ++ up_from k (length ns)) × ((numbers_from done k ns).1 ≡ k + length ns)
numbers_are done k [] h = (sym (append-nil done), omega arith)
numbers_are done k (n ∷ ns) h =
    let next : number_behind k ≡ suc k = omega arith in
    let go = numbers_are (done ++ k ∷ []) (suc k) ns (omega (arith, h)) in
    let moved : numbers_from (done ++ k ∷ []) (number_behind k) ns ≡ numbers_from (done ++ k ∷ []) (suc k) ns = ap (λ (z : ℕ). numbers_from (done ++ k ∷ []) z ns) next in
    (ap (λ z. z.0) moved ∙ go.0 ∙ append_assoc done (k ∷ []) (up_from (suc k) (length ns)), ap (λ z. z.1) moved ∙ go.1 ∙ omega arith)

-- ---- statements with their labels

module _ (c : Scope) where
  -- a label stands inside the statement, where there is one
  abbrev pub AnyStands : Option Stat → ℕ → Type 0
  AnyStands None l = ⊥
  AnyStands (Some x) l = StandsInside (stat_of c x) l

  -- an empty statement names nothing
  abbrev pub AnyNamed : Sets → Started → Option Stat → Type 0
  AnyNamed at v None = Unit {0}
  AnyNamed at v (Some x) = StmtNamed any_name at v (stat_of c x)

  -- A statement with so many labels, its own and those inside it.
  pub record LineGood (x : Line) (n : ℕ) : Type 0 where
    pub inner : ℕ
    pub count : n ≡ length x.labels + inner
    pub grows : LineGrows x
    pub made : (s : Sight) (t : Tally) (v : Started) → Fine c (x.part s t).1 → t.labels + inner < 65536 → Zeroed c v
        → Made t.labels (x.part s t).1.labels inner (AnyStands (x.part s t).0) (λ at. Sees at c v s → AnyNamed at v (x.part s t).0)

  -- each statement has as many labels as its number says
  abbrev pub AllGood : List Line → List ℕ → Type 0
  AllGood [] [] = Unit {0}
  AllGood (x ∷ xs) (n ∷ ns) = LineGood x n × AllGood xs ns
  AllGood _ _ = ⊥

  pub all_grow : (xs : List Line) (ns : List ℕ) → AllGood xs ns → LinesGrow xs
  all_grow [] [] h = tt
  all_grow (x ∷ xs) (n ∷ ns) h = (h.0.grows, all_grow xs ns h.1)
  all_grow [] (n ∷ ns) h = absurd h
  all_grow (x ∷ xs) [] h = absurd h

  -- how many labels stand inside the statements
  inners : (xs : List Line) (ns : List ℕ) → AllGood xs ns → ℕ
  inners [] [] h = 0
  inners (x ∷ xs) (n ∷ ns) h = h.0.inner + inners xs ns h.1
  inners [] (n ∷ ns) h = absurd h
  inners (x ∷ xs) [] h = absurd h

  all_counted : (xs : List Line) (ns : List ℕ) (h : AllGood xs ns) → labels_on xs + inners xs ns h ≡ sum ns
  unfolding inners
  all_counted [] [] h = refl
  all_counted (x ∷ xs) (n ∷ ns) h = let e = all_counted xs ns h.1 in omega (arith, e, h.0.count)
  all_counted [] (n ∷ ns) h = absurd h
  all_counted (x ∷ xs) [] h = absurd h

  -- ---- the tree of one statement in front of others

  module _ (k n : ℕ) (q : Seq) where
    abbrev line_tree : Option Stat → Seq
    line_tree o = labelled_tree (up_from k n) (option_map (stat_of c) o) q

    line_inside : (o : Option Stat) (l : ℕ) → AnyStands o l → StandsIn (line_tree o) l
    line_inside None l h = absurd h
    line_inside (Some x) l h = stands_marked (up_from k n) (Then (stat_of c x) q) l (stands_first (stat_of c x) q l h)

    line_later : (o : Option Stat) (l : ℕ) → StandsIn q l → StandsIn (line_tree o) l
    line_later None l h = stands_marked (up_from k n) q l h
    line_later (Some x) l h = stands_marked (up_from k n) (Then (stat_of c x) q) l (stands_later (stat_of c x) q l h)

    line_own : (o : Option Stat) (l : ℕ) → k ≤ l → l < k + n → StandsIn (line_tree o) l
    line_own None l a b = stands_own k n q l a b
    line_own (Some x) l a b = stands_own k n (Then (stat_of c x) q) l a b

    line_named : (at : Sets) (v : Started) (o : Option Stat) → AllAt at k n v → AnyNamed at v o → SeqNamed any_name at v q → SeqNamed any_name at v (line_tree o)
    line_named at v None a h g = marks_named at v k n q a g
    line_named at v (Some x) a h g = marks_named at v k n (Then (stat_of c x) q) a (then_named at v (stat_of c x) q h g)

  -- ---- statements of a sequence

  abbrev pub rows_tree : List Labelled → Seq
  rows_tree rows = sequence_tree (map (line_of c) rows)

  -- What statements are behind those that are done: label k is the first of their own labels.
  record OrderMade (s : Sight) (v : Started) (k own inner : ℕ) (done : List Labelled) (t : Tally) (result : List Labelled × Tally) : Type 0 where
    rows : List Labelled
    is : result.0 ≡ done ++ rows
    stand : (l : ℕ) → k ≤ l → l < k + own → StandsIn (rows_tree rows) l
    made : Made t.labels result.1.labels inner (StandsIn (rows_tree rows)) (λ at. AllAt at k own v → Sees at c v s → SeqNamed any_name at v (rows_tree rows))

  -- a label of the statement, or of one behind it
  own_or_later : (k m own after : ℕ) (q : Seq) (o : Option Stat) → after ≡ k + m → ((l : ℕ) → after ≤ l → l < after + own → StandsIn q l) → (l : ℕ) → k ≤ l → l < k + (m + own) → (l < k + m) ⊎ (k + m ≤ l) → StandsIn (line_tree k m q o) l
  own_or_later k m own after q o e h l x y (inl p) = line_own k m q o l x p
  own_or_later k m own after q o e h l x y (inr p) = line_later k m q o l (h l (omega (arith, p, e)) (omega (arith, y, e)))

  order_made : (xs : List Line) (ns : List ℕ) (h : AllGood xs ns) (s : Sight) (v : Started) (k : ℕ) (done : List Labelled) (t : Tally) → Fine c (in_order s k done xs t).1 → k + labels_on xs < 65536 → t.labels + inners xs ns h < 65536 → Zeroed c v
      → OrderMade s v k (labels_on xs) (inners xs ns h) done t (in_order s k done xs t)
  unfolding inners
  order_made [] [] h s v k done t f a b z = record {
    rows = [];
    is = sym (append-nil done);
    stand = λ l x y. absurd (let bad : suc l ≤ l = omega (arith, x, y) in omega (arith, bad));
    made = made_alone t.labels t.labels refl (λ at g e. tt);
  }
  order_made (x ∷ xs) (n ∷ ns) h s v k done t f a b z =
      let o : Option Stat × Tally = x.part s t in
      let m : ℕ = length x.labels in
      let number = numbers_are [] k x.labels (omega (arith, a)) in
      let ls : List ℕ = (numbers_from [] k x.labels).0 in
      let after : ℕ = (numbers_from [] k x.labels).1 in
      let more : List Labelled = done ++ labelled ls o.0 ∷ [] in
      let fine : Fine c o.1 = fine_before c (grow_order s after more xs (all_grow xs ns h.1) o.1) f in
      let one = h.0.made s t v fine (omega (arith, b)) z in
      let go = order_made xs ns h.1 s v after more o.1 f (omega (arith, a, number.1)) (omega (arith, b, one.labels)) z in
      let q : Seq = rows_tree go.rows in
      let is : line_of c (labelled ls o.0) q ≡ line_tree k m q o.0 = ap (λ (w : Seq → Seq). w q) (made_line c ls o.0) ∙ ap (λ (w : List ℕ). labelled_tree w (option_map (stat_of c) o.0) q) number.0 in
      record {
        rows = labelled ls o.0 ∷ go.rows;
        is = go.is ∙ append_assoc done (labelled ls o.0 ∷ []) go.rows;
        stand = λ l x y. subst (λ (w : Seq). StandsIn w l) (sym is)
            (own_or_later k m (labels_on xs) after q o.0 number.1 go.stand l x y (below_or l (k + m)));
        made = subst (λ (w : Seq). Made t.labels (in_order s after more xs o.1).1.labels (h.0.inner + inners xs ns h.1) (StandsIn w) (λ at. AllAt at k (m + labels_on xs) v → Sees at c v s → SeqNamed any_name at v w)) (sym is)
            (made_then t.labels o.1.labels _ h.0.inner (inners xs ns h.1) one go.made (λ l p. line_inside k m q o.0 l p) (λ l p. line_later k m q o.0 l p)
            (λ at p r g e. line_named k m q at v o.0 (λ l x y. g l x (omega (arith, y))) (p e) (r (λ l x y. g l (omega (arith, x, number.1)) (omega (arith, y, number.1))) e)));
      }
  order_made [] (n ∷ ns) h s v k done t f a b z = absurd h
  order_made (x ∷ xs) [] h s v k done t f a b z = absurd h

  -- a sequence with so many labels, its own and those inside it
  pub sequence_made : (xs : List Line) (ns : List ℕ) → AllGood xs ns → (s : Sight) (t : Tally) (v : Started) → Fine c (sequence s xs t).1 → t.labels + sum ns < 65536 → Zeroed c v
      → Made t.labels (sequence s xs t).1.labels (sum ns) (StandsIn (rows_tree (sequence s xs t).0)) (λ at. Sees at c v s → SeqNamed any_name at v (rows_tree (sequence s xs t).0))
  sequence_made xs ns h s t v f b z =
      let u : Names × Tally = labels_of [] (map labels_at xs) t in
      let whole = all_counted xs ns h in
      let count = all_labels_count [] xs t (omega (arith, b, whole)) in
      let go = order_made xs ns h (within u.0 s) v t.labels [] u.1 f (omega (arith, b, whole)) (omega (arith, b, whole, count)) z in
      subst (λ (rows : List Labelled). Made t.labels (sequence s xs t).1.labels (sum ns) (StandsIn (rows_tree rows)) (λ at. Sees at c v s → SeqNamed any_name at v (rows_tree rows))) (sym go.is)
      (made_counted t.labels _ (labels_on xs + inners xs ns h) (sum ns) whole
      (made_labelled t.labels u.1.labels _ (labels_on xs) (inners xs ns h) v count go.made go.stand (λ l p. p)
      (λ at g p e. p g (sees_within at c v s u.0 e (all_labels_seen at c v t.labels (labels_on xs) (omega (arith, b, whole)) g [] xs t (omega arith) (omega arith) tt)))))
