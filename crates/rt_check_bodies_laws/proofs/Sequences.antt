-- A sequence in which no fault stands fits, where each of its statements does.
use Rattle.std.proofs.Common.{◌≡◌, ℕ, suc, ◌+◌, ◌<◌, ◌≤◌, ◌==◌, Bool, true, false, List, [], ◌∷◌, ◌++◌, length, map, Option, Some, None, option_map, Ok, Err, arith, append_assoc, refl, sym, ap, ◌∙◌, subst}
use Rattle.std.specs.Prelude.{slice_get}
use Rattle.std.proofs.lemmas.List.{append-nil}
use Rattle.std.proofs.lemmas.Bool.Decides.{nat_tests}
use Rattle.rt_grammar.specs.declared.at.Ident.{Ident}
use Rattle.rt_modes.specs.declared.mode.Mode.{Mode}
use Rattle.rt_tree_nodes.specs.declared.statement.Body.{Body}
use Rattle.rt_tree_nodes.specs.declared.statement.Branch.{Branch}
use Rattle.rt_tree_nodes.specs.declared.statement.Labelled.{Labelled, out-Labelled, roll-Labelled, map-Labelled}
use Rattle.rt_tree_nodes.specs.declared.statement.Labelled as labelled_lemmas
use Rattle.rt_tree_nodes.specs.declared.statement.Stat.{Stat}
use Rattle.rt_tree_nodes.specs.declared.statement.Stat.TheFolds.{fold_out-Labelled}
use Rattle.rt_tree_nodes.specs.declared.statement.Stat.TheOpen.{Labelled-F}
use Rattle.rt_tree_nodes.specs.Scopes.{Scope, with}
use Rattle.rt_check_faults.specs.declared.fault.CheckFault.{CheckFault}
use Rattle.rt_check_faults.specs.declared.fault.CheckFault.TheVariants as fault
use Rattle.rt_exprs.specs.declared.scope.Meaning.TheVariants as meaning
use Rattle.rt_check_faults.specs.Outcomes.{Outcome, is_unknown}
use Rattle.rt_tree.specs.Statements as tree
use Rattle.rt_tree.specs.Statements.{Sight as Seen, Part as Fitting, Marked, next_by, counted, labels_end, labels_from, sight_with, stat_part, marked, marked_part}
use Rattle.rt_check_bodies.specs.declared.tally.Tally.{Tally}
use Rattle.rt_check_bodies.specs.Parts.{found_or, mode_or, noted_known, noted_if, noted_twice, with_label, behind, labels_more, numbers_from}
use Rattle.rt_exprs.specs.Sights.{Names, Sight, holds, declared, within}
use Rattle.rt_check_bodies.specs.declared.answer.Answer.{Answer}
use Rattle.rt_check_bodies.specs.Statements.{Line, labels_of, labels_at, labelled, in_order, sequence}
use Rattle.rt_check_bodies_laws.proofs.Growing.{Pre, pre_then, pre_none, Grew, LineGrows, LinesGrow, grow_order}
use Rattle.rt_check_bodies_laws.specs.Held.{IsKnown, LevelHolds, ResultIs}
use Rattle.rt_check_bodies_laws.proofs.Knowing.{Certain}
use Rattle.rt_check_bodies_laws.proofs.Each.{all_labels_each}
use Rattle.rt_check_bodies_laws.proofs.Holding.{Shown, shown_labelled, declared_holds, label_of}

-- ---- lists that go on

length_joined : {A : Type 0} (xs ys : List A) → length (xs ++ ys) ≡ length xs + length ys
length_joined [] ys = omega arith
length_joined (x ∷ xs) ys = omega (arith, length_joined xs ys)

pub one_longer : {A : Type 0} (xs : List A) (x : A) → length (xs ++ x ∷ []) ≡ suc (length xs)
one_longer [] x = refl
one_longer (y ∷ ys) x = ap suc (one_longer ys x)

pub pre_length : {A : Type 0} {xs ys : List A} → Pre xs ys → length xs ≤ length ys
pre_length {xs = xs} {ys = ys} p = let e : length ys ≡ length xs + length p.more = ap length p.is ∙ length_joined xs p.more in omega (arith, e)

get_behind : {A : Type 0} (xs : List A) (x : A) (zs : List A) → slice_get ((xs ++ x ∷ []) ++ zs) (length xs) ≡ Some x
get_behind [] x zs = refl
get_behind (y ∷ ys) x zs = get_behind ys x zs

pub pre_get : {A : Type 0} (xs : List A) (x : A) (ys : List A) → Pre (xs ++ x ∷ []) ys → slice_get ys (length xs) ≡ Some x
pre_get xs x ys p = ap (λ z. slice_get z (length xs)) p.is ∙ get_behind xs x p.more

-- ---- what is found without a fault

pub record Settled {A : Type 0} (other : A) (o : Outcome A) (t : Tally) : Type 0 where
  pub value : A
  pub is : o ≡ Ok value
  pub gives : found_or other o t ≡ (value, t)

pub one_is_there : {A : Type 0} (xs : List A) (x : A) → xs ++ x ∷ [] ≡ [] → ⊥
one_is_there [] x e = cc
one_is_there (y ∷ ys) x e = cc

-- a fault is noted
noted_there : (g : CheckFault) (t : Tally) → is_unknown g ≡ false → (noted_known g t).faults ≡ [] → ⊥
noted_there fault.Unknown t n h = cc
noted_there fault.Memory t n h = one_is_there t.faults fault.Memory h
noted_there (fault.UnknownName at) t n h = one_is_there t.faults (fault.UnknownName at) h
noted_there (fault.WrongMode at) t n h = one_is_there t.faults (fault.WrongMode at) h
noted_there (fault.NotAssignable at) t n h = one_is_there t.faults (fault.NotAssignable at) h
noted_there (fault.WrongCount at) t n h = one_is_there t.faults (fault.WrongCount at) h
noted_there (fault.RefOfLocal at) t n h = one_is_there t.faults (fault.RefOfLocal at) h
noted_there (fault.LeftOut form at) t n h = one_is_there t.faults (fault.LeftOut form at) h
noted_there (fault.DeclaredTwice at) t n h = one_is_there t.faults (fault.DeclaredTwice at) h
noted_there (fault.BadStart at) t n h = one_is_there t.faults (fault.BadStart at) h
noted_there (fault.UnknownLabel at) t n h = one_is_there t.faults (fault.UnknownLabel at) h
noted_there (fault.NoResult at) t n h = one_is_there t.faults (fault.NoResult at) h

pub settled : {A : Type 0} (other : A) (o : Outcome A) (t : Tally) → Certain o → (found_or other o t).1.faults ≡ [] → Settled other o t
settled other (Ok x) t n h = record { value = x; is = refl; gives = refl }
settled other (Err g) t n h = absurd (noted_there g t n h)

pub record ModeFound (o : Outcome Mode) (t : Tally) : Type 0 where
  pub mode : Mode
  pub is : o ≡ Ok mode
  pub gives : mode_or o t ≡ (Ok mode, t)

pub mode_found : (o : Outcome Mode) (t : Tally) → (mode_or o t).1.faults ≡ [] → ModeFound o t
mode_found (Ok m) t f = record { mode = m; is = refl; gives = refl }
mode_found (Err g) t f = absurd (one_is_there t.faults g f)

-- ---- numbers of labels

pub record Numbered (done : List ℕ) (k : ℕ) (ns : List Ident) : Type 0 where
  pub numbers : List ℕ
  pub is : (numbers_from done k ns).0 ≡ done ++ numbers
  pub counts : counted k numbers ≡ Some (k + length ns)
  pub next : (numbers_from done k ns).1 ≡ k + length ns

same_number : (k : ℕ) → (k == k) ≡ true
same_number k = grind (arith, nat_tests)

numbered : (done : List ℕ) (k : ℕ) (ns : List Ident) → k + length ns < 65536 → Numbered done k ns
numbered done k [] h = record { numbers = []; is = sym (append-nil done); counts = ap (λ (z : ℕ). Some z) (omega arith); next = omega arith }
numbered done k (n ∷ ns) h =
    let next_is : behind k ≡ suc k = omega arith in
    let go = numbered (done ++ k ∷ []) (suc k) ns (omega (arith, h)) in
    let moved : numbers_from (done ++ k ∷ []) (behind k) ns ≡ numbers_from (done ++ k ∷ []) (suc k) ns = ap (λ (z : ℕ). numbers_from (done ++ k ∷ []) z ns) next_is in
    record {
      numbers = k ∷ go.numbers;
      is = ap (λ z. z.0) moved ∙ go.is ∙ append_assoc done (k ∷ []) go.numbers;
      counts = rw (same_number k) (go.counts ∙ ap (λ (z : ℕ). Some z) (omega arith));
      next = ap (λ z. z.1) moved ∙ go.next ∙ omega arith;
    }

module _ (c : Scope) where
  -- no fault is noted, and the locals are the first ones of the procedure's
  pub record Fine (t : Tally) : Type 0 where
    pub none : t.faults ≡ []
    pub known : Pre t.locals c.locals

  pub fine_before : {t u : Tally} → Grew t u → Fine u → Fine t
  fine_before {t = t} {u = u} g f = record { none = pre_none t.faults u.faults f.none g.faults; known = pre_then g.locals f.known }

  -- a part fits, and what comes next before and behind it is what has been counted
  abbrev pub Goes : Fitting → Seen → Tally → Tally → Type 0
  Goes p seen t u = p seen (next_by t.labels (length t.locals)) ≡ Some (next_by u.labels (length u.locals))

  -- ---- the labels of a sequence

  pub record LabelsDone (seen : Seen) (first end : ℕ) (t : Tally) (count : ℕ) (l : Names) (u : Tally) : Type 0 where
    pub labels : u.labels ≡ t.labels + count
    pub locals : u.locals ≡ t.locals
    pub level : LevelHolds c (sight_with seen (labels_from first end)) l

  noted_labels : (b : Bool) (g : CheckFault) (t : Tally) → (noted_if b g t).labels ≡ t.labels
  noted_labels true g t = refl
  noted_labels false g t = refl

  noted_locals : (b : Bool) (g : CheckFault) (t : Tally) → (noted_if b g t).locals ≡ t.locals
  noted_locals true g t = refl
  noted_locals false g t = refl

  labels_done : (seen : Seen) (first end : ℕ) (l : Names) (ns : List Ident) (t : Tally) → first ≤ t.labels → t.labels + length ns ≤ end → LevelHolds c (sight_with seen (labels_from first end)) l
      → LabelsDone seen first end t (length ns) (labels_more l ns t).0 (labels_more l ns t).1
  labels_done seen first end l [] t a b v = record { labels = omega arith; locals = refl; level = v }
  labels_done seen first end l (n ∷ ns) t a b v =
      let u : Tally = with_label (noted_twice l n t) in
      let next_is : u.labels ≡ suc t.labels = ap behind (noted_labels (holds l n.name) _ t) ∙ omega arith in
      let entry = label_of c first end t.labels seen n.name a (omega (arith, b)) in
      let go = labels_done seen first end (declared n.name (meaning.Label t.labels) l) ns u (omega (arith, a, next_is)) (omega (arith, b, next_is)) (declared_holds c (sight_with seen (labels_from first end)) n.name (meaning.Label t.labels) l v entry) in
      record { labels = go.labels ∙ omega (arith, next_is); locals = go.locals ∙ noted_locals (holds l n.name) _ t; level = go.level }

  abbrev pub own : List (List Ident) → ℕ
  own [] = 0
  own (ns ∷ nss) = length ns + own nss

  pub all_labels_done : (seen : Seen) (first end : ℕ) (l : Names) (nss : List (List Ident)) (t : Tally) → first ≤ t.labels → t.labels + own nss ≤ end → LevelHolds c (sight_with seen (labels_from first end)) l
      → LabelsDone seen first end t (own nss) (labels_of l nss t).0 (labels_of l nss t).1
  all_labels_done seen first end l [] t a b v = record { labels = omega arith; locals = refl; level = v }
  all_labels_done seen first end l (ns ∷ nss) t a b v =
      let d = labels_done seen first end l ns t a (omega (arith, b)) v in
      let u : Names × Tally = labels_more l ns t in
      let go = all_labels_done seen first end u.0 nss u.1 (omega (arith, a, d.labels)) (omega (arith, b, d.labels)) d.level in
      record { labels = go.labels ∙ omega (arith, d.labels); locals = go.locals ∙ d.locals; level = go.level }

  -- ---- statements of a sequence

  module _ (r : Answer) where
    -- a statement with its labels, in which so many labels stand inside
    pub record Known : Type 0 where
      pub line : Line
      pub inner : ℕ
      pub grows : LineGrows line
      pub fits : (s : Sight) (seen : Seen) (t : Tally) → Shown c s seen → ResultIs r seen.result → Fine (line.part s t).1 → t.labels + inner < 65536
          → Goes (marked_part c (option_map (stat_part c) (line.part s t).0)) seen t (line.part s t).1 × ((line.part s t).1.labels ≡ t.labels + inner)

    abbrev pub lines : List Known → List Line
    lines [] = []
    lines (k ∷ ks) = k.line ∷ lines ks

    abbrev pub inner_labels : List Known → ℕ
    inner_labels [] = 0
    inner_labels (k ∷ ks) = k.inner + inner_labels ks

    pub lines_grow : (ks : List Known) → LinesGrow (lines ks)
    lines_grow [] = tt
    lines_grow (k ∷ ks) = (k.grows, lines_grow ks)

    row_at : (x : Labelled) (l : Labelled-F Stat Body Branch Labelled) → out-Labelled x ≡ l
        → marked c x ≡ tree.one_labelled c (map-Labelled Stat Body Branch Labelled Fitting Fitting Fitting Marked (stat_part c) (tree.body_part c) (tree.branch_part c) (marked c) l)
    row_at x l o = rw (fold_out-Labelled, o) refl

    rolled : (l : Labelled-F Stat Body Branch Labelled) → out-Labelled (roll-Labelled l) ≡ l
    rolled l = search labelled_lemmas.the_lemmas

    marked_is : (ls : List ℕ) (o : Option Stat) → marked c (labelled ls o) ≡ record { labels = ls; part = marked_part c (option_map (stat_part c) o) }
    marked_is ls None = row_at (labelled ls None) (record { labels = ls; stat = None }) (rolled (record { labels = ls; stat = None }))
    marked_is ls (Some x) = row_at (labelled ls (Some x)) (record { labels = ls; stat = Some x }) (rolled (record { labels = ls; stat = Some x }))

    pub record OrderFits (ks : List Known) (seen : Seen) (k : ℕ) (done : List Labelled) (t : Tally) (result : List Labelled × Tally) : Type 0 where
      pub rows : List Labelled
      pub is : result.0 ≡ done ++ rows
      pub ends : labels_end k (map (marked c) rows) ≡ Some (k + own (map labels_at (lines ks)))
      pub goes : Goes (tree.in_order (map (marked c) rows)) seen t result.1
      pub labels : result.1.labels ≡ t.labels + inner_labels ks

    order_fits : (ks : List Known) (s : Sight) (seen : Seen) (k : ℕ) (done : List Labelled) (t : Tally) → Shown c s seen → ResultIs r seen.result → Fine (in_order s k done (lines ks) t).1
        → k + own (map labels_at (lines ks)) < 65536 → t.labels + inner_labels ks < 65536 → OrderFits ks seen k done t (in_order s k done (lines ks) t)
    order_fits [] s seen k done t h q f a b = record { rows = []; is = sym (append-nil done); ends = ap (λ (z : ℕ). Some z) (omega arith); goes = refl; labels = omega arith }
    order_fits (x ∷ ks) s seen k done t h q f a b =
        let o : Option Stat × Tally = x.line.part s t in
        let number = numbered [] k x.line.labels (omega (arith, a)) in
        let ls : List ℕ = (numbers_from [] k x.line.labels).0 in
        let after : ℕ = (numbers_from [] k x.line.labels).1 in
        let more : List Labelled = done ++ labelled ls o.0 ∷ [] in
        let fine : Fine o.1 = fine_before (grow_order s after more (lines ks) (lines_grow ks) o.1) f in
        let one = x.fits s seen t h q fine (omega (arith, b)) in
        let go = order_fits ks s seen after more o.1 h q f (omega (arith, a, number.next)) (omega (arith, b, one.1)) in
        let counts : counted k ls ≡ Some (k + length x.line.labels) = ap (counted k) number.is ∙ number.counts in
        let ends_on : labels_end (k + length x.line.labels) (map (marked c) go.rows) ≡ Some (k + length x.line.labels + own (map labels_at (lines ks))) =
        subst (λ (z : ℕ). labels_end z (map (marked c) go.rows) ≡ Some (z + own (map labels_at (lines ks)))) number.next go.ends in
        record {
          rows = labelled ls o.0 ∷ go.rows;
          is = go.is ∙ append_assoc done (labelled ls o.0 ∷ []) go.rows;
          ends = ap (λ (m : Marked). with (counted k m.labels) (λ e. labels_end e (map (marked c) go.rows))) (marked_is ls o.0) ∙ rw counts (ends_on ∙ ap (λ (z : ℕ). Some z) (omega arith));
          goes = ap (λ (m : Marked). with (m.part seen (next_by t.labels (length t.locals))) (tree.in_order (map (marked c) go.rows) seen)) (marked_is ls o.0) ∙ rw one.0 go.goes;
          labels = go.labels ∙ omega (arith, one.1);
        }

    -- all labels of a sequence, and inside it
    abbrev pub total : List Known → ℕ
    total ks = own (map labels_at (lines ks)) + inner_labels ks

    pub sequence_fits : (ks : List Known) (s : Sight) (seen : Seen) (t : Tally) → Shown c s seen → ResultIs r seen.result → Fine (sequence s (lines ks) t).1 → t.labels + total ks < 65536
        → Goes (tree.sequence (map (marked c) (sequence s (lines ks) t).0)) seen t (sequence s (lines ks) t).1 × ((sequence s (lines ks) t).1.labels ≡ t.labels + total ks)
    sequence_fits ks s seen t h q f b =
        let nss : List (List Ident) = map labels_at (lines ks) in
        let end : ℕ = t.labels + own nss in
        let u : Names × Tally = labels_of [] nss t in
        let d = all_labels_done seen t.labels end [] nss t (omega arith) (omega arith) tt in
        let inside = shown_labelled c s seen t.labels end u.0 h d.level (all_labels_each IsKnown (λ k. tt) [] nss t tt) in
        let go = order_fits ks (within u.0 s) (sight_with seen (labels_from t.labels end)) t.labels [] u.1 inside q f (omega (arith, b)) (omega (arith, b, d.labels)) in
        let rows_are : (sequence s (lines ks) t).0 ≡ go.rows = go.is in
        let start : next_by end (length t.locals) ≡ next_by u.1.labels (length u.1.locals) = rw (d.labels, d.locals) refl in (
          ap (λ (xs : List Labelled). tree.sequence (map (marked c) xs) seen (next_by t.labels (length t.locals))) rows_are
              ∙ rw go.ends (ap (λ z. tree.in_order (map (marked c) go.rows) (sight_with seen (labels_from t.labels end)) z) start ∙ go.goes),
          go.labels ∙ omega (arith, d.labels),
        )
