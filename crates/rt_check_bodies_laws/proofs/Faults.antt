-- What stands in a procedure is never what can't be known.
use Rattle.std.proofs.Common.{◌≡◌, ℕ, not, ◌&&◌, Bool, true, false, List, [], ◌∷◌, ◌++◌, map, Option, Some, None, Ok, Err, inl, inr, refl, sym, ◌∙◌, subst}
use Rattle.std.specs.List.{AllByRecursion}
use Rattle.rt_grammar.specs.declared.at.At.{At}
use Rattle.rt_grammar.specs.declared.at.Ident.{Ident}
use Rattle.rt_syntax_exprs.specs.declared.tree.BasicMode.{BasicMode}
use Rattle.rt_syntax_exprs.specs.declared.tree.BasicMode.TheVariants as basic_mode
use Rattle.rt_syntax_exprs.specs.declared.tree.Cond.{Cond}
use Rattle.rt_syntax_exprs.specs.declared.tree.Expr.{Expr}
use Rattle.rt_syntax_exprs.specs.declared.tree.WrittenMode.{WrittenMode, out-WrittenMode, roll-WrittenMode, map-WrittenMode}
use Rattle.rt_syntax_exprs.specs.declared.tree.WrittenMode as written_lemmas
use Rattle.rt_syntax_exprs.specs.declared.tree.WrittenMode.TheFolds.{ind-WrittenMode, fold_out-WrittenMode}
use Rattle.rt_syntax_exprs.specs.declared.tree.WrittenMode.TheOpen.{WrittenMode-F}
use Rattle.rt_modes.specs.declared.mode.Mode.{Mode}
use Rattle.rt_modes.specs.declared.mode.Mode.TheVariants as mode
use Rattle.rt_syntax.specs.declared.tree.Body.{Body, out-Body, roll-Body, map-Body}
use Rattle.rt_syntax.specs.declared.tree.Body as body_lemmas
use Rattle.rt_syntax.specs.declared.tree.Branch.{Branch, out-Branch, roll-Branch, map-Branch}
use Rattle.rt_syntax.specs.declared.tree.Branch as branch_lemmas
use Rattle.rt_syntax.specs.declared.tree.Control.{Control}
use Rattle.rt_syntax.specs.declared.tree.Local.{Local}
use Rattle.rt_syntax.specs.declared.tree.Locals.{Locals}
use Rattle.rt_syntax.specs.declared.tree.Simple.{Simple, out-Simple, roll-Simple, map-Simple}
use Rattle.rt_syntax.specs.declared.tree.Simple as simple_lemmas
use Rattle.rt_syntax.specs.declared.tree.Simple.TheFolds.{ind-Body, fold_out-Simple, fold_out-Body, fold_out-Branch, fold_out-Stmt}
use Rattle.rt_syntax.specs.declared.tree.Simple.TheOpen.{Simple-F, Body-F, Branch-F, Stmt-F}
use Rattle.rt_syntax.specs.declared.tree.Stmt.{Stmt, out-Stmt, roll-Stmt, map-Stmt}
use Rattle.rt_syntax.specs.declared.tree.Stmt as stmt_lemmas
use Rattle.rt_bricks.specs.declared.tree.Fields.{Fields}
use Rattle.rt_tree_nodes.specs.declared.statement.Body.{Body as BodyMade}
use Rattle.rt_tree_nodes.specs.declared.statement.Branch.{Branch as BranchMade}
use Rattle.rt_tree_nodes.specs.declared.statement.Labelled.{Labelled}
use Rattle.rt_tree_nodes.specs.declared.statement.Stat.{Stat}
use Rattle.rt_tree_nodes.specs.declared.statement.Stat.TheVariants as stats
use Rattle.rt_tree_nodes.specs.declared.statement.Test.{Test}
use Rattle.rt_tree_nodes.specs.declared.value.Value.{Value}
use Rattle.rt_tree_nodes.specs.declared.value.Value.TheVariants as values
use Rattle.rt_tree.specs.Statements.{closed}
use Rattle.rt_check_faults.specs.declared.fault.CheckFault.{CheckFault}
use Rattle.rt_check_faults.specs.declared.fault.CheckFault.TheVariants as fault
use Rattle.rt_exprs.specs.declared.scope.Meaning.{Meaning}
use Rattle.rt_exprs.specs.declared.scope.Meaning.TheVariants as meaning
use Rattle.rt_exprs.specs.Names.{find}
use Rattle.rt_check_faults.specs.Outcomes.{Outcome, is_unknown}
use Rattle.rt_check_declared.specs.declared.site.Site.{Site}
use Rattle.rt_check_declared.specs.declared.site.Site.TheVariants as site
use Rattle.rt_check_declared.specs.declared.written.Resolved.{Resolved}
use Rattle.rt_check_declared.specs.declared.written.Resolved.TheVariants as resolved
use Rattle.rt_check_declared.specs.Verdicts.{Verdict, fit, unfit, ◌>>=◌, both, after, all_from, first_of, outcome, IsIn}
use Rattle.rt_check_declared.specs.Written.{Names as Seen, Anywhere, record_at, named as named_by, basic, array_at, argument, procedure, judge, judged, counted, written}
use Rattle.rt_check_bodies.specs.declared.answer.Answer.{Answer}
use Rattle.rt_check_bodies.specs.declared.plain.Bounds.{Bounds}
use Rattle.rt_check_bodies.specs.declared.tally.Tally.{Tally}
use Rattle.rt_check_bodies.specs.Parts.{Part, noted, noted_known, noted_if, noted_twice, found_or, label_or, test_or, mode_or, three_locals, label_more, labels_more, labels_in, numbers_from}
use Rattle.rt_check_bodies.specs.Procedures.{named, group, parameters, answer_in, is_wanted, closed_at, nothing_yet}
use Rattle.rt_exprs.specs.Sights.{Names, Sight, holds, innermost, within}
use Rattle.rt_check_bodies.specs.Sights.{alone_in, value_in, assignment_in, val_assignment_in, call_in, test_in, label_in, variable_by, mode_in}
use Rattle.rt_check_bodies.specs.Statements as spec
use Rattle.rt_check_bodies.specs.Statements.{Line, Declared, JudgedStat, JudgedBody, JudgedBranch, labels_of, labels_at, labelled, in_order, sequence, start_in, start_alone, local_more, locals_more, line_more, declarations, before, branches, bounds_in, variable_of, for_loop, to_loop, int_in, any_int_in, returned}
use Rattle.rt_check_bodies_laws.specs.Faults.{FaultsAreKnown}
use Rattle.rt_check_bodies_laws.proofs.Knowing.{Certain, then_certain}
use Rattle.rt_check_bodies_laws.proofs.Real.{real_left}

-- none of them is what can't be known
abbrev pub AreKnown : List CheckFault → Type 0
AreKnown = AllByRecursion (λ g. is_unknown g ≡ false)

pub one_of : (gs : List CheckFault) (g : CheckFault) → AreKnown gs → IsIn g gs → is_unknown g ≡ false
one_of [] g h i = absurd i
one_of (x ∷ xs) g h i = elim i [
  | inl e ↦ rw e h.0
  | inr j ↦ one_of xs g h.1 j
]

one_more : (gs : List CheckFault) (g : CheckFault) → AreKnown gs → is_unknown g ≡ false → AreKnown (gs ++ g ∷ [])
one_more [] g h n = (n, tt)
one_more (x ∷ xs) g h n = (h.0, one_more xs g h.1 n)

joined : (fs gs : List CheckFault) (g : CheckFault) → AreKnown fs → is_unknown g ≡ false → AreKnown gs → AreKnown (fs ++ g ∷ gs)
joined [] gs g h n k = (n, k)
joined (x ∷ xs) gs g h n k = (h.0, joined xs gs g h.1 n k)

-- ---- modes that are written

abbrev pub KnownIn : {A : Type 0} → Verdict A → Type 0
KnownIn (fit a) = Unit {0}
KnownIn (unfit f fs) = (is_unknown f ≡ false) × AreKnown fs

pub then_known : {A B : Type 0} (v : Verdict A) (q : A → Verdict B) → KnownIn v → ((a : A) → KnownIn (q a)) → KnownIn (v >>= q)
then_known (fit a) q h g = g a
then_known (unfit f fs) q h g = h

both_known : {A B : Type 0} (v : Verdict A) (w : Verdict B) → KnownIn v → KnownIn w → KnownIn (both v w)
both_known (fit a) (fit b) h k = tt
both_known (fit a) (unfit g gs) h k = k
both_known (unfit f fs) (fit b) h k = h
both_known (unfit f fs) (unfit g gs) h k = (h.0, joined fs gs g h.1 k.0 k.1)

after_known : {A : Type 0} (v : Verdict (List A)) (w : Verdict A) → KnownIn v → KnownIn w → KnownIn (after v w)
after_known (fit xs) (fit b) h k = tt
after_known (fit xs) (unfit g gs) h k = k
after_known (unfit f fs) (fit b) h k = h
after_known (unfit f fs) (unfit g gs) h k = (h.0, joined fs gs g h.1 k.0 k.1)

first_known : (f : CheckFault) (fs : List CheckFault) → is_unknown f ≡ false → AreKnown fs → is_unknown (first_of f fs) ≡ false
first_known f [] n h = n
first_known f (g ∷ gs) n h = real_left f (first_of g gs) n

outcome_known : {A : Type 0} (v : Verdict A) → KnownIn v → Certain (outcome v)
outcome_known (fit a) h = tt
outcome_known (unfit f fs) h = first_known f fs h.0 h.1

module _ (names : Seen) where
  abbrev Q : WrittenMode → Type 0
  Q w = (place : Site) → KnownIn (judged names w place)

  abbrev Pair : Type 0
  Pair = (w : WrittenMode) × Q w

  abbrev texts_of : List Pair → List WrittenMode
  texts_of ps = map (λ (e : Pair). e.0) ps

  judged_at : (w : WrittenMode) (l : WrittenMode-F WrittenMode) → out-WrittenMode w ≡ l → judged names w ≡ judge names (map-WrittenMode WrittenMode Anywhere (judged names) l)
  judged_at w l o = rw (fold_out-WrittenMode, o) refl

  judged_here : (w : WrittenMode) (l : WrittenMode-F WrittenMode) (place : Site) → out-WrittenMode w ≡ l → KnownIn (judge names (map-WrittenMode WrittenMode Anywhere (judged names) l) place) → KnownIn (judged names w place)
  judged_here w l place o h = subst (λ (f : Anywhere). KnownIn (f place)) (sym (judged_at w l o)) h

  record_known : (at : At) (r : ℕ) (place : Site) → KnownIn (record_at at r place)
  record_known at r site.Item = tt
  record_known at r site.Inside = tt
  record_known at r site.Variable = (refl, tt)
  record_known at r site.Argument = (refl, tt)

  name_known : (at : At) (o : Option Meaning) (place : Site) → KnownIn (named_by at o place)
  name_known at None place = (refl, tt)
  name_known at (Some (meaning.Mode r)) place = record_known at r place
  name_known at (Some _) place = (refl, tt)

  basic_known : (at : At) (b : BasicMode) → KnownIn (basic at b)
  basic_known at basic_mode.Byte = tt
  basic_known at basic_mode.Int = tt
  basic_known at basic_mode.Frac = tt
  basic_known at basic_mode.Label = (refl, tt)

  array_known : (at : At) (n : ℕ) (m : Mode) (place : Site) → KnownIn (array_at at n m place)
  array_known at n m site.Item = tt
  array_known at n m site.Variable = (refl, tt)
  array_known at n m site.Inside = (refl, tt)
  array_known at n m site.Argument = (refl, tt)

  all_known : (v : Verdict (List Mode)) (ps : List Pair) → KnownIn v → KnownIn (all_from v (map argument (map (judged names) (texts_of ps))))
  all_known v [] h = h
  all_known v (p ∷ ps) h = all_known (after v (judged names p.0 site.Argument)) ps (after_known v (judged names p.0 site.Argument) h (p.1 site.Argument))

  procedure_known : (v : Verdict (List Mode)) (w : Verdict (Option Mode)) → KnownIn v → KnownIn w → KnownIn (procedure v w)
  procedure_known v w h k = then_known (both v w) (λ x. fit (mode.Proc x.0 x.1)) (both_known v w h k) (λ x. tt)

  level : (w : WrittenMode) (y : WrittenMode-F Pair) → out-WrittenMode w ≡ map-WrittenMode Pair WrittenMode (λ e. e.0) y → Q w
  level w (WrittenMode-F.Name i) o place = judged_here w (WrittenMode-F.Name i) place o (name_known i.at (names i.name) place)
  level w (WrittenMode-F.Basic b at) o place = judged_here w (WrittenMode-F.Basic b at) place o (basic_known at b)
  level w (WrittenMode-F.Array n p at) o place = judged_here w (WrittenMode-F.Array n p.0 at) place o (then_known (judged names p.0 site.Inside) (λ m. array_at at n m place) (p.1 site.Inside) (λ m. array_known at n m place))
  level w (WrittenMode-F.Ref p at) o place = judged_here w (WrittenMode-F.Ref p.0 at) place o (then_known (judged names p.0 site.Inside) (λ m. fit (mode.Ref m)) (p.1 site.Inside) (λ m. tt))
  level w (WrittenMode-F.RefArray p at) o place = judged_here w (WrittenMode-F.RefArray p.0 at) place o (then_known (judged names p.0 site.Inside) (λ m. fit (mode.RefArray m)) (p.1 site.Inside) (λ m. tt))
  level w (WrittenMode-F.Proc ps None at) o place =
      judged_here w (WrittenMode-F.Proc (texts_of ps) None at) place o (procedure_known (all_from (fit []) (map argument (map (judged names) (texts_of ps)))) (fit None) (all_known (fit []) ps tt) tt)
  level w (WrittenMode-F.Proc ps (Some r) at) o place =
      let v : Verdict (Option Mode) = judged names r.0 site.Argument >>= λ m. fit (Some m) in
      judged_here w (WrittenMode-F.Proc (texts_of ps) (Some r.0) at) place o
      (procedure_known (all_from (fit []) (map argument (map (judged names) (texts_of ps)))) v (all_known (fit []) ps tt) (then_known (judged names r.0 site.Argument) (λ m. fit (Some m)) (r.1 site.Argument) (λ m. tt)))

  rolled : (l : WrittenMode-F WrittenMode) → out-WrittenMode (roll-WrittenMode l) ≡ l
  rolled l = search written_lemmas.the_lemmas

  pub written_known : (w : WrittenMode) → Q w
  written_known = ind-WrittenMode Q (λ x y is. level (roll-WrittenMode x) y (rolled x ∙ sym is))

variable_certain : (at : At) (r : Resolved) → Certain (variable_by at r)
variable_certain at (resolved.Mode m) = tt
variable_certain at resolved.BadLength = refl

-- the fault of a mode that is written
mode_certain : (s : Sight) (at : At) (w : WrittenMode) → Certain (mode_in s at w)
mode_certain s at w =
    let v : Verdict Resolved = written (find s) w site.Variable in
    then_certain (outcome v) (variable_by at) (outcome_known v (then_known (judged (find s) w site.Variable) (λ m. fit (counted m)) (written_known (find s) w site.Variable) (λ m. tt))) (variable_certain at)

-- ---- what is noted

abbrev Known : Tally → Type 0
Known t = AreKnown t.faults

abbrev Stays : {A : Type 0} → Part A → Type 0
Stays p = (t : Tally) → Known t → Known (p t).1

noted_stays : (g : CheckFault) (t : Tally) → is_unknown g ≡ false → Known t → Known (noted g t)
noted_stays g t n h = one_more t.faults g h n

if_stays : (b : Bool) (g : CheckFault) (t : Tally) → is_unknown g ≡ false → Known t → Known (noted_if b g t)
if_stays true g t n h = noted_stays g t n h
if_stays false g t n h = h

known_stays : (g : CheckFault) (t : Tally) → Known t → Known (noted_known g t)
known_stays fault.Unknown t h = h
known_stays fault.Memory t h = noted_stays fault.Memory t refl h
known_stays (fault.UnknownName at) t h = noted_stays (fault.UnknownName at) t refl h
known_stays (fault.WrongMode at) t h = noted_stays (fault.WrongMode at) t refl h
known_stays (fault.NotAssignable at) t h = noted_stays (fault.NotAssignable at) t refl h
known_stays (fault.WrongCount at) t h = noted_stays (fault.WrongCount at) t refl h
known_stays (fault.RefOfLocal at) t h = noted_stays (fault.RefOfLocal at) t refl h
known_stays (fault.LeftOut form at) t h = noted_stays (fault.LeftOut form at) t refl h
known_stays (fault.DeclaredTwice at) t h = noted_stays (fault.DeclaredTwice at) t refl h
known_stays (fault.BadStart at) t h = noted_stays (fault.BadStart at) t refl h
known_stays (fault.UnknownLabel at) t h = noted_stays (fault.UnknownLabel at) t refl h
known_stays (fault.NoResult at) t h = noted_stays (fault.NoResult at) t refl h

found_stays : {A : Type 0} (other : A) (o : Outcome A) → Stays (found_or other o)
found_stays other (Ok x) t h = h
found_stays other (Err g) t h = known_stays g t h

mode_stays : (o : Outcome Mode) → Certain o → Stays (mode_or o)
mode_stays (Ok m) n t h = h
mode_stays (Err g) n t h = noted_stays g t n h

twice_stays : (l : Names) (n : Ident) (t : Tally) → Known t → Known (noted_twice l n t)
twice_stays l n t h = if_stays (holds l n.name) (fault.DeclaredTwice n.at) t refl h

-- ---- labels

labels_stay : (l : Names) (ns : List Ident) → Stays (labels_more l ns)
labels_stay l [] t h = h
labels_stay l (n ∷ ns) t h = let u : Names × Tally = label_more l n t in labels_stay u.0 ns u.1 (twice_stays l n t h)

all_labels_stay : (l : Names) (nss : List (List Ident)) → Stays (labels_of l nss)
all_labels_stay l [] t h = h
all_labels_stay l (ns ∷ nss) t h = let u : Names × Tally = labels_more l ns t in all_labels_stay u.0 nss u.1 (labels_stay l ns t h)

labels_in_stay : (s : Sight) (done : List ℕ) (ns : List Ident) → Stays (labels_in s done ns)
labels_in_stay s done [] t h = h
labels_in_stay s done (n ∷ ns) t h = let u : ℕ × Tally = label_or (label_in s n) t in labels_in_stay s (done ++ u.0 ∷ []) ns u.1 (found_stays 0 (label_in s n) t h)

-- ---- values and locals

int_stays : (s : Sight) (e : Expr) → Stays (int_in s e)
int_stays s e t h = found_stays (values.Number 0) (value_in s e mode.Int) t h

any_int_stays : (s : Sight) (e : Option Expr) → Stays (any_int_in s e)
any_int_stays s None t h = h
any_int_stays s (Some e) t h = int_stays s e t h

start_stays : (s : Sight) (n : Ident) (m : Mode) (e : Option Expr) → Stays (start_in s n m e)
start_stays s n m None t h = if_stays _ (fault.BadStart n.at) t refl h
start_stays s n m (Some e) t h = found_stays (values.Number 0) (value_in s e m) t h

alone_stays : (s : Sight) (e : Option Expr) (t : Tally) → Known t → Known (start_alone s e t)
alone_stays s None t h = h
alone_stays s (Some e) t h = known_stays (alone_in s e) t h

local_stays : (m : Outcome Mode) (d : Declared) (n : Local) → Stays (local_more m d n)
local_stays (Err g) d n t h = twice_stays (innermost d.sight.levels) n.name (start_alone d.sight n.start t) (alone_stays d.sight n.start t h)
local_stays (Ok m) d n t h = let u : Option Value × Tally = start_in d.sight n.name m n.start t in twice_stays (innermost d.sight.levels) n.name u.1 (start_stays d.sight n.name m n.start t h)

locals_stay : (m : Outcome Mode) (d : Declared) (ns : List Local) → Stays (locals_more m d ns)
locals_stay m d [] t h = h
locals_stay m d (n ∷ ns) t h = let u : Declared × Tally = local_more m d n t in locals_stay m u.0 ns u.1 (local_stays m d n t h)

line_stays : (d : Declared) (l : Locals) → Stays (line_more d l)
line_stays d l t h =
    let u : Outcome Mode × Tally = mode_or (mode_in d.sight l.at l.mode) t in
    locals_stay u.0 d l.names u.1 (mode_stays (mode_in d.sight l.at l.mode) (mode_certain d.sight l.at l.mode) t h)

declarations_stay : (d : Declared) (ls : List Locals) → Stays (declarations d ls)
declarations_stay d [] t h = h
declarations_stay d (l ∷ ls) t h = let u : Declared × Tally = line_more d l t in declarations_stay u.0 ls u.1 (line_stays d l t h)

-- ---- sequences and statements

-- what is judged keeps that, whatever it sees
abbrev Keeps : {A : Type 0} → (Sight → Part A) → Type 0
Keeps p = (s : Sight) → Stays (p s)

abbrev LinesKeep : List Line → Type 0
LinesKeep = AllByRecursion (λ x. Keeps x.part)

order_stays : (xs : List Line) → LinesKeep xs → (s : Sight) (k : ℕ) (done : List Labelled) → Stays (in_order s k done xs)
order_stays [] g s k done t h = h
order_stays (x ∷ xs) g s k done t h =
    let o : Option Stat × Tally = x.part s t in
    order_stays xs g.1 s (numbers_from [] k x.labels).1 (done ++ labelled (numbers_from [] k x.labels).0 o.0 ∷ []) o.1 (g.0 s t h)

sequence_keeps : (xs : List Line) → LinesKeep xs → Keeps (λ s. sequence s xs)
sequence_keeps xs g s t h =
    let u : Names × Tally = labels_of [] (map labels_at xs) t in
    order_stays xs g (within u.0 s) t.labels [] u.1 (all_labels_stay [] (map labels_at xs) t h)

to_keeps : (e : Expr) (xs : List Line) → LinesKeep xs → Keeps (λ s. to_loop s e xs)
to_keeps e xs g s t h =
    let u : Value × Tally = int_in s e t in
    let v : ℕ × Tally = three_locals u.1 in
    sequence_keeps xs g s v.1 (int_stays s e t h)

bounds_stay : (s : Sight) (d : Control) (e : Expr) → Stays (bounds_in s d e)
bounds_stay s d e t h =
    let u : Value × Tally = int_in s d.start t in
    let v : Option Value × Tally = any_int_in s d.step u.1 in
    int_stays s e v.1 (any_int_stays s d.step u.1 (int_stays s d.start t h))

for_keeps : (d : Control) (e : Expr) (xs : List Line) → LinesKeep xs → Keeps (λ s. for_loop s d e xs)
for_keeps d e xs g s t h =
    let u : Bounds × Tally = bounds_in s d e t in
    let v : ℕ × Tally = three_locals u.1 in
    sequence_keeps xs g (within (variable_of d v.0) s) v.1 (bounds_stay s d e t h)

abbrev BranchesKeep : List JudgedBranch → Type 0
BranchesKeep = AllByRecursion (λ b. Keeps b)

branches_keep : (bs : List JudgedBranch) → BranchesKeep bs → (s : Sight) (done : List BranchMade) → Stays (branches s done bs)
branches_keep [] g s done t h = h
branches_keep (b ∷ bs) g s done t h = let u : BranchMade × Tally = b s t in branches_keep bs g.1 s (done ++ u.0 ∷ []) u.1 (g.0 s t h)

found_keeps : {A : Type 0} (other : A) (o : Sight → Outcome A) → Keeps (λ s. found_or other (o s))
found_keeps other o s t h = found_stays other (o s) t h

switch_keeps : (e : Expr) (ns : List Ident) → Keeps (λ s. spec.switch s e ns)
switch_keeps e ns s t h = let u : Value × Tally = int_in s e t in labels_in_stay s [] ns u.1 (int_stays s e t h)

as_stat : {p q : JudgedStat} → p ≡ q → Keeps q → Keeps p
as_stat e g = subst (λ (z : JudgedStat). Keeps z) (sym e) g

as_body : {p q : JudgedBody} → p ≡ q → Keeps q → Keeps p
as_body e g = subst (λ (z : JudgedBody). Keeps z) (sym e) g

as_branch : {p q : JudgedBranch} → p ≡ q → Keeps q → Keeps p
as_branch e g = subst (λ (z : JudgedBranch). Keeps z) (sym e) g

as_line : {p q : Line} → p ≡ q → Keeps q.part → Keeps p.part
as_line e g = subst (λ (z : Line). Keeps z.part) (sym e) g

module _ (r : Answer) where
  abbrev SimpleM : Simple → Type 0
  SimpleM x = Keeps (spec.stat r x)

  abbrev BodyM : Body → Type 0
  BodyM x = Keeps (spec.body r x)

  abbrev BranchM : Branch → Type 0
  BranchM x = Keeps (spec.branch r x)

  abbrev LineM : Stmt → Type 0
  LineM x = Keeps (spec.line r x).part

  abbrev SimplePair : Type 0
  SimplePair = (x : Simple) × SimpleM x

  abbrev BodyPair : Type 0
  BodyPair = (x : Body) × BodyM x

  abbrev BranchPair : Type 0
  BranchPair = (x : Branch) × BranchM x

  abbrev LinePair : Type 0
  LinePair = (x : Stmt) × LineM x

  -- ---- by the first level

  stat_at : (x : Simple) (l : Simple-F Simple Body Branch Stmt) → out-Simple x ≡ l
      → spec.stat r x ≡ spec.one_stat r (map-Simple Simple Body Branch Stmt JudgedStat JudgedBody JudgedBranch Line (spec.stat r) (spec.body r) (spec.branch r) (spec.line r) l)
  stat_at x l o = rw (fold_out-Simple, o) refl

  all_lines : (ys : List LinePair) → LinesKeep (map (spec.line r) (map (λ (e : LinePair). e.0) ys))
  all_lines [] = tt
  all_lines (y ∷ ys) = (y.1, all_lines ys)

  all_branches : (ys : List BranchPair) → BranchesKeep (map (spec.branch r) (map (λ (e : BranchPair). e.0) ys))
  all_branches [] = tt
  all_branches (y ∷ ys) = (y.1, all_branches ys)

  if_keeps : (bs : List JudgedBranch) (at : At) → BranchesKeep bs → Keeps (λ s. spec.one_stat r (Simple-F.If bs None at) s)
  if_keeps bs at g s t h = branches_keep bs g s [] t h

  else_keeps : (bs : List JudgedBranch) (xs : List Line) (at : At) → BranchesKeep bs → LinesKeep xs → Keeps (λ s. spec.one_stat r (Simple-F.If bs (Some xs) at) s)
  else_keeps bs xs at g f s t h = sequence_keeps xs f s (branches s [] bs t).1 (branches_keep bs g s [] t h)

  while_keeps : (d : Cond) (xs : List Line) (at : At) → LinesKeep xs → Keeps (λ s. spec.one_stat r (Simple-F.While d xs at) s)
  while_keeps d xs at g s t h = let u : Test × Tally = test_or (test_in s d) t in sequence_keeps xs g s u.1 (found_stays _ (test_in s d) t h)

  body_keeps : (ls : List Locals) (xs : List Line) (at : At) → LinesKeep xs → Keeps (λ s. spec.one_body r (record { locals = ls; statements = xs; at = at }) s)
  body_keeps ls xs at g s t h =
      let u : Declared × Tally = declarations (before (within [] s)) ls t in
      sequence_keeps xs g u.0.sight u.1 (declarations_stay (before (within [] s)) ls t h)

  branch_keeps : (d : Cond) (xs : List Line) (at : At) → LinesKeep xs → Keeps (λ s. spec.one_branch r (record { test = d; taken = xs; at = at }) s)
  branch_keeps d xs at g s t h = let u : Test × Tally = test_or (test_in s d) t in sequence_keeps xs g s u.1 (found_stays _ (test_in s d) t h)

  simple_level : (x : Simple) (y : Simple-F SimplePair BodyPair BranchPair LinePair)
      → out-Simple x ≡ map-Simple SimplePair BodyPair BranchPair LinePair Simple Body Branch Stmt (λ e. e.0) (λ e. e.0) (λ e. e.0) (λ e. e.0) y → SimpleM x
  simple_level x (Simple-F.Call h) o = as_stat (stat_at x (Simple-F.Call h) o) (found_keeps (stats.Call (values.Number 0)) (λ s. call_in s h))
  simple_level x (Simple-F.Assign h e at) o = as_stat (stat_at x (Simple-F.Assign h e at) o) (found_keeps (stats.Call (values.Number 0)) (λ s. assignment_in s h e))
  simple_level x (Simple-F.AssignVal h e at) o = as_stat (stat_at x (Simple-F.AssignVal h e at) o) (found_keeps (stats.Call (values.Number 0)) (λ s. val_assignment_in s at h e))
  simple_level x (Simple-F.Goto i at) o = as_stat (stat_at x (Simple-F.Goto i at) o) (λ s t h. found_stays 0 (label_in s i) t h)
  simple_level x (Simple-F.Return e at) o = as_stat (stat_at x (Simple-F.Return e at) o) (found_keeps (stats.Return None) (λ s. returned r s e at))
  simple_level x (Simple-F.Switch e is at) o = as_stat (stat_at x (Simple-F.Switch e is at) o) (switch_keeps e is)
  simple_level x (Simple-F.Block p at) o = as_stat (stat_at x (Simple-F.Block p.0 at) o) p.1
  simple_level x (Simple-F.If ys None at) o =
      let bs : List Branch = map (λ (e : BranchPair). e.0) ys in
      as_stat (stat_at x (Simple-F.If bs None at) o) (if_keeps (map (spec.branch r) bs) at (all_branches ys))
  simple_level x (Simple-F.If ys (Some xs) at) o =
      let bs : List Branch = map (λ (e : BranchPair). e.0) ys in
      let es : List Stmt = map (λ (e : LinePair). e.0) xs in
      as_stat (stat_at x (Simple-F.If bs (Some es) at) o) (else_keeps (map (spec.branch r) bs) (map (spec.line r) es) at (all_branches ys) (all_lines xs))
  simple_level x (Simple-F.For None limit xs at) o =
      let es : List Stmt = map (λ (e : LinePair). e.0) xs in
      as_stat (stat_at x (Simple-F.For None limit es at) o) (to_keeps limit (map (spec.line r) es) (all_lines xs))
  simple_level x (Simple-F.For (Some d) limit xs at) o =
      let es : List Stmt = map (λ (e : LinePair). e.0) xs in
      as_stat (stat_at x (Simple-F.For (Some d) limit es at) o) (for_keeps d limit (map (spec.line r) es) (all_lines xs))
  simple_level x (Simple-F.While d xs at) o =
      let es : List Stmt = map (λ (e : LinePair). e.0) xs in
      as_stat (stat_at x (Simple-F.While d es at) o) (while_keeps d (map (spec.line r) es) at (all_lines xs))

  body_level : (x : Body) (y : Body-F SimplePair BodyPair BranchPair LinePair)
      → out-Body x ≡ map-Body SimplePair BodyPair BranchPair LinePair Simple Body Branch Stmt (λ e. e.0) (λ e. e.0) (λ e. e.0) (λ e. e.0) y → BodyM x
  body_level x y o =
      let es : List Stmt = map (λ (e : LinePair). e.0) y.statements in
      let part : spec.body r x ≡ spec.one_body r (record { locals = y.locals; statements = map (spec.line r) es; at = y.at }) = rw (fold_out-Body, o) refl in
      as_body part (body_keeps y.locals (map (spec.line r) es) y.at (all_lines y.statements))

  branch_level : (x : Branch) (y : Branch-F SimplePair BodyPair BranchPair LinePair)
      → out-Branch x ≡ map-Branch SimplePair BodyPair BranchPair LinePair Simple Body Branch Stmt (λ e. e.0) (λ e. e.0) (λ e. e.0) (λ e. e.0) y → BranchM x
  branch_level x y o =
      let es : List Stmt = map (λ (e : LinePair). e.0) y.taken in
      let part : spec.branch r x ≡ spec.one_branch r (record { test = y.test; taken = map (spec.line r) es; at = y.at }) = rw (fold_out-Branch, o) refl in
      as_branch part (branch_keeps y.test (map (spec.line r) es) y.at (all_lines y.taken))

  full_keeps : (p : JudgedStat) → Keeps p → Keeps (λ s. spec.any_stat r (Some p) s)
  full_keeps p g s t h = g s t h

  empty_keeps : Keeps (λ s. spec.any_stat r None s)
  empty_keeps s t h = h

  line_cases : (x : Stmt) (y : Stmt-F SimplePair BodyPair BranchPair LinePair) (z : Option SimplePair) → y.simple ≡ z
      → out-Stmt x ≡ map-Stmt SimplePair BodyPair BranchPair LinePair Simple Body Branch Stmt (λ e. e.0) (λ e. e.0) (λ e. e.0) (λ e. e.0) y → LineM x
  line_cases x y None e o =
      let part : spec.line r x ≡ record { labels = y.labels; part = spec.any_stat r None } = rw (fold_out-Stmt, o, e) refl in
      as_line part empty_keeps
  line_cases x y (Some p) e o =
      let part : spec.line r x ≡ record { labels = y.labels; part = spec.any_stat r (Some (spec.stat r p.0)) } = rw (fold_out-Stmt, o, e) refl in
      as_line part (full_keeps (spec.stat r p.0) p.1)

  line_level : (x : Stmt) (y : Stmt-F SimplePair BodyPair BranchPair LinePair)
      → out-Stmt x ≡ map-Stmt SimplePair BodyPair BranchPair LinePair Simple Body Branch Stmt (λ e. e.0) (λ e. e.0) (λ e. e.0) (λ e. e.0) y → LineM x
  line_level x y o = line_cases x y y.simple refl o

  rolled_simple : (x : Simple-F Simple Body Branch Stmt) → out-Simple (roll-Simple x) ≡ x
  rolled_simple x = search simple_lemmas.the_lemmas

  rolled_body : (x : Body-F Simple Body Branch Stmt) → out-Body (roll-Body x) ≡ x
  rolled_body x = search body_lemmas.the_lemmas

  rolled_branch : (x : Branch-F Simple Body Branch Stmt) → out-Branch (roll-Branch x) ≡ x
  rolled_branch x = search branch_lemmas.the_lemmas

  rolled_line : (x : Stmt-F Simple Body Branch Stmt) → out-Stmt (roll-Stmt x) ≡ x
  rolled_line x = search stmt_lemmas.the_lemmas

  whole_body : (x : Body) → Keeps (spec.body r x)
  whole_body = ind-Body SimpleM BodyM BranchM LineM (λ x y is. simple_level (roll-Simple x) y (rolled_simple x ∙ sym is)) (λ x y is. body_level (roll-Body x) y (rolled_body x ∙ sym is))
      (λ x y is. branch_level (roll-Branch x) y (rolled_branch x ∙ sym is)) (λ x y is. line_level (roll-Stmt x) y (rolled_line x ∙ sym is))

-- ---- parameters and the result

named_stays : (l : Names) (n : Ident) (m : Outcome Mode) → Stays (named l n m)
named_stays l n (Err g) t h = twice_stays l n t h
named_stays l n (Ok m) t h = twice_stays l n t h

group_stays : (m : Outcome Mode) (l : Names) (ns : List Ident) → Stays (group m l ns)
group_stays m l [] t h = h
group_stays m l (n ∷ ns) t h = let u : Names × Tally = named l n m t in group_stays m u.0 ns u.1 (named_stays l n m t h)

parameters_stay : (s : Sight) (l : Names) (fs : List Fields) → Stays (parameters s l fs)
parameters_stay s l [] t h = h
parameters_stay s l (f ∷ fs) t h =
    let u : Outcome Mode × Tally = mode_or (mode_in s f.at f.mode) t in
    let v : Names × Tally = group u.0 l f.names u.1 in
    parameters_stay s v.0 fs v.1 (group_stays u.0 l f.names u.1 (mode_stays (mode_in s f.at f.mode) (mode_certain s f.at f.mode) t h))

answer_stays : (s : Sight) (at : At) (w : Option WrittenMode) → Stays (answer_in s at w)
answer_stays s at None t h = h
answer_stays s at (Some w) t h = mode_stays (mode_in s at w) (mode_certain s at w) t h

pub faults_known : FaultsAreKnown
faults_known s b g stands =
    let p : Names × Tally = parameters s [] b.fields nothing_yet in
    let a : Answer × Tally = answer_in s b.at b.result p.1 in
    let m : BodyMade × Tally = spec.body a.0 b.body (within p.0 s) a.1 in
    let last : Tally = closed_at a.0 b.ends m.0 m.1 in
    one_of last.faults g
    (if_stays (is_wanted a.0 && not (closed m.0)) (fault.NoResult b.ends) m.1 refl
    (whole_body a.0 b.body (within p.0 s) a.1 (answer_stays s b.at b.result p.1 (parameters_stay s [] b.fields nothing_yet tt))))
    stands
