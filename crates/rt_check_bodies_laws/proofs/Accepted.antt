-- A body in which no fault stands fits.
use Rattle.std.proofs.Common.{◌≡◌, ℕ, zero, suc, ◌+◌, ◌<◌, ◌==◌, ◌&&◌, not, Bool, true, false, List, [], ◌∷◌, ◌++◌, length, map, Option, Some, None, Ok, Err, arith, append_assoc, refl, sym, ap, ◌∙◌, subst, if◌then◌else◌}
use Rattle.std.specs.Prelude.{nat_lt, slice_get}
use Rattle.std.specs.List.{list_all}
use Rattle.std.proofs.lemmas.List.{append-nil}
use Rattle.std.proofs.lemmas.Bool.Decides.{nat_tests}
use Rattle.rt_grammar.specs.declared.at.At.{At}
use Rattle.rt_grammar.specs.declared.at.Ident.{Ident}
use Rattle.rt_syntax_exprs.specs.declared.tree.Chain.{Chain}
use Rattle.rt_syntax_exprs.specs.declared.tree.Cond.{Cond}
use Rattle.rt_syntax_exprs.specs.declared.tree.Expr.{Expr}
use Rattle.rt_modes.specs.declared.mode.Mode.{Mode, out-Mode}
use Rattle.rt_modes.specs.declared.mode.Mode.TheVariants as mode
use Rattle.rt_syntax.specs.declared.tree.Body.{Body, out-Body, roll-Body, map-Body}
use Rattle.rt_syntax.specs.declared.tree.Body as body_lemmas
use Rattle.rt_syntax.specs.declared.tree.Branch.{Branch, out-Branch, roll-Branch, map-Branch}
use Rattle.rt_syntax.specs.declared.tree.Branch as branch_lemmas
use Rattle.rt_syntax.specs.declared.tree.Control.{Control}
use Rattle.rt_syntax.specs.declared.tree.Local.{Local}
use Rattle.rt_syntax.specs.declared.tree.Locals.{Locals}
use Rattle.rt_syntax.specs.declared.tree.Simple.{Simple, out-Simple, roll-Simple, map-Simple}
use Rattle.rt_syntax.specs.declared.tree.Simple as simple_lemmas
use Rattle.rt_syntax.specs.declared.tree.Simple.TheFolds.{ind-Body, fold_out-Simple, fold_out-Body, fold_out-Branch, fold_out-Stmt}
use Rattle.rt_syntax.specs.declared.tree.Simple.TheOpen.{Simple-F, Body-F, Branch-F, Stmt-F}
use Rattle.rt_syntax.specs.declared.tree.Stmt.{Stmt, out-Stmt, roll-Stmt, map-Stmt}
use Rattle.rt_syntax.specs.declared.tree.Stmt as stmt_lemmas
use Rattle.rt_tree_nodes.specs.declared.brick.Local.{Local as Made}
use Rattle.rt_tree_nodes.specs.declared.brick.Local.TheVariants as made
use Rattle.rt_tree_nodes.specs.declared.statement.Body.{Body as BodyMade, out-Body as out-Made, roll-Body as roll-Made, map-Body as map-Made}
use Rattle.rt_tree_nodes.specs.declared.statement.Body as made_lemmas
use Rattle.rt_tree_nodes.specs.declared.statement.Branch.{Branch as BranchMade, out-Branch as out-Branched, roll-Branch as roll-Branched, map-Branch as map-Branched}
use Rattle.rt_tree_nodes.specs.declared.statement.Branch as branched_lemmas
use Rattle.rt_tree_nodes.specs.declared.statement.Labelled.{Labelled}
use Rattle.rt_tree_nodes.specs.declared.statement.LocalStart.{LocalStart}
use Rattle.rt_tree_nodes.specs.declared.statement.Stat.{Stat, out-Stat, map-Stat}
use Rattle.rt_tree_nodes.specs.declared.statement.Stat as stat_lemmas
use Rattle.rt_tree_nodes.specs.declared.statement.Stat.TheFolds.{fold_out-Stat, fold_out-Body as fold_out-Made, fold_out-Branch as fold_out-Branched}
use Rattle.rt_tree_nodes.specs.declared.statement.Stat.TheOpen.{Stat-F, Body-F as Made-F, Branch-F as Branched-F}
use Rattle.rt_tree_nodes.specs.declared.statement.Stat.TheVariants as stats
use Rattle.rt_tree_nodes.specs.declared.operators.Rel.TheVariants as rel
use Rattle.rt_tree_nodes.specs.declared.statement.Test.{Test}
use Rattle.rt_tree_nodes.specs.declared.statement.Test.TheVariants as tests
use Rattle.rt_tree_nodes.specs.declared.value.Place.{Place}
use Rattle.rt_tree_nodes.specs.declared.value.Value.{Value}
use Rattle.rt_tree_nodes.specs.declared.value.Value.TheVariants as values
use Rattle.rt_tree_nodes.specs.Scopes.{Scope, with}
use Rattle.rt_tree_nodes.specs.Typing.{suits, valued, placed as placed_in, assigned_mode}
use Rattle.rt_check_faults.specs.declared.fault.CheckFault.{CheckFault}
use Rattle.rt_check_faults.specs.declared.fault.CheckFault.TheVariants as fault
use Rattle.rt_exprs.specs.declared.scope.Meaning.TheVariants as meaning
use Rattle.rt_check_faults.specs.Outcomes.{Outcome, ◌>>=◌}
use Rattle.rt_exprs.specs.Judging.{alone, target, val_target}
use Rattle.rt_tree.specs.Modules.{local_stands}
use Rattle.rt_tree.specs.Statements as tree
use Rattle.rt_tree.specs.Statements.{Sight as Seen, Part as Fitting, Marked, next_by, sees, all_seen, declares, starts_at_zero, takes_three, stat_part, body_part, branch_part, marked, branches_in_order}
use Rattle.rt_exprs_laws.specs.Agreeing.{IsValue}
use Rattle.rt_syntax_exprs.specs.Joins.{joins_two}
use Rattle.rt_exprs_laws.proofs.Passing.{passed_is_value}
use Rattle.rt_exprs_laws.proofs.Judged.{value_judged, target_judged, val_judged, call_judged, test_judged, int_judged}
use Rattle.rt_check_bodies.specs.declared.tally.Tally.{Tally}
use Rattle.rt_check_bodies.specs.Parts.{found_or, noted_if, next_local, three_locals, labels_in, label_or, test_or, mode_or}
use Rattle.rt_exprs.specs.Sights.{Sight, within}
use Rattle.rt_check_bodies.specs.Sights.{assigning, assigned_in, value_in, assignment_in, val_assignment_in, call_in, test_in, label_in, mode_in}
use Rattle.rt_check_bodies.specs.declared.answer.Answer.{Answer}
use Rattle.rt_check_bodies.specs.declared.answer.Answer.TheVariants as answer
use Rattle.rt_check_bodies.specs.declared.plain.Bounds.{Bounds}
use Rattle.rt_bricks_laws.specs.Bodies.{sum, simple_labels, simple_stands, all, labels_in_simple, labels_in_body, labels_in_branch, labels_in_line, simple_is_broad, body_is_broad, branch_is_broad, line_is_broad}
use Rattle.rt_check_bodies.specs.Statements as spec
use Rattle.rt_check_bodies.specs.Statements.{Line, Declared, JudgedStat, JudgedBody, JudgedBranch, labels_at, before, declarations, line_more, locals_more, local_fit, placed, start_in, branches, sequence, bounds_in, variable_of, for_loop, to_loop, int_in, any_int_in, goto, switch, returned, return_of}
use Rattle.rt_check_bodies_laws.proofs.Growing.{Pre, pre_then, pre_none, Grew, grew_same, grew_then, Growing, BranchesGrow, grow_found, grow_placed, grow_locals, grow_declarations, grow_sequence, grow_branches, grow_for, grow_to, grow_goto, grow_switch, grow_int, grow_any_int, grow_three, grow_labels_in}
use Rattle.rt_check_bodies_laws.specs.Held.{EntryHolds, ResultIs}
use Rattle.rt_check_bodies_laws.proofs.Knowing.{Certain}
use Rattle.rt_check_bodies_laws.proofs.Certain.{value_certain, assign_certain, assign_val_certain, call_in_certain, test_certain, label_certain, returned_certain}
use Rattle.rt_check_bodies_laws.proofs.Holding.{Shown, shown_within, shown_named, shown_knows, declared_holds, agrees, label_seen}
use Rattle.rt_check_bodies_laws.proofs.Sequences.{settled, mode_found, one_is_there, one_longer, pre_get, Fine, fine_before, Goes, Known, lines, lines_grow, total, sequence_fits}

-- ---- answers

record Bound {A B : Type 0} (o : Outcome A) (f : A → Outcome B) (y : B) : Type 0 where
  value : A
  is : o ≡ Ok value
  gives : f value ≡ Ok y

bound : {A B : Type 0} (o : Outcome A) (f : A → Outcome B) (y : B) → (o >>= f) ≡ Ok y → Bound o f y
bound (Ok x) f y e = record { value = x; is = refl; gives = e }
bound (Err g) f y e = absurd cc

ok_stat : (a b : Stat) (o : Outcome Stat) → o ≡ Ok a → o ≡ Ok b → a ≡ b
ok_stat a b o e h = cc

-- an assignment that is found: its place, the place's mode and the value
pub record Assigned (s : Sight) (t : Outcome (Option Place × Mode)) (e : Expr) (x : Stat) : Type 0 where
  pub place : Place
  pub mode : Mode
  pub value : Value
  pub target : t ≡ Ok (Some place, mode)
  pub given : value_in s e mode ≡ Ok value
  pub is : stats.Assign place value ≡ x

abbrev with_mode : Mode → Option Place → Outcome (Option Place × Mode)
with_mode m o = Ok (o, m)

by_place : (o : Option Place) (v : Value) (x : Stat) → assigning o v ≡ Ok x → (p : Place) × (o ≡ Some p) × (stats.Assign p v ≡ x)
by_place None v x h = absurd cc
by_place (Some p) v x h = (p, refl, ok_stat (stats.Assign p v) x (Ok (stats.Assign p v)) refl h)

pub assigned_by : (s : Sight) (t : Outcome (Option Place × Mode)) (e : Expr) (x : Stat) → assigned_in s t e ≡ Ok x → Assigned s t e x
assigned_by s (Ok q) e x h =
    let y = bound (value_in s e q.1) (assigning q.0) x h in
    let z = by_place q.0 y.value x y.gives in
    record { place = z.0; mode = q.1; value = y.value; target = ap (λ (o : Option Place). with_mode q.1 o) z.1; given = y.is; is = z.2 }
assigned_by s (Err g) e x h = absurd cc

both_true : (a b : Bool) → a ≡ true → b ≡ true → a && b ≡ true
both_true a b e h = rw (e, h) refl

left_of : (a b : Bool) → a && b ≡ true → a ≡ true
left_of true b e = refl
left_of false b e = e

right_of : (a b : Bool) → a && b ≡ true → b ≡ true
right_of true b e = e
right_of false b e = absurd cc

same_number : (k : ℕ) → (k == k) ≡ true
same_number k = grind (arith, nat_tests)

all_at : (test : Made → Bool) (ls : List Made) (k : ℕ) (l : Made) → list_all test ls ≡ true → slice_get ls k ≡ Some l → test l ≡ true
all_at test [] k l h e = absurd cc
all_at test (x ∷ xs) zero l h e = subst (λ (z : Made). test z ≡ true) (some_made x l e) (left_of (test x) (list_all test xs) h) where
  some_made : (a b : Made) → Some a ≡ Some b → a ≡ b
  some_made a b q = cc
all_at test (x ∷ xs) (suc k) l h e = all_at test xs k l (right_of (test x) (list_all test xs) h) e

module _ (c : Scope) (small : length c.locals < 65536) (standing : list_all (local_stands (length c.records)) c.locals ≡ true) where
  -- the mode of a local is that of a value
  pub local_value : (k : ℕ) (m : Mode) → slice_get c.locals k ≡ Some (made.Variable m) → IsValue m
  local_value k m e = passed_is_value (length c.records) m (all_at (local_stands (length c.records)) c.locals k (made.Variable m) standing e)

  -- ---- the parts of a tree, by their forms

  part_at : (x : Stat) (l : Stat-F Stat BodyMade BranchMade Labelled) → out-Stat x ≡ l
      → stat_part c x ≡ tree.one_stat c (map-Stat Stat BodyMade BranchMade Labelled Fitting Fitting Fitting Marked (stat_part c) (body_part c) (branch_part c) (marked c) l)
  part_at x l o = rw (fold_out-Stat, o) refl

  call_part : (v : Value) → stat_part c (stats.Call v) ≡ tree.one_stat c (Stat-F.Call v)
  call_part v = let o : out-Stat (stats.Call v) ≡ Stat-F.Call v = search stat_lemmas.the_lemmas in part_at (stats.Call v) (Stat-F.Call v) o

  assign_part : (p : Place) (v : Value) → stat_part c (stats.Assign p v) ≡ tree.one_stat c (Stat-F.Assign p v)
  assign_part p v = let o : out-Stat (stats.Assign p v) ≡ Stat-F.Assign p v = search stat_lemmas.the_lemmas in part_at (stats.Assign p v) (Stat-F.Assign p v) o

  goto_part : (l : ℕ) → stat_part c (stats.Goto l) ≡ tree.one_stat c (Stat-F.Goto l)
  goto_part l = let o : out-Stat (stats.Goto l) ≡ Stat-F.Goto l = search stat_lemmas.the_lemmas in part_at (stats.Goto l) (Stat-F.Goto l) o

  nothing_part : stat_part c (stats.Return None) ≡ tree.one_stat c (Stat-F.Return None)
  nothing_part = let o : out-Stat (stats.Return None) ≡ Stat-F.Return None = search stat_lemmas.the_lemmas in part_at (stats.Return None) (Stat-F.Return None) o

  value_part : (v : Value) → stat_part c (stats.Return (Some v)) ≡ tree.one_stat c (Stat-F.Return (Some v))
  value_part v = let o : out-Stat (stats.Return (Some v)) ≡ Stat-F.Return (Some v) = search stat_lemmas.the_lemmas in part_at (stats.Return (Some v)) (Stat-F.Return (Some v)) o

  switch_part : (v : Value) (ls : List ℕ) → stat_part c (stats.Switch v ls) ≡ tree.one_stat c (Stat-F.Switch v ls)
  switch_part v ls = let o : out-Stat (stats.Switch v ls) ≡ Stat-F.Switch v ls = search stat_lemmas.the_lemmas in part_at (stats.Switch v ls) (Stat-F.Switch v ls) o

  block_part : (b : BodyMade) → stat_part c (stats.Block b) ≡ body_part c b
  block_part b = let o : out-Stat (stats.Block b) ≡ Stat-F.Block b = search stat_lemmas.the_lemmas in part_at (stats.Block b) (Stat-F.Block b) o

  while_part : (t : Test) (xs : List Labelled) → stat_part c (stats.While t xs) ≡ tree.one_stat c (Stat-F.While t (map (marked c) xs))
  while_part t xs = let o : out-Stat (stats.While t xs) ≡ Stat-F.While t xs = search stat_lemmas.the_lemmas in part_at (stats.While t xs) (Stat-F.While t xs) o

  to_part : (i : ℕ) (n : Value) (xs : List Labelled) → stat_part c (stats.To i n xs) ≡ tree.one_stat c (Stat-F.To i n (map (marked c) xs))
  to_part i n xs = let o : out-Stat (stats.To i n xs) ≡ Stat-F.To i n xs = search stat_lemmas.the_lemmas in part_at (stats.To i n xs) (Stat-F.To i n xs) o

  unstepped_part : (i : ℕ) (a d : Value) (xs : List Labelled) → stat_part c (stats.For i a None d xs) ≡ tree.one_stat c (Stat-F.For i a None d (map (marked c) xs))
  unstepped_part i a d xs = let o : out-Stat (stats.For i a None d xs) ≡ Stat-F.For i a None d xs = search stat_lemmas.the_lemmas in part_at (stats.For i a None d xs) (Stat-F.For i a None d xs) o

  stepped_part : (i : ℕ) (a b d : Value) (xs : List Labelled) → stat_part c (stats.For i a (Some b) d xs) ≡ tree.one_stat c (Stat-F.For i a (Some b) d (map (marked c) xs))
  stepped_part i a b d xs = let o : out-Stat (stats.For i a (Some b) d xs) ≡ Stat-F.For i a (Some b) d xs = search stat_lemmas.the_lemmas in part_at (stats.For i a (Some b) d xs) (Stat-F.For i a (Some b) d xs) o

  bare_part : (bs : List BranchMade) → stat_part c (stats.If bs None) ≡ tree.one_stat c (Stat-F.If (map (branch_part c) bs) None)
  bare_part bs = let o : out-Stat (stats.If bs None) ≡ Stat-F.If bs None = search stat_lemmas.the_lemmas in part_at (stats.If bs None) (Stat-F.If bs None) o

  other_part : (bs : List BranchMade) (xs : List Labelled) → stat_part c (stats.If bs (Some xs)) ≡ tree.one_stat c (Stat-F.If (map (branch_part c) bs) (Some (map (marked c) xs)))
  other_part bs xs = let o : out-Stat (stats.If bs (Some xs)) ≡ Stat-F.If bs (Some xs) = search stat_lemmas.the_lemmas in part_at (stats.If bs (Some xs)) (Stat-F.If bs (Some xs)) o

  made_at : (b : BodyMade) (l : Made-F Stat BodyMade BranchMade Labelled) → out-Made b ≡ l
      → body_part c b ≡ tree.one_body c (map-Made Stat BodyMade BranchMade Labelled Fitting Fitting Fitting Marked (stat_part c) (body_part c) (branch_part c) (marked c) l)
  made_at b l o = rw (fold_out-Made, o) refl

  rolled_made : (l : Made-F Stat BodyMade BranchMade Labelled) → out-Made (roll-Made l) ≡ l
  rolled_made l = search made_lemmas.the_lemmas

  branched_at : (b : BranchMade) (l : Branched-F Stat BodyMade BranchMade Labelled) → out-Branched b ≡ l
      → branch_part c b ≡ tree.one_branch c (map-Branched Stat BodyMade BranchMade Labelled Fitting Fitting Fitting Marked (stat_part c) (body_part c) (branch_part c) (marked c) l)
  branched_at b l o = rw (fold_out-Branched, o) refl

  rolled_branched : (l : Branched-F Stat BodyMade BranchMade Labelled) → out-Branched (roll-Branched l) ≡ l
  rolled_branched l = search branched_lemmas.the_lemmas

  module _ (r : Answer) where
    pub record StatFits (p : JudgedStat) (inner : ℕ) : Type 0 where
      pub grows : (s : Sight) → Growing (p s)
      pub fits : (s : Sight) (seen : Seen) (t : Tally) → Shown c s seen → ResultIs r seen.result → Fine c (p s t).1 → t.labels + inner < 65536
          → Goes c (stat_part c (p s t).0) seen t (p s t).1 × ((p s t).1.labels ≡ t.labels + inner)

    pub record BodyFits (p : JudgedBody) (inner : ℕ) : Type 0 where
      pub grows : (s : Sight) → Growing (p s)
      pub fits : (s : Sight) (seen : Seen) (t : Tally) → Shown c s seen → ResultIs r seen.result → Fine c (p s t).1 → t.labels + inner < 65536
          → Goes c (body_part c (p s t).0) seen t (p s t).1 × ((p s t).1.labels ≡ t.labels + inner)

    pub record BranchFits (p : JudgedBranch) (inner : ℕ) : Type 0 where
      pub grows : (s : Sight) → Growing (p s)
      pub fits : (s : Sight) (seen : Seen) (t : Tally) → Shown c s seen → ResultIs r seen.result → Fine c (p s t).1 → t.labels + inner < 65536
          → Goes c (branch_part c (p s t).0) seen t (p s t).1 × ((p s t).1.labels ≡ t.labels + inner)

    -- ---- one found statement, after which the tally is as it was

    pub record Alone (o : Outcome Stat) (seen : Seen) : Type 0 where
      pub certain : Certain o
      pub fits : (x : Stat) → o ≡ Ok x → (t : Tally) → Goes c (stat_part c x) seen t t

    found_fits : (other : Stat) (o : Sight → Outcome Stat) → ((s : Sight) (seen : Seen) → Shown c s seen → ResultIs r seen.result → Alone (o s) seen) → StatFits (λ s. found_or other (o s)) 0
    found_fits other o h = record {
      grows = λ s t. grow_found other (o s) t;
      fits = λ s seen t k q f b.
          let z = settled other (o s) t (h s seen k q).certain f.none in (
            ap (λ (y : Stat × Tally). stat_part c y.0 seen (next_by t.labels (length t.locals))) z.gives ∙ (h s seen k q).fits z.value z.is t ∙ sym (ap (λ (y : Stat × Tally). Some (next_by y.1.labels (length y.1.locals))) z.gives),
            ap (λ (y : Stat × Tally). y.1.labels) z.gives ∙ omega arith,
          );
    }

    call_alone : (h : Chain) (s : Sight) (seen : Seen) → Shown c s seen → Alone (call_in s h) seen
    call_alone h s seen k = record {
      certain = call_in_certain s (shown_knows c s seen k) h;
      fits = λ x e t.
          let z = bound (alone s h) (λ v. Ok (stats.Call v)) x e in
          let i = call_judged s c (agrees c s seen k.holds) h z.value z.is in
          subst (λ (y : Stat). Goes c (stat_part c y) seen t t) (ok_stat (stats.Call z.value) x (Ok (stats.Call z.value)) refl z.gives)
          (ap (λ (p : Fitting). p seen (next_by t.labels (length t.locals))) (call_part z.value) ∙ rw i.1 refl);
    }

    assigned_goes : (p : Place) (m : Mode) (v : Value) (seen : Seen) (t : Tally) → with (placed_in c p).found assigned_mode ≡ Some m → suits m (valued c v) ≡ true → Goes c (stat_part c (stats.Assign p v)) seen t t
    assigned_goes p m v seen t a h = ap (λ (q : Fitting). q seen (next_by t.labels (length t.locals))) (assign_part p v) ∙ rw (a, h) refl

    assign_alone : (h : Chain) (e : Expr) (s : Sight) (seen : Seen) → Shown c s seen → Alone (assignment_in s h e) seen
    assign_alone h e s seen k = record {
      certain = assign_certain s (shown_knows c s seen k) h e;
      fits = λ x q t.
          let z = assigned_by s (target s h) e x q in
          let may = target_judged s c (agrees c s seen k.holds) h (z.place, z.mode) z.target in
          let suit = value_judged s c (agrees c s seen k.holds) e z.mode z.value may.1 z.given in
          subst (λ (w : Stat). Goes c (stat_part c w) seen t t) z.is (assigned_goes z.place z.mode z.value seen t may.0 suit);
    }

    val_alone : (h : Chain) (e : Expr) (at : At) (s : Sight) (seen : Seen) → Shown c s seen → Alone (val_assignment_in s at h e) seen
    val_alone h e at s seen k = record {
      certain = assign_val_certain s (shown_knows c s seen k) at h e;
      fits = λ x q t.
          let z = assigned_by s (val_target s at h) e x q in
          let may = val_judged s c (agrees c s seen k.holds) at h (z.place, z.mode) z.target in
          let suit = value_judged s c (agrees c s seen k.holds) e z.mode z.value may.1 z.given in
          subst (λ (w : Stat). Goes c (stat_part c w) seen t t) z.is (assigned_goes z.place z.mode z.value seen t may.0 suit);
    }

    returned_value : (o : Outcome Value) (x : Stat) → return_of o ≡ Ok x → (v : Value) × (o ≡ Ok v) × (stats.Return (Some v) ≡ x)
    returned_value (Ok v) x e = (v, refl, ok_stat (stats.Return (Some v)) x (Ok (stats.Return (Some v))) refl e)
    returned_value (Err g) x e = absurd cc

    return_by : (a : Answer) (e : Option Expr) (at : At) (s : Sight) (seen : Seen) (result : Option Mode) → seen.result ≡ result → Shown c s seen → ResultIs a result → Alone (returned a s e at) seen
    return_by answer.Nothing None at s seen None p k q = record {
      certain = returned_certain s (shown_knows c s seen k) answer.Nothing None q None at;
      fits = λ x e t.
          subst (λ (w : Stat). Goes c (stat_part c w) seen t t) (ok_stat (stats.Return None) x (Ok (stats.Return None)) refl e)
          (ap (λ (w : Fitting). w seen (next_by t.labels (length t.locals))) nothing_part ∙ rw p refl);
    }
    return_by answer.Nothing (Some e) at s seen None p k q = record {
      certain = returned_certain s (shown_knows c s seen k) answer.Nothing None q (Some e) at;
      fits = λ x h t. absurd cc;
    }
    return_by answer.Nothing e at s seen (Some m) p k q = absurd q
    return_by (answer.Wanted m) None at s seen (Some n) p k q = record { certain = refl; fits = λ x h t. absurd cc }
    return_by (answer.Wanted m) (Some e) at s seen (Some n) p k q = record {
      certain = returned_certain s (shown_knows c s seen k) (answer.Wanted m) (Some n) q (Some e) at;
      fits = λ x h t.
          let z = returned_value (value_in s e m) x h in
          let suit : suits n (valued c z.0) ≡ true = subst (λ (w : Mode). suits w (valued c z.0) ≡ true) q.0 (value_judged s c (agrees c s seen k.holds) e m z.0 q.1 z.1) in
          subst (λ (w : Stat). Goes c (stat_part c w) seen t t) z.2 (ap (λ (w : Fitting). w seen (next_by t.labels (length t.locals))) (value_part z.0) ∙ rw (p, suit) refl);
    }
    return_by (answer.Wanted m) e at s seen None p k q = absurd q
    return_by answer.Unknown e at s seen None p k q = absurd q
    return_by answer.Unknown e at s seen (Some m) p k q = absurd q

    -- ---- values and labels that are found

    pub record Int (s : Sight) (e : Expr) (t : Tally) : Type 0 where
      pub value : Value
      pub gives : int_in s e t ≡ (value, t)
      pub is_one : tree.is_int_value c value ≡ true

    int_found : (s : Sight) (seen : Seen) (e : Expr) (t : Tally) → Shown c s seen → (int_in s e t).1.faults ≡ [] → Int s e t
    int_found s seen e t k f =
        let z = settled (values.Number 0) (value_in s e mode.Int) t (value_certain s (shown_knows c s seen k) e mode.Int) f in
        record { value = z.value; gives = z.gives; is_one = int_judged s c (agrees c s seen k.holds) e z.value z.is }

    pub record AnyInt (s : Sight) (e : Option Expr) (t : Tally) : Type 0 where
      pub value : Option Value
      pub gives : any_int_in s e t ≡ (value, t)
      pub is_one : tree.is_int_step c value ≡ true

    any_int_found : (s : Sight) (seen : Seen) (e : Option Expr) (t : Tally) → Shown c s seen → (any_int_in s e t).1.faults ≡ [] → AnyInt s e t
    any_int_found s seen None t k f = record { value = None; gives = refl; is_one = refl }
    any_int_found s seen (Some e) t k f =
        let z = int_found s seen e t k f in
        record { value = Some z.value; gives = ap (λ (y : Value × Tally). (Some y.0, y.1)) z.gives; is_one = z.is_one }

    goto_fits : (n : Ident) → StatFits (λ s. goto s n) 0
    goto_fits n = record {
      grows = λ s t. grow_goto s n t;
      fits = λ s seen t k q f b.
          let z = settled 0 (label_in s n) t (label_certain s n) f.none in
          let sight : sees seen.seen z.value ≡ true = label_seen c s seen n z.value k.holds z.is in (
            ap (λ (y : ℕ × Tally). stat_part c (stats.Goto y.0) seen (next_by t.labels (length t.locals))) z.gives
                ∙ ap (λ (p : Fitting). p seen (next_by t.labels (length t.locals))) (goto_part z.value) ∙ rw sight refl ∙ sym (ap (λ (y : ℕ × Tally). Some (next_by y.1.labels (length y.1.locals))) z.gives),
            ap (λ (y : ℕ × Tally). y.1.labels) z.gives ∙ omega arith,
          );
    }

    pub record LabelsFound (s : Sight) (seen : Seen) (done : List ℕ) (ns : List Ident) (t : Tally) : Type 0 where
      pub labels : List ℕ
      pub gives : labels_in s done ns t ≡ (done ++ labels, t)
      pub seen_all : all_seen seen.seen labels ≡ true
      pub as_many : length labels ≡ length ns

    labels_found : (s : Sight) (seen : Seen) (done : List ℕ) (ns : List Ident) (t : Tally) → Shown c s seen → (labels_in s done ns t).1.faults ≡ [] → LabelsFound s seen done ns t
    labels_found s seen done [] t k f = record { labels = []; gives = ap (λ (z : List ℕ). (z, t)) (sym (append-nil done)); seen_all = refl; as_many = refl }
    labels_found s seen done (n ∷ ns) t k f =
        let u : ℕ × Tally = label_or (label_in s n) t in
        let none : u.1.faults ≡ [] = pre_none u.1.faults _ f (grow_labels_in s (done ++ u.0 ∷ []) ns u.1).faults in
        let z = settled 0 (label_in s n) t (label_certain s n) none in
        let moved : labels_in s done (n ∷ ns) t ≡ labels_in s (done ++ z.value ∷ []) ns t = ap (λ (y : ℕ × Tally). labels_in s (done ++ y.0 ∷ []) ns y.1) z.gives in
        let go = labels_found s seen (done ++ z.value ∷ []) ns t k (sym (ap (λ (y : List ℕ × Tally). y.1.faults) moved) ∙ f) in
        record {
          labels = z.value ∷ go.labels;
          gives = moved ∙ go.gives ∙ ap (λ (l : List ℕ). (l, t)) (append_assoc done (z.value ∷ []) go.labels);
          seen_all = both_true (sees seen.seen z.value) (all_seen seen.seen go.labels) (label_seen c s seen n z.value k.holds z.is) go.seen_all;
          as_many = ap suc go.as_many;
        }

    switch_fits : (e : Expr) (ns : List Ident) → nat_lt 0 (length ns) ≡ true → StatFits (λ s. switch s e ns) 0
    switch_fits e ns some = record {
      grows = λ s t. grow_switch s e ns t;
      fits = λ s seen t k q f b.
          let u : Value × Tally = int_in s e t in
          let first : u.1.faults ≡ [] = pre_none u.1.faults _ f.none (grow_labels_in s [] ns u.1).faults in
          let z = int_found s seen e t k first in
          let moved : switch s e ns t ≡ (stats.Switch z.value (labels_in s [] ns t).0, (labels_in s [] ns t).1) = ap (λ (y : Value × Tally). (stats.Switch y.0 (labels_in s [] ns y.1).0, (labels_in s [] ns y.1).1)) z.gives in
          let l = labels_found s seen [] ns t k (sym (ap (λ (y : Stat × Tally). y.1.faults) moved) ∙ f.none) in
          let whole : switch s e ns t ≡ (stats.Switch z.value l.labels, t) = moved ∙ ap (λ (y : List ℕ × Tally). (stats.Switch z.value y.0, y.1)) l.gives in
          let many : nat_lt 0 (length l.labels) ≡ true = ap (nat_lt 0) l.as_many ∙ some in (
            ap (λ (y : Stat × Tally). stat_part c y.0 seen (next_by t.labels (length t.locals))) whole ∙ ap (λ (p : Fitting). p seen (next_by t.labels (length t.locals))) (switch_part z.value l.labels)
                ∙ rw (z.is_one, many, l.seen_all) refl ∙ sym (ap (λ (y : Stat × Tally). Some (next_by y.1.labels (length y.1.locals))) whole),
            ap (λ (y : Stat × Tally). y.1.labels) whole ∙ omega arith,
          );
    }

    -- ---- blocks and branches

    block_fits : (p : JudgedBody) (inner : ℕ) → BodyFits p inner → StatFits (λ s. spec.one_stat r (Simple-F.Block p (record { item = 0; line = 0 })) s) inner
    block_fits p inner h = record {
      grows = λ s t. grew_then (h.grows s t) (grew_same _);
      fits = λ s seen t k q f b.
          let z = h.fits s seen t k q f b in
          (ap (λ (w : Fitting). w seen (next_by t.labels (length t.locals))) (block_part (p s t).0) ∙ z.0, z.1);
    }

    -- branches that fit
    pub record Branching : Type 0 where
      pub part : JudgedBranch
      pub inner : ℕ
      pub fits : BranchFits part inner

    abbrev parts : List Branching → List JudgedBranch
    parts [] = []
    parts (b ∷ bs) = b.part ∷ parts bs

    abbrev inners : List Branching → ℕ
    inners [] = 0
    inners (b ∷ bs) = b.inner + inners bs

    parts_grow : (bs : List Branching) → BranchesGrow (parts bs)
    parts_grow [] = tt
    parts_grow (b ∷ bs) = (b.fits.grows, parts_grow bs)

    pub record BranchesFit (bs : List Branching) (seen : Seen) (done : List BranchMade) (t : Tally) (result : List BranchMade × Tally) : Type 0 where
      pub made : List BranchMade
      pub is : result.0 ≡ done ++ made
      pub goes : Goes c (branches_in_order (map (branch_part c) made)) seen t result.1
      pub labels : result.1.labels ≡ t.labels + inners bs
      pub as_many : length made ≡ length bs

    branches_fit : (bs : List Branching) (s : Sight) (seen : Seen) (done : List BranchMade) (t : Tally) → Shown c s seen → ResultIs r seen.result → Fine c (branches s done (parts bs) t).1 → t.labels + inners bs < 65536
        → BranchesFit bs seen done t (branches s done (parts bs) t)
    branches_fit [] s seen done t k q f b = record { made = []; is = sym (append-nil done); goes = refl; labels = omega arith; as_many = refl }
    branches_fit (x ∷ bs) s seen done t k q f b =
        let u : BranchMade × Tally = x.part s t in
        let fine : Fine c u.1 = fine_before c (grow_branches s (done ++ u.0 ∷ []) (parts bs) (parts_grow bs) u.1) f in
        let one = x.fits.fits s seen t k q fine (omega (arith, b)) in
        let go = branches_fit bs s seen (done ++ u.0 ∷ []) u.1 k q f (omega (arith, b, one.1)) in
        record {
          made = u.0 ∷ go.made;
          is = go.is ∙ append_assoc done (u.0 ∷ []) go.made;
          goes = rw one.0 go.goes;
          labels = go.labels ∙ omega (arith, one.1);
          as_many = ap suc go.as_many;
        }

    -- ---- what is repeated

    three_here : (t : Tally) → Fine c (three_locals t).1 → takes_three c (length t.locals) (next_by t.labels (length t.locals)) ≡ Some (next_by (three_locals t).1.labels (length (three_locals t).1.locals))
    three_here t f =
        let a : List Made = t.locals ++ made.Loop ∷ [] in
        let b : List Made = a ++ made.Loop ∷ [] in
        let one : Pre a c.locals = pre_then (record { more = made.Loop ∷ made.Loop ∷ []; is = append_assoc a (made.Loop ∷ []) (made.Loop ∷ []) }) f.known in
        let two : Pre b c.locals = pre_then (record { more = made.Loop ∷ []; is = refl }) f.known in
        let n : ℕ = length t.locals in
        let first : slice_get c.locals n ≡ Some made.Loop = pre_get t.locals made.Loop c.locals one in
        let second : slice_get c.locals (n + 1) ≡ Some made.Loop = ap (slice_get c.locals) (omega (arith, one_longer t.locals made.Loop)) ∙ pre_get a made.Loop c.locals two in
        let third : slice_get c.locals (n + 2) ≡ Some made.Loop = ap (slice_get c.locals) (omega (arith, one_longer t.locals made.Loop, one_longer a made.Loop)) ∙ pre_get b made.Loop c.locals f.known in
        let count : n + 3 ≡ length (b ++ made.Loop ∷ []) = omega (arith, one_longer t.locals made.Loop, one_longer a made.Loop, one_longer b made.Loop) in
        rw (same_number n, first, second, third) (ap (λ (z : ℕ). Some (next_by t.labels z)) count)

    before_three : (t : Tally) → Grew t (three_locals t).1
    before_three t = grow_three t

    while_fits : (d : Cond) (ks : List (Known c r)) → joins_two d ≡ true → StatFits (λ s. spec.one_stat r (Simple-F.While d (lines c r ks) (record { item = 0; line = 0 })) s) (total c r ks)
    while_fits d ks j = record {
      grows = λ s t. grew_then (grow_found _ (test_in s d) t) (grew_then (grow_sequence s (lines c r ks) (lines_grow c r ks) _) (grew_same _));
      fits = λ s seen t k q f b.
          let u : Test × Tally = test_or (test_in s d) t in
          let none : u.1.faults ≡ [] = pre_none u.1.faults _ f.none (grow_sequence s (lines c r ks) (lines_grow c r ks) u.1).faults in
          let z = settled (tests.Compare rel.Equal (values.Number 0) (values.Number 0)) (test_in s d) t (test_certain s (shown_knows c s seen k) d) none in
          let back : (List Labelled × Tally) = sequence s (lines c r ks) t in
          let moved : sequence s (lines c r ks) u.1 ≡ back = ap (λ (y : Test × Tally). sequence s (lines c r ks) y.1) z.gives in
          let fine : Fine c back.1 = subst (λ (y : List Labelled × Tally). Fine c y.1) moved f in
          let go = sequence_fits c r ks s seen t k q fine b in
          let fit = test_judged s c (agrees c s seen k.holds) d z.value j z.is in
          let is_test : u.0 ≡ z.value = ap (λ (y : Test × Tally). y.0) z.gives in (
            ap (λ (x : Test). stat_part c (stats.While x (sequence s (lines c r ks) u.1).0) seen (next_by t.labels (length t.locals))) is_test
                ∙ ap (λ (y : List Labelled × Tally). stat_part c (stats.While z.value y.0) seen (next_by t.labels (length t.locals))) moved
                ∙ ap (λ (w : Fitting). w seen (next_by t.labels (length t.locals))) (while_part z.value back.0) ∙ rw fit go.0 ∙ sym (ap (λ (y : List Labelled × Tally). Some (next_by y.1.labels (length y.1.locals))) moved),
            ap (λ (y : List Labelled × Tally). y.1.labels) moved ∙ go.1,
          );
    }

    to_fits : (e : Expr) (ks : List (Known c r)) → StatFits (λ s. to_loop s e (lines c r ks)) (total c r ks)
    to_fits e ks = record {
      grows = λ s t. grow_to s e (lines c r ks) (lines_grow c r ks) t;
      fits = λ s seen t k q f b.
          let u : Value × Tally = int_in s e t in
          let three : ℕ × Tally = three_locals u.1 in
          let fine_three : Fine c three.1 = fine_before c (grow_sequence s (lines c r ks) (lines_grow c r ks) three.1) f in
          let z = int_found s seen e t k (fine_before c (before_three u.1) fine_three).none in
          let n : ℕ × Tally = three_locals t in
          let moved : to_loop s e (lines c r ks) t ≡ (stats.To n.0 z.value (sequence s (lines c r ks) n.1).0, (sequence s (lines c r ks) n.1).1) =
          ap (λ (y : Value × Tally). let m = three_locals y.1 in (stats.To m.0 y.0 (sequence s (lines c r ks) m.1).0, (sequence s (lines c r ks) m.1).1)) z.gives in
          let fine : Fine c (sequence s (lines c r ks) n.1).1 = subst (λ (y : Stat × Tally). Fine c y.1) moved f in
          let fine_n : Fine c n.1 = fine_before c (grow_sequence s (lines c r ks) (lines_grow c r ks) n.1) fine in
          let go = sequence_fits c r ks s seen n.1 k q fine b in (
            ap (λ (y : Stat × Tally). stat_part c y.0 seen (next_by t.labels (length t.locals))) moved
                ∙ ap (λ (w : Fitting). w seen (next_by t.labels (length t.locals))) (to_part (length t.locals) z.value (sequence s (lines c r ks) n.1).0)
                ∙ rw (z.is_one, three_here t fine_n) go.0 ∙ sym (ap (λ (y : Stat × Tally). Some (next_by y.1.labels (length y.1.locals))) moved),
            ap (λ (y : Stat × Tally). y.1.labels) moved ∙ go.1,
          );
    }

    -- ---- FOR

    pub record BoundsFound (s : Sight) (d : Control) (limit : Expr) (t : Tally) : Type 0 where
      pub start : Value
      pub step : Option Value
      pub end : Value
      pub gives : bounds_in s d limit t ≡ (record { start = start; step = step; end = end }, t)
      pub ints : tree.is_int_value c start && (tree.is_int_step c step && tree.is_int_value c end) ≡ true

    bounds_found : (s : Sight) (seen : Seen) (d : Control) (limit : Expr) (t : Tally) → Shown c s seen → (bounds_in s d limit t).1.faults ≡ [] → BoundsFound s d limit t
    bounds_found s seen d limit t k f =
        let u : Value × Tally = int_in s d.start t in
        let v : Option Value × Tally = any_int_in s d.step u.1 in
        let third : (int_in s limit v.1).1.faults ≡ [] = f in
        let second : v.1.faults ≡ [] = pre_none v.1.faults _ third (grow_int s limit v.1).faults in
        let first : u.1.faults ≡ [] = pre_none u.1.faults _ second (grow_any_int s d.step u.1).faults in
        let a = int_found s seen d.start t k first in
        let at_u : any_int_in s d.step u.1 ≡ any_int_in s d.step t = ap (λ (y : Value × Tally). any_int_in s d.step y.1) a.gives in
        let b = any_int_found s seen d.step t k (sym (ap (λ (y : Option Value × Tally). y.1.faults) at_u) ∙ second) in
        let at_v : int_in s limit v.1 ≡ int_in s limit t = ap (λ (y : Option Value × Tally). int_in s limit y.1) (at_u ∙ b.gives) in
        let e = int_found s seen limit t k (sym (ap (λ (y : Value × Tally). y.1.faults) at_v) ∙ third) in
        record {
          start = a.value;
          step = b.value;
          end = e.value;
          gives =
              ap (λ (y : Value × Tally). (record { start = y.0; step = (any_int_in s d.step y.1).0; end = (int_in s limit (any_int_in s d.step y.1).1).0 }, (int_in s limit (any_int_in s d.step y.1).1).1)) a.gives
              ∙ ap (λ (y : Option Value × Tally). (record { start = a.value; step = y.0; end = (int_in s limit y.1).0 }, (int_in s limit y.1).1)) b.gives
              ∙ ap (λ (y : Value × Tally). (record { start = a.value; step = b.value; end = y.0 }, y.1)) e.gives;
          ints = both_true (tree.is_int_value c a.value) (tree.is_int_step c b.value && tree.is_int_value c e.value) a.is_one (both_true (tree.is_int_step c b.value) (tree.is_int_value c e.value) b.is_one e.is_one);
        }

    -- the three locals of a loop are there
    loop_there : (t : Tally) → Fine c (three_locals t).1 → slice_get c.locals (length t.locals) ≡ Some made.Loop
    loop_there t f =
        let a : List Made = t.locals ++ made.Loop ∷ [] in
        pre_get t.locals made.Loop c.locals (pre_then (record { more = made.Loop ∷ made.Loop ∷ []; is = append_assoc a (made.Loop ∷ []) (made.Loop ∷ []) }) f.known)

    for_part : (i : ℕ) (a : Value) (b : Option Value) (d : Value) (xs : List Labelled) → stat_part c (stats.For i a b d xs) ≡ tree.one_stat c (Stat-F.For i a b d (map (marked c) xs))
    for_part i a None d xs = unstepped_part i a d xs
    for_part i a (Some b) d xs = stepped_part i a b d xs

    for_fits : (d : Control) (e : Expr) (ks : List (Known c r)) → StatFits (λ s. for_loop s d e (lines c r ks)) (total c r ks)
    for_fits d e ks = record {
      grows = λ s t. grow_for s d e (lines c r ks) (lines_grow c r ks) t;
      fits = λ s seen t k q f b.
          let u : Bounds × Tally = bounds_in s d e t in
          let three : ℕ × Tally = three_locals u.1 in
          let fine_three : Fine c three.1 = fine_before c (grow_sequence (within (variable_of d three.0) s) (lines c r ks) (lines_grow c r ks) three.1) f in
          let z = bounds_found s seen d e t k (fine_before c (before_three u.1) fine_three).none in
          let n : ℕ × Tally = three_locals t in
          let body : ℕ → List Labelled × Tally = λ i. sequence (within (variable_of d i) s) (lines c r ks) n.1 in
          let moved : for_loop s d e (lines c r ks) t ≡ (stats.For n.0 z.start z.step z.end (body n.0).0, (body n.0).1) =
          ap (λ (y : Bounds × Tally). let m = three_locals y.1 in (stats.For m.0 y.0.start y.0.step y.0.end (sequence (within (variable_of d m.0) s) (lines c r ks) m.1).0, (sequence (within (variable_of d m.0) s) (lines c r ks) m.1).1)) z.gives in
          let fine : Fine c (body n.0).1 = subst (λ (y : Stat × Tally). Fine c y.1) moved f in
          let fine_n : Fine c n.1 = fine_before c (grow_sequence (within (variable_of d n.0) s) (lines c r ks) (lines_grow c r ks) n.1) fine in
          let entry : EntryHolds c seen (d.name.name, meaning.Loop n.0) = (loop_there t fine_n, tt) in
          let inside = shown_within c s seen (variable_of d n.0) k (declared_holds c seen d.name.name (meaning.Loop n.0) [] tt entry) (tt, tt) in
          let go = sequence_fits c r ks (within (variable_of d n.0) s) seen n.1 inside q fine b in (
            ap (λ (y : Stat × Tally). stat_part c y.0 seen (next_by t.labels (length t.locals))) moved
                ∙ ap (λ (w : Fitting). w seen (next_by t.labels (length t.locals))) (for_part (length t.locals) z.start z.step z.end (body n.0).0)
                ∙ rw (z.ints, three_here t fine_n) go.0 ∙ sym (ap (λ (y : Stat × Tally). Some (next_by y.1.labels (length y.1.locals))) moved),
            ap (λ (y : Stat × Tally). y.1.labels) moved ∙ go.1,
          );
    }

    -- ---- IF

    if_fits : (bs : List Branching) → nat_lt 0 (length bs) ≡ true → StatFits (λ s. spec.one_stat r (Simple-F.If (parts bs) None (record { item = 0; line = 0 })) s) (inners bs + 0)
    if_fits bs some = record {
      grows = λ s t. grew_then (grow_branches s [] (parts bs) (parts_grow bs) t) (grew_same _);
      fits = λ s seen t k q f b.
          let go = branches_fit bs s seen [] t k q f (omega (arith, b)) in
          let many : nat_lt 0 (length (map (branch_part c) go.made)) ≡ true = ap (nat_lt 0) (length_mapped go.made ∙ go.as_many) ∙ some in (
            ap (λ (x : List BranchMade). stat_part c (stats.If x None) seen (next_by t.labels (length t.locals))) go.is
                ∙ ap (λ (w : Fitting). w seen (next_by t.labels (length t.locals))) (bare_part go.made) ∙ rw (many, go.goes) refl,
            go.labels ∙ omega arith,
          );
    }
      where
        length_mapped : (xs : List BranchMade) → length (map (branch_part c) xs) ≡ length xs
        length_mapped [] = refl
        length_mapped (x ∷ xs) = ap suc (length_mapped xs)

    else_fits : (bs : List Branching) (ks : List (Known c r)) → nat_lt 0 (length bs) ≡ true → StatFits (λ s. spec.one_stat r (Simple-F.If (parts bs) (Some (lines c r ks)) (record { item = 0; line = 0 })) s) (inners bs + total c r ks)
    else_fits bs ks some = record {
      grows = λ s t. grew_then (grow_branches s [] (parts bs) (parts_grow bs) t) (grew_then (grow_sequence s (lines c r ks) (lines_grow c r ks) _) (grew_same _));
      fits = λ s seen t k q f b.
          let u : List BranchMade × Tally = branches s [] (parts bs) t in
          let fine : Fine c u.1 = fine_before c (grow_sequence s (lines c r ks) (lines_grow c r ks) u.1) f in
          let go = branches_fit bs s seen [] t k q fine (omega (arith, b)) in
          let other = sequence_fits c r ks s seen u.1 k q f (omega (arith, b, go.labels)) in
          let many : nat_lt 0 (length (map (branch_part c) go.made)) ≡ true = ap (nat_lt 0) (length_mapped go.made ∙ go.as_many) ∙ some in (
            ap (λ (x : List BranchMade). stat_part c (stats.If x (Some (sequence s (lines c r ks) u.1).0)) seen (next_by t.labels (length t.locals))) go.is
                ∙ ap (λ (w : Fitting). w seen (next_by t.labels (length t.locals))) (other_part go.made (sequence s (lines c r ks) u.1).0) ∙ rw (many, go.goes) other.0,
            other.1 ∙ omega (arith, go.labels),
          );
    }
      where
        length_mapped : (xs : List BranchMade) → length (map (branch_part c) xs) ≡ length xs
        length_mapped [] = refl
        length_mapped (x ∷ xs) = ap suc (length_mapped xs)

    branch_fits : (d : Cond) (ks : List (Known c r)) → joins_two d ≡ true → BranchFits (λ s. spec.one_branch r (record { test = d; taken = lines c r ks; at = record { item = 0; line = 0 } }) s) (total c r ks)
    branch_fits d ks j = record {
      grows = λ s t. grew_then (grow_found _ (test_in s d) t) (grew_then (grow_sequence s (lines c r ks) (lines_grow c r ks) _) (grew_same _));
      fits = λ s seen t k q f b.
          let u : Test × Tally = test_or (test_in s d) t in
          let none : u.1.faults ≡ [] = pre_none u.1.faults _ f.none (grow_sequence s (lines c r ks) (lines_grow c r ks) u.1).faults in
          let z = settled (tests.Compare rel.Equal (values.Number 0) (values.Number 0)) (test_in s d) t (test_certain s (shown_knows c s seen k) d) none in
          let back : (List Labelled × Tally) = sequence s (lines c r ks) t in
          let moved : sequence s (lines c r ks) u.1 ≡ back = ap (λ (y : Test × Tally). sequence s (lines c r ks) y.1) z.gives in
          let fine : Fine c back.1 = subst (λ (y : List Labelled × Tally). Fine c y.1) moved f in
          let go = sequence_fits c r ks s seen t k q fine b in
          let fit = test_judged s c (agrees c s seen k.holds) d z.value j z.is in
          let is_test : u.0 ≡ z.value = ap (λ (y : Test × Tally). y.0) z.gives in (
            ap (λ (x : Test). branch_part c (roll-Branched (record { test = x; taken = (sequence s (lines c r ks) u.1).0 })) seen (next_by t.labels (length t.locals))) is_test
                ∙ ap (λ (y : List Labelled × Tally). branch_part c (roll-Branched (record { test = z.value; taken = y.0 })) seen (next_by t.labels (length t.locals))) moved
                ∙ ap (λ (w : Fitting). w seen (next_by t.labels (length t.locals)))
                (branched_at (roll-Branched (record { test = z.value; taken = back.0 })) (record { test = z.value; taken = back.0 }) (rolled_branched (record { test = z.value; taken = back.0 })))
                ∙ rw fit go.0 ∙ sym (ap (λ (y : List Labelled × Tally). Some (next_by y.1.labels (length y.1.locals))) moved),
            ap (λ (y : List Labelled × Tally). y.1.labels) moved ∙ go.1,
          );
    }

    -- ---- locals

    noted_locals : (b : Bool) (g : CheckFault) (t : Tally) → (noted_if b g t).locals ≡ t.locals
    noted_locals true g t = refl
    noted_locals false g t = refl

    noted_labels : (b : Bool) (g : CheckFault) (t : Tally) → (noted_if b g t).labels ≡ t.labels
    noted_labels true g t = refl
    noted_labels false g t = refl

    pub record StartFound (s : Sight) (n : Ident) (m : Mode) (e : Option Expr) (t : Tally) : Type 0 where
      pub value : Option Value
      pub gives : start_in s n m e t ≡ (value, t)
      pub fits : tree.start_fits c (Some (made.Variable m)) value ≡ true

    no_start : (n : Ident) (m : Mode) (t : Tally) (b : Bool) → starts_at_zero (out-Mode m) ≡ b → (noted_if (not b) (fault.BadStart n.at) t).faults ≡ [] → (noted_if (not b) (fault.BadStart n.at) t ≡ t) × (starts_at_zero (out-Mode m) ≡ true)
    no_start n m t true e f = (refl, e)
    no_start n m t false e f = absurd (one_is_there t.faults (fault.BadStart n.at) f)

    start_found : (s : Sight) (seen : Seen) (n : Ident) (m : Mode) (e : Option Expr) (t : Tally) → Shown c s seen → IsValue m → (start_in s n m e t).1.faults ≡ [] → StartFound s n m e t
    start_found s seen n m None t k v f =
        let z = no_start n m t (starts_at_zero (out-Mode m)) refl f in
        record { value = None; gives = ap (λ (y : Tally). (None, y)) z.0; fits = z.1 }
    start_found s seen n m (Some e) t k v f =
        let z = settled (values.Number 0) (value_in s e m) t (value_certain s (shown_knows c s seen k) e m) f in
        record { value = Some z.value; gives = ap (λ (y : Value × Tally). (Some y.0, y.1)) z.gives; fits = value_judged s c (agrees c s seen k.holds) e m z.value v z.is }

    pub record DeclaredFits (d : Declared) (seen : Seen) (t : Tally) (result : Declared × Tally) : Type 0 where
      pub starts : List LocalStart
      pub is : result.0.starts ≡ d.starts ++ starts
      pub goes : declares c starts (next_by t.labels (length t.locals)) ≡ Some (next_by result.1.labels (length result.1.locals))
      pub holds : Shown c result.0.sight seen
      pub labels : result.1.labels ≡ t.labels

    next_moved : (a b i j : ℕ) → a ≡ b → i ≡ j → Some (next_by a i) ≡ Some (next_by b j)
    next_moved a b i j e h = rw (e, h) refl

    -- one start in front of others
    one_declared : (i : ℕ) (x : Option Value) (m : Mode) (ds : List LocalStart) (a : ℕ) → slice_get c.locals i ≡ Some (made.Variable m) → tree.start_fits c (Some (made.Variable m)) x ≡ true
        → declares c (record { local = i; start = x } ∷ ds) (next_by a i) ≡ declares c ds (next_by a (suc i))
    one_declared i x m ds a g h = rw (same_number i, g, h) refl

    local_fits : (m : Mode) (d : Declared) (n : Local) (seen : Seen) (t : Tally) → Shown c d.sight seen → Fine c (local_fit m d n t).1 → DeclaredFits d seen t (local_fit m d n t)
    local_fits m d n seen t k f =
        let u : Option Value × Tally = start_in d.sight n.name m n.start t in
        let here : (local_fit m d n t).1.locals ≡ u.1.locals ++ made.Variable m ∷ [] = ap (λ (l : List Made). l ++ made.Variable m ∷ []) (noted_locals _ _ u.1) in
        let v : IsValue m = local_value (length u.1.locals) m (pre_get u.1.locals (made.Variable m) c.locals (subst (λ (l : List Made). Pre l c.locals) here f.known)) in
        let fine_u : Fine c u.1 = fine_before c (grow_placed (next_local u.1) m u.0 d n u.1) f in
        let z = start_found d.sight seen n.name m n.start t k v fine_u.none in
        let moved : local_fit m d n t ≡ placed (next_local t) m z.value d n t = ap (λ (y : Option Value × Tally). placed (next_local y.1) m y.0 d n y.1) z.gives in
        let w : Declared × Tally = placed (next_local t) m z.value d n t in
        let fine_w : Fine c w.1 = subst (λ (y : Declared × Tally). Fine c y.1) moved f in
        let locals_are : w.1.locals ≡ t.locals ++ made.Variable m ∷ [] = ap (λ (l : List Made). l ++ made.Variable m ∷ []) (noted_locals _ _ t) in
        let there : slice_get c.locals (length t.locals) ≡ Some (made.Variable m) = pre_get t.locals (made.Variable m) c.locals (subst (λ (l : List Made). Pre l c.locals) locals_are fine_w.known) in
        let count : suc (length t.locals) ≡ length w.1.locals = sym (one_longer t.locals (made.Variable m)) ∙ ap length (sym locals_are) in
        let entry : EntryHolds c seen (n.name.name, meaning.Local (next_local t) m) = ((there, v), tt) in
        let labels_are : w.1.labels ≡ t.labels = noted_labels _ _ t in
        record {
          starts = record { local = length t.locals; start = z.value } ∷ [];
          is = ap (λ (y : Declared × Tally). y.0.starts) moved;
          goes = one_declared (length t.locals) z.value m [] t.labels there z.fits ∙ next_moved t.labels w.1.labels (suc (length t.locals)) (length w.1.locals) (sym labels_are) count ∙ sym (ap (λ (y : Declared × Tally). Some (next_by y.1.labels (length y.1.locals))) moved);
          holds = subst (λ (y : Declared × Tally). Shown c y.0.sight seen) (sym moved) (shown_named c d.sight seen n.name.name (meaning.Local (next_local t) m) k entry tt);
          labels = ap (λ (y : Declared × Tally). y.1.labels) moved ∙ labels_are;
        }

    declares_on : (xs ys : List LocalStart) (a i b j : ℕ) → declares c xs (next_by a i) ≡ Some (next_by b j) → declares c (xs ++ ys) (next_by a i) ≡ declares c ys (next_by b j)
    declares_on [] ys a i b j e = next_same a i b j e where
      next_same : (a i b j : ℕ) → Some (next_by a i) ≡ Some (next_by b j) → declares c ys (next_by a i) ≡ declares c ys (next_by b j)
      next_same a i b j e = ap (λ o. with o (declares c ys)) e
    declares_on (x ∷ xs) ys a i b j e = by_test (x.local == i && tree.start_fits c (slice_get c.locals x.local) x.start) (λ h. declares_on xs ys a (suc i) b j h) e where
      by_test : (t : Bool) → (declares c xs (next_by a (suc i)) ≡ Some (next_by b j) → declares c (xs ++ ys) (next_by a (suc i)) ≡ declares c ys (next_by b j))
          → (if t then declares c xs (next_by a (suc i)) else None) ≡ Some (next_by b j) → (if t then declares c (xs ++ ys) (next_by a (suc i)) else None) ≡ declares c ys (next_by b j)
      by_test true go h = go h
      by_test false go h = absurd cc

    locals_fit : (m : Mode) (d : Declared) (ns : List Local) (seen : Seen) (t : Tally) → Shown c d.sight seen → Fine c (locals_more (Ok m) d ns t).1 → DeclaredFits d seen t (locals_more (Ok m) d ns t)
    locals_fit m d [] seen t k f = record { starts = []; is = sym (append-nil d.starts); goes = refl; holds = k; labels = refl }
    locals_fit m d (n ∷ ns) seen t k f =
        let u : Declared × Tally = local_fit m d n t in
        let one = local_fits m d n seen t k (fine_before c (grow_locals (Ok m) u.0 ns u.1) f) in
        let go = locals_fit m u.0 ns seen u.1 one.holds f in
        record {
          starts = one.starts ++ go.starts;
          is = go.is ∙ ap (λ (l : List LocalStart). l ++ go.starts) one.is ∙ append_assoc d.starts one.starts go.starts;
          goes = declares_on one.starts go.starts t.labels (length t.locals) u.1.labels (length u.1.locals) one.goes ∙ go.goes;
          holds = go.holds;
          labels = go.labels ∙ one.labels;
        }

    line_fits : (d : Declared) (l : Locals) (seen : Seen) (t : Tally) → Shown c d.sight seen → Fine c (line_more d l t).1 → DeclaredFits d seen t (line_more d l t)
    line_fits d l seen t k f =
        let u : Outcome Mode × Tally = mode_or (mode_in d.sight l.at l.mode) t in
        let z = mode_found (mode_in d.sight l.at l.mode) t (fine_before c (grow_locals u.0 d l.names u.1) f).none in
        let moved : line_more d l t ≡ locals_more (Ok z.mode) d l.names t = ap (λ (y : Outcome Mode × Tally). locals_more y.0 d l.names y.1) z.gives in
        subst (DeclaredFits d seen t) (sym moved) (locals_fit z.mode d l.names seen t k (subst (λ (y : Declared × Tally). Fine c y.1) moved f))

    declarations_fit : (d : Declared) (ls : List Locals) (seen : Seen) (t : Tally) → Shown c d.sight seen → Fine c (declarations d ls t).1 → DeclaredFits d seen t (declarations d ls t)
    declarations_fit d [] seen t k f = record { starts = []; is = sym (append-nil d.starts); goes = refl; holds = k; labels = refl }
    declarations_fit d (l ∷ ls) seen t k f =
        let u : Declared × Tally = line_more d l t in
        let one = line_fits d l seen t k (fine_before c (grow_declarations u.0 ls u.1) f) in
        let go = declarations_fit u.0 ls seen u.1 one.holds f in
        record {
          starts = one.starts ++ go.starts;
          is = go.is ∙ ap (λ (x : List LocalStart). x ++ go.starts) one.is ∙ append_assoc d.starts one.starts go.starts;
          goes = declares_on one.starts go.starts t.labels (length t.locals) u.1.labels (length u.1.locals) one.goes ∙ go.goes;
          holds = go.holds;
          labels = go.labels ∙ one.labels;
        }

    body_fits : (ls : List Locals) (ks : List (Known c r)) → BodyFits (λ s. spec.one_body r (record { locals = ls; statements = lines c r ks; at = record { item = 0; line = 0 } }) s) (total c r ks)
    body_fits ls ks = record {
      grows = λ s t. grew_then (grow_declarations (before (within [] s)) ls t) (grew_then (grow_sequence _ (lines c r ks) (lines_grow c r ks) _) (grew_same _));
      fits = λ s seen t k q f b.
          let u : Declared × Tally = declarations (before (within [] s)) ls t in
          let fine : Fine c u.1 = fine_before c (grow_sequence u.0.sight (lines c r ks) (lines_grow c r ks) u.1) f in
          let d = declarations_fit (before (within [] s)) ls seen t (shown_within c s seen [] k tt tt) fine in
          let go = sequence_fits c r ks u.0.sight seen u.1 d.holds q f (omega (arith, b, d.labels)) in
          let xs : List Labelled = (sequence u.0.sight (lines c r ks) u.1).0 in (
            ap (λ (x : List LocalStart). body_part c (roll-Made (record { locals = x; statements = xs })) seen (next_by t.labels (length t.locals))) d.is
                ∙ ap (λ (w : Fitting). w seen (next_by t.labels (length t.locals)))
                (made_at (roll-Made (record { locals = d.starts; statements = xs })) (record { locals = d.starts; statements = xs }) (rolled_made (record { locals = d.starts; statements = xs })))
                ∙ rw d.goes go.0,
            go.1 ∙ omega (arith, d.labels),
          );
    }

    -- ---- the syntax tree

    as_stat : {p q : JudgedStat} {m n : ℕ} → p ≡ q → m ≡ n → StatFits q n → StatFits p m
    as_stat {p = p} {q = q} {m = m} {n = n} e h f = subst (λ (z : JudgedStat). StatFits z m) (sym e) (subst (λ (z : ℕ). StatFits q z) (sym h) f)

    as_body : {p q : JudgedBody} {m n : ℕ} → p ≡ q → m ≡ n → BodyFits q n → BodyFits p m
    as_body {p = p} {q = q} {m = m} {n = n} e h f = subst (λ (z : JudgedBody). BodyFits z m) (sym e) (subst (λ (z : ℕ). BodyFits q z) (sym h) f)

    as_branch : {p q : JudgedBranch} {m n : ℕ} → p ≡ q → m ≡ n → BranchFits q n → BranchFits p m
    as_branch {p = p} {q = q} {m = m} {n = n} e h f = subst (λ (z : JudgedBranch). BranchFits z m) (sym e) (subst (λ (z : ℕ). BranchFits q z) (sym h) f)

    abbrev SimpleM : Simple → Type 0
    SimpleM x = simple_is_broad x ≡ true → StatFits (spec.stat r x) (labels_in_simple x)

    abbrev BodyM : Body → Type 0
    BodyM x = body_is_broad x ≡ true → BodyFits (spec.body r x) (labels_in_body x)

    abbrev BranchM : Branch → Type 0
    BranchM x = branch_is_broad x ≡ true → BranchFits (spec.branch r x) (labels_in_branch x)

    record LineFits (x : Stmt) : Type 0 where
      known : Known c r
      is : known.line ≡ spec.line r x
      count : length (labels_at known.line) + known.inner ≡ labels_in_line x

    abbrev LineM : Stmt → Type 0
    LineM x = line_is_broad x ≡ true → LineFits x

    abbrev SimplePair : Type 0
    SimplePair = (x : Simple) × SimpleM x

    abbrev BodyPair : Type 0
    BodyPair = (x : Body) × BodyM x

    abbrev BranchPair : Type 0
    BranchPair = (x : Branch) × BranchM x

    abbrev LinePair : Type 0
    LinePair = (x : Stmt) × LineM x

    stat_at : (x : Simple) (l : Simple-F Simple Body Branch Stmt) → out-Simple x ≡ l
        → spec.stat r x ≡ spec.one_stat r (map-Simple Simple Body Branch Stmt JudgedStat JudgedBody JudgedBranch Line (spec.stat r) (spec.body r) (spec.branch r) (spec.line r) l)
    stat_at x l o = rw (fold_out-Simple, o) refl

    count_at : (x : Simple) (l : Simple-F Simple Body Branch Stmt) → out-Simple x ≡ l
        → labels_in_simple x ≡ simple_labels (map-Simple Simple Body Branch Stmt ℕ ℕ ℕ ℕ labels_in_simple labels_in_body labels_in_branch labels_in_line l)
    count_at x l o = rw (fold_out-Simple, o) refl

    broad_at : (x : Simple) (l : Simple-F Simple Body Branch Stmt) → out-Simple x ≡ l
        → simple_is_broad x ≡ simple_stands (map-Simple Simple Body Branch Stmt Bool Bool Bool Bool simple_is_broad body_is_broad branch_is_broad line_is_broad l)
    broad_at x l o = rw (fold_out-Simple, o) refl

    record Knowns (ys : List LinePair) : Type 0 where
      all_known : List (Known c r)
      are : map (spec.line r) (map (λ (e : LinePair). e.0) ys) ≡ lines c r all_known
      count : sum (map labels_in_line (map (λ (e : LinePair). e.0) ys)) ≡ total c r all_known

    more_lines : (x y : Line) (xs ys : List Line) → x ≡ y → xs ≡ ys → x ∷ xs ≡ y ∷ ys
    more_lines x y xs ys e h = cc

    knowns : (ys : List LinePair) → all (map line_is_broad (map (λ (e : LinePair). e.0) ys)) ≡ true → Knowns ys
    knowns [] b = record { all_known = []; are = refl; count = omega arith }
    knowns (y ∷ ys) b =
        let rest_broad : Bool = all (map line_is_broad (map (λ (e : LinePair). e.0) ys)) in
        let one = y.1 (left_of (line_is_broad y.0) rest_broad b) in
        let go = knowns ys (right_of (line_is_broad y.0) rest_broad b) in
        record {
          all_known = one.known ∷ go.all_known;
          are = more_lines (spec.line r y.0) one.known.line _ _ (sym one.is) go.are;
          count = omega (arith, one.count, go.count);
        }

    record Branchings (ys : List BranchPair) : Type 0 where
      branchings : List Branching
      are : map (spec.branch r) (map (λ (e : BranchPair). e.0) ys) ≡ parts branchings
      count : sum (map labels_in_branch (map (λ (e : BranchPair). e.0) ys)) ≡ inners branchings
      as_many : length branchings ≡ length ys

    branchings_of : (ys : List BranchPair) → all (map branch_is_broad (map (λ (e : BranchPair). e.0) ys)) ≡ true → Branchings ys
    branchings_of [] b = record { branchings = []; are = refl; count = refl; as_many = refl }
    branchings_of (y ∷ ys) b =
        let rest_broad : Bool = all (map branch_is_broad (map (λ (e : BranchPair). e.0) ys)) in
        let one = y.1 (left_of (branch_is_broad y.0) rest_broad b) in
        let go = branchings_of ys (right_of (branch_is_broad y.0) rest_broad b) in
        record {
          branchings = record { part = spec.branch r y.0; inner = labels_in_branch y.0; fits = one } ∷ go.branchings;
          are = ap (λ (z : List JudgedBranch). spec.branch r y.0 ∷ z) go.are;
          count = ap (λ (z : ℕ). labels_in_branch y.0 + z) go.count;
          as_many = ap suc go.as_many;
        }

    mapped_pairs : (ys : List BranchPair) → length (map branch_is_broad (map (λ (e : BranchPair). e.0) ys)) ≡ length ys
    mapped_pairs [] = refl
    mapped_pairs (y ∷ ys) = ap suc (mapped_pairs ys)

    while_level : (d : Cond) (ys : List LinePair) (at : At) → joins_two d && all (map line_is_broad (map (λ (e : LinePair). e.0) ys)) ≡ true
        → StatFits (spec.one_stat r (Simple-F.While d (map (spec.line r) (map (λ (e : LinePair). e.0) ys)) at)) (sum (map labels_in_line (map (λ (e : LinePair). e.0) ys)))
    while_level d ys at b =
        let ks = knowns ys (right_of (joins_two d) (all (map line_is_broad (map (λ (e : LinePair). e.0) ys))) b) in
        as_stat (ap (λ (z : List Line). spec.one_stat r (Simple-F.While d z at)) ks.are) ks.count (while_fits d ks.all_known (left_of (joins_two d) (all (map line_is_broad (map (λ (e : LinePair). e.0) ys))) b))

    simple_level : (x : Simple) (y : Simple-F SimplePair BodyPair BranchPair LinePair)
        → out-Simple x ≡ map-Simple SimplePair BodyPair BranchPair LinePair Simple Body Branch Stmt (λ e. e.0) (λ e. e.0) (λ e. e.0) (λ e. e.0) y → SimpleM x
    simple_level x (Simple-F.Call h) o b = as_stat (stat_at x (Simple-F.Call h) o) (count_at x (Simple-F.Call h) o) (found_fits (stats.Call (values.Number 0)) (λ s. call_in s h) (λ s seen k q. call_alone h s seen k))
    simple_level x (Simple-F.Assign h e at) o b = as_stat (stat_at x (Simple-F.Assign h e at) o) (count_at x (Simple-F.Assign h e at) o) (found_fits (stats.Call (values.Number 0)) (λ s. assignment_in s h e) (λ s seen k q. assign_alone h e s seen k))
    simple_level x (Simple-F.AssignVal h e at) o b = as_stat (stat_at x (Simple-F.AssignVal h e at) o) (count_at x (Simple-F.AssignVal h e at) o) (found_fits (stats.Call (values.Number 0)) (λ s. val_assignment_in s at h e) (λ s seen k q. val_alone h e at s seen k))
    simple_level x (Simple-F.Goto n at) o b = as_stat (stat_at x (Simple-F.Goto n at) o) (count_at x (Simple-F.Goto n at) o) (goto_fits n)
    simple_level x (Simple-F.Return e at) o b = as_stat (stat_at x (Simple-F.Return e at) o) (count_at x (Simple-F.Return e at) o) (found_fits (stats.Return None) (λ s. returned r s e at) (λ s seen k q. return_by r e at s seen seen.result refl k q))
    simple_level x (Simple-F.Switch e ns at) o b = as_stat (stat_at x (Simple-F.Switch e ns at) o) (count_at x (Simple-F.Switch e ns at) o) (switch_fits e ns (sym (broad_at x (Simple-F.Switch e ns at) o) ∙ b))
    simple_level x (Simple-F.Block p at) o b =
        as_stat (stat_at x (Simple-F.Block p.0 at) o) (count_at x (Simple-F.Block p.0 at) o) (block_fits (spec.body r p.0) (labels_in_body p.0) (p.1 (sym (broad_at x (Simple-F.Block p.0 at) o) ∙ b)))
    simple_level x (Simple-F.If ys None at) o b =
        let bs : List Branch = map (λ (e : BranchPair). e.0) ys in
        let all_broad : Bool = all (map branch_is_broad bs) in
        let h = sym (broad_at x (Simple-F.If bs None at) o) ∙ b in
        let z = branchings_of ys (left_of all_broad true (right_of (nat_lt 0 (length (map branch_is_broad bs))) (all_broad && true) h)) in
        let some : nat_lt 0 (length z.branchings) ≡ true = ap (nat_lt 0) (z.as_many ∙ sym (mapped_pairs ys)) ∙ left_of (nat_lt 0 (length (map branch_is_broad bs))) (all_broad && true) h in
        as_stat (stat_at x (Simple-F.If bs None at) o ∙ ap (λ (w : List JudgedBranch). spec.one_stat r (Simple-F.If w None at)) z.are) (count_at x (Simple-F.If bs None at) o ∙ ap (λ (w : ℕ). w + 0) z.count) (if_fits z.branchings some)
    simple_level x (Simple-F.If ys (Some xs) at) o b =
        let bs : List Branch = map (λ (e : BranchPair). e.0) ys in
        let es : List Stmt = map (λ (e : LinePair). e.0) xs in
        let all_broad : Bool = all (map branch_is_broad bs) in
        let else_broad : Bool = all (map line_is_broad es) in
        let h = sym (broad_at x (Simple-F.If bs (Some es) at) o) ∙ b in
        let g = right_of (nat_lt 0 (length (map branch_is_broad bs))) (all_broad && else_broad) h in
        let z = branchings_of ys (left_of all_broad else_broad g) in
        let ks = knowns xs (right_of all_broad else_broad g) in
        let some : nat_lt 0 (length z.branchings) ≡ true = ap (nat_lt 0) (z.as_many ∙ sym (mapped_pairs ys)) ∙ left_of (nat_lt 0 (length (map branch_is_broad bs))) (all_broad && else_broad) h in
        as_stat (stat_at x (Simple-F.If bs (Some es) at) o ∙ ap (λ (w : List JudgedBranch). spec.one_stat r (Simple-F.If w (Some (map (spec.line r) es)) at)) z.are ∙ ap (λ (w : List Line). spec.one_stat r (Simple-F.If (parts z.branchings) (Some w) at)) ks.are)
        (count_at x (Simple-F.If bs (Some es) at) o ∙ omega (arith, z.count, ks.count)) (else_fits z.branchings ks.all_known some)
    simple_level x (Simple-F.For None limit xs at) o b =
        let es : List Stmt = map (λ (e : LinePair). e.0) xs in
        let ks = knowns xs (sym (broad_at x (Simple-F.For None limit es at) o) ∙ b) in
        as_stat (stat_at x (Simple-F.For None limit es at) o ∙ ap (λ (w : List Line). spec.one_stat r (Simple-F.For None limit w at)) ks.are) (count_at x (Simple-F.For None limit es at) o ∙ ks.count) (to_fits limit ks.all_known)
    simple_level x (Simple-F.For (Some d) limit xs at) o b =
        let es : List Stmt = map (λ (e : LinePair). e.0) xs in
        let ks = knowns xs (sym (broad_at x (Simple-F.For (Some d) limit es at) o) ∙ b) in
        as_stat (stat_at x (Simple-F.For (Some d) limit es at) o ∙ ap (λ (w : List Line). spec.one_stat r (Simple-F.For (Some d) limit w at)) ks.are) (count_at x (Simple-F.For (Some d) limit es at) o ∙ ks.count) (for_fits d limit ks.all_known)
    simple_level x (Simple-F.While d xs at) o b =
        let es : List Stmt = map (λ (e : LinePair). e.0) xs in
        as_stat (stat_at x (Simple-F.While d es at) o) (count_at x (Simple-F.While d es at) o) (while_level d xs at (sym (broad_at x (Simple-F.While d es at) o) ∙ b))

    body_level : (x : Body) (y : Body-F SimplePair BodyPair BranchPair LinePair)
        → out-Body x ≡ map-Body SimplePair BodyPair BranchPair LinePair Simple Body Branch Stmt (λ e. e.0) (λ e. e.0) (λ e. e.0) (λ e. e.0) y → BodyM x
    body_level x y o b =
        let es : List Stmt = map (λ (e : LinePair). e.0) y.statements in
        let part : spec.body r x ≡ spec.one_body r (record { locals = y.locals; statements = map (spec.line r) es; at = y.at }) = rw (fold_out-Body, o) refl in
        let count : labels_in_body x ≡ sum (map labels_in_line es) = rw (fold_out-Body, o) refl in
        let broad : body_is_broad x ≡ all (map line_is_broad es) = rw (fold_out-Body, o) refl in
        let ks = knowns y.statements (sym broad ∙ b) in
        as_body (part ∙ ap (λ (w : List Line). spec.one_body r (record { locals = y.locals; statements = w; at = y.at })) ks.are) (count ∙ ks.count) (body_fits y.locals ks.all_known)

    branch_level : (x : Branch) (y : Branch-F SimplePair BodyPair BranchPair LinePair)
        → out-Branch x ≡ map-Branch SimplePair BodyPair BranchPair LinePair Simple Body Branch Stmt (λ e. e.0) (λ e. e.0) (λ e. e.0) (λ e. e.0) y → BranchM x
    branch_level x y o b =
        let es : List Stmt = map (λ (e : LinePair). e.0) y.taken in
        let part : spec.branch r x ≡ spec.one_branch r (record { test = y.test; taken = map (spec.line r) es; at = y.at }) = rw (fold_out-Branch, o) refl in
        let count : labels_in_branch x ≡ sum (map labels_in_line es) = rw (fold_out-Branch, o) refl in
        let broad : branch_is_broad x ≡ joins_two y.test && all (map line_is_broad es) = rw (fold_out-Branch, o) refl in
        let h = sym broad ∙ b in
        let ks = knowns y.taken (right_of (joins_two y.test) (all (map line_is_broad es)) h) in
        as_branch (part ∙ ap (λ (w : List Line). spec.one_branch r (record { test = y.test; taken = w; at = y.at })) ks.are) (count ∙ ks.count) (branch_fits y.test ks.all_known (left_of (joins_two y.test) (all (map line_is_broad es)) h))

    -- an empty statement
    empty_line : (ls : List Ident) → Known c r
    empty_line ls = record {
      line = record { labels = ls; part = spec.any_stat r None };
      inner = 0;
      grows = λ s t. grew_same t;
      fits = λ s seen t k q f b. (refl, omega arith);
    }

    full_line : (ls : List Ident) (p : JudgedStat) (inner : ℕ) → StatFits p inner → Known c r
    full_line ls p inner h = record {
      line = record { labels = ls; part = spec.any_stat r (Some p) };
      inner = inner;
      grows = λ s t. grew_then (h.grows s t) (grew_same _);
      fits = λ s seen t k q f b. h.fits s seen t k q f b;
    }

    line_cases : (x : Stmt) (y : Stmt-F SimplePair BodyPair BranchPair LinePair) (z : Option SimplePair) → y.simple ≡ z
        → out-Stmt x ≡ map-Stmt SimplePair BodyPair BranchPair LinePair Simple Body Branch Stmt (λ e. e.0) (λ e. e.0) (λ e. e.0) (λ e. e.0) y → LineM x
    unfolding empty_line full_line
    line_cases x y None e o b =
        let part : spec.line r x ≡ record { labels = y.labels; part = spec.any_stat r None } = rw (fold_out-Stmt, o, e) refl in
        let count : labels_in_line x ≡ length y.labels + 0 = rw (fold_out-Stmt, o, e) refl in
        record { known = empty_line y.labels; is = sym part; count = sym count }
    line_cases x y (Some p) e o b =
        let part : spec.line r x ≡ record { labels = y.labels; part = spec.any_stat r (Some (spec.stat r p.0)) } = rw (fold_out-Stmt, o, e) refl in
        let count : labels_in_line x ≡ length y.labels + labels_in_simple p.0 = rw (fold_out-Stmt, o, e) refl in
        let broad : line_is_broad x ≡ simple_is_broad p.0 = rw (fold_out-Stmt, o, e) refl in
        record { known = full_line y.labels (spec.stat r p.0) (labels_in_simple p.0) (p.1 (sym broad ∙ b)); is = sym part; count = sym count }

    line_level : (x : Stmt) (y : Stmt-F SimplePair BodyPair BranchPair LinePair)
        → out-Stmt x ≡ map-Stmt SimplePair BodyPair BranchPair LinePair Simple Body Branch Stmt (λ e. e.0) (λ e. e.0) (λ e. e.0) (λ e. e.0) y → LineM x
    line_level x y o = line_cases x y y.simple refl o

    rolled_simple : (x : Simple-F Simple Body Branch Stmt) → out-Simple (roll-Simple x) ≡ x
    rolled_simple x = search simple_lemmas.the_lemmas

    rolled_body : (x : Body-F Simple Body Branch Stmt) → out-Body (roll-Body x) ≡ x
    rolled_body x = search body_lemmas.the_lemmas

    rolled_branch : (x : Branch-F Simple Body Branch Stmt) → out-Branch (roll-Branch x) ≡ x
    rolled_branch x = search branch_lemmas.the_lemmas

    rolled_line : (x : Stmt-F Simple Body Branch Stmt) → out-Stmt (roll-Stmt x) ≡ x
    rolled_line x = search stmt_lemmas.the_lemmas

    -- a body in which no fault stands fits
    pub body_accepted : (x : Body) → body_is_broad x ≡ true → BodyFits (spec.body r x) (labels_in_body x)
    body_accepted = ind-Body SimpleM BodyM BranchM LineM (λ x y is. simple_level (roll-Simple x) y (rolled_simple x ∙ sym is)) (λ x y is. body_level (roll-Body x) y (rolled_body x ∙ sym is))
        (λ x y is. branch_level (roll-Branch x) y (rolled_branch x ∙ sym is)) (λ x y is. line_level (roll-Stmt x) y (rolled_line x ∙ sym is))
