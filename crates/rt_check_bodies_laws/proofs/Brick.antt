-- A procedure in which no fault stands fits.
use Rattle.std.proofs.Common.{◌≡◌, ℕ, suc, ◌+◌, ◌<◌, ◌==◌, ◌&&◌, not, Bool, true, false, List, [], ◌∷◌, ◌++◌, length, map, Option, Some, None, Ok, Err, if◌then◌else◌, arith, refl, sym, ap, ◌∙◌, subst}
use Rattle.std.specs.List.{list_all}
use Rattle.std.specs.Prelude.{slice_get}
use Rattle.std.proofs.lemmas.Bool.Decides.{nat_tests}
use Rattle.rt_grammar.specs.declared.at.At.{At}
use Rattle.rt_grammar.specs.declared.at.Ident.{Ident}
use Rattle.rt_syntax_exprs.specs.declared.tree.WrittenMode.{WrittenMode}
use Rattle.rt_modes.specs.declared.mode.Mode.{Mode}
use Rattle.rt_bricks.specs.declared.tree.Fields.{Fields}
use Rattle.rt_bricks.specs.declared.tree.ProcedureBrick.{ProcedureBrick}
use Rattle.rt_tree_nodes.specs.declared.brick.Local.{Local as Made}
use Rattle.rt_tree_nodes.specs.declared.brick.Local.TheVariants as made
use Rattle.rt_tree_nodes.specs.declared.statement.Body.{Body as BodyMade, out-Body as out-Made, map-Body as map-Made}
use Rattle.rt_tree_nodes.specs.declared.statement.Branch.{Branch as BranchMade}
use Rattle.rt_tree_nodes.specs.declared.statement.Labelled.{Labelled}
use Rattle.rt_tree_nodes.specs.declared.statement.LocalStart.{LocalStart}
use Rattle.rt_tree_nodes.specs.declared.statement.Stat.{Stat}
use Rattle.rt_tree_nodes.specs.declared.statement.Stat.TheFolds.{fold_out-Body as fold_out-Made}
use Rattle.rt_tree_nodes.specs.Scopes.{Scope, with, passes, with_locals}
use Rattle.rt_tree_nodes.proofs.Same.{same_itself}
use Rattle.rt_check_faults.specs.declared.fault.CheckFault.{CheckFault}
use Rattle.rt_check_faults.specs.declared.fault.CheckFault.TheVariants as fault
use Rattle.rt_exprs.specs.declared.scope.Meaning.TheVariants as meaning
use Rattle.rt_check_faults.specs.Outcomes.{Outcome}
use Rattle.rt_tree.specs.Modules.{local_stands, parameters_first, closes, first_sight, numbers_all, is_last, proc_fits}
use Rattle.rt_tree.specs.Statements as tree
use Rattle.rt_tree.specs.Statements.{Sight as Seen, Part as Fitting, next_by, Marked, labels_end, body_part, marked, closed, declares}
use Rattle.rt_check_bodies.specs.declared.tally.Tally.{Tally}
use Rattle.rt_check_bodies.specs.Parts.{noted_if, next_local, mode_or}
use Rattle.rt_exprs.specs.Sights.{Names, Sight, within}
use Rattle.rt_check_bodies.specs.Sights.{mode_in}
use Rattle.rt_check_bodies.specs.declared.answer.Answer.{Answer}
use Rattle.rt_check_bodies.specs.declared.answer.Answer.TheVariants as answer
use Rattle.rt_bricks_laws.specs.Bodies.{labels_in_body, body_is_broad}
use Rattle.rt_check_bodies.specs.Procedures.{named, group, parameters, answer_in, is_wanted, closed_at, nothing_yet, procedure, faults}
use Rattle.rt_check_bodies.specs.Statements as spec
use Rattle.rt_check_bodies_laws.proofs.Growing.{Pre, pre_same, Grew, grew_same, grew_then, Growing, grow_mode}
use Rattle.rt_check_bodies_laws.specs.Held.{Holds, LevelHolds, IsKnown, LevelKnown, AllKnown, ResultIs}
use Rattle.rt_check_bodies_laws.proofs.Each.{declared_each}
use Rattle.rt_check_bodies_laws.proofs.Holding.{shown_within, declared_holds}
use Rattle.rt_check_bodies_laws.proofs.Sequences.{mode_found, one_is_there, pre_get, Fine, fine_before}
use Rattle.rt_check_bodies_laws.proofs.Accepted.{local_value, body_accepted}

grow_noted : (b : Bool) (g : CheckFault) (t : Tally) → Grew t (noted_if b g t)
grow_noted true g t = record { locals = pre_same t.locals; faults = record { more = g ∷ []; is = refl } }
grow_noted false g t = grew_same t

noted_locals : (b : Bool) (g : CheckFault) (t : Tally) → (noted_if b g t).locals ≡ t.locals
noted_locals true g t = refl
noted_locals false g t = refl

noted_labels : (b : Bool) (g : CheckFault) (t : Tally) → (noted_if b g t).labels ≡ t.labels
noted_labels true g t = refl
noted_labels false g t = refl

grow_named : (l : Names) (n : Ident) (m : Outcome Mode) → Growing (named l n m)
grow_named l n (Err g) t = grow_noted _ _ t
grow_named l n (Ok m) t = grew_then (grow_noted _ _ t) (record { locals = record { more = made.Variable m ∷ []; is = refl }; faults = pre_same _ })

grow_group : (m : Outcome Mode) (l : Names) (ns : List Ident) → Growing (group m l ns)
grow_group m l [] t = grew_same t
grow_group m l (n ∷ ns) t = grew_then (grow_named l n m t) (grow_group m (named l n m t).0 ns (named l n m t).1)

pub grow_parameters : (s : Sight) (l : Names) (fs : List Fields) → Growing (parameters s l fs)
grow_parameters s l [] t = grew_same t
grow_parameters s l (f ∷ fs) t =
    let u : Outcome Mode × Tally = mode_or (mode_in s f.at f.mode) t in
    let v : Names × Tally = group u.0 l f.names u.1 in
    grew_then (grow_mode (mode_in s f.at f.mode) t) (grew_then (grow_group u.0 l f.names u.1) (grow_parameters s v.0 fs v.1))

pub grow_answer : (s : Sight) (at : At) (w : Option WrittenMode) → Growing (answer_in s at w)
grow_answer s at None t = grew_same t
grow_answer s at (Some w) t = grew_then (grow_mode (mode_in s at w) t) (grew_same _)

left_of : (a b : Bool) → a && b ≡ true → a ≡ true
left_of true b e = refl
left_of false b e = e

both_true : (a b : Bool) → a ≡ true → b ≡ true → a && b ≡ true
both_true a b e h = rw (e, h) refl

same_number : (k : ℕ) → (k == k) ≡ true
same_number k = grind (arith, nat_tests)

parameters_lead : (ms : List Mode) (more : List Made) → parameters_first ms (map made.Variable ms ++ more) ≡ true
parameters_lead [] more = refl
parameters_lead (m ∷ ms) more = rw (same_itself m) (parameters_lead ms more)

length_mapped : (ms : List Mode) → length (map made.Variable ms) ≡ length ms
length_mapped [] = refl
length_mapped (m ∷ ms) = ap suc (length_mapped ms)

module _ (c : Scope) (small : length c.locals < 65536) (standing : list_all (local_stands (length c.records)) c.locals ≡ true) where
  pub record ParametersFit (seen : Seen) (t : Tally) (result : Names × Tally) : Type 0 where
    pub level : LevelHolds c seen result.0
    pub known : LevelKnown result.0
    pub labels : result.1.labels ≡ t.labels

  one_named : (l : Names) (n : Ident) (m : Mode) (seen : Seen) (t : Tally) → LevelHolds c seen l → LevelKnown l → Fine c (named l n (Ok m) t).1 → ParametersFit seen t (named l n (Ok m) t)
  one_named l n m seen t h k f =
      let here : (named l n (Ok m) t).1.locals ≡ t.locals ++ made.Variable m ∷ [] = ap (λ (x : List Made). x ++ made.Variable m ∷ []) (noted_locals _ _ t) in
      let there = pre_get t.locals (made.Variable m) c.locals (subst (λ (x : List Made). Pre x c.locals) here f.known) in
      record {
        level = declared_holds c seen n.name (meaning.Local (next_local t) m) l h ((there, local_value c small standing (length t.locals) m there), tt);
        known = declared_each IsKnown n.name (meaning.Local (next_local t) m) l k tt;
        labels = noted_labels _ _ t;
      }

  group_fits : (m : Mode) (l : Names) (ns : List Ident) (seen : Seen) (t : Tally) → LevelHolds c seen l → LevelKnown l → Fine c (group (Ok m) l ns t).1 → ParametersFit seen t (group (Ok m) l ns t)
  group_fits m l [] seen t h k f = record { level = h; known = k; labels = refl }
  group_fits m l (n ∷ ns) seen t h k f =
      let u : Names × Tally = named l n (Ok m) t in
      let one = one_named l n m seen t h k (fine_before c (grow_group (Ok m) u.0 ns u.1) f) in
      let go = group_fits m u.0 ns seen u.1 one.level one.known f in
      record { level = go.level; known = go.known; labels = go.labels ∙ one.labels }

  pub parameters_fit : (s : Sight) (l : Names) (fs : List Fields) (seen : Seen) (t : Tally) → LevelHolds c seen l → LevelKnown l → Fine c (parameters s l fs t).1 → ParametersFit seen t (parameters s l fs t)
  parameters_fit s l [] seen t h k f = record { level = h; known = k; labels = refl }
  parameters_fit s l (x ∷ fs) seen t h k f =
      let u : Outcome Mode × Tally = mode_or (mode_in s x.at x.mode) t in
      let w : Names × Tally = group u.0 l x.names u.1 in
      let fine : Fine c u.1 = fine_before c (grow_group u.0 l x.names u.1) (fine_before c (grow_parameters s w.0 fs w.1) f) in
      let z = mode_found (mode_in s x.at x.mode) t fine.none in
      let v : Names × Tally = group (Ok z.mode) l x.names t in
      let moved : parameters s l (x ∷ fs) t ≡ parameters s v.0 fs v.1 = ap (λ (y : Outcome Mode × Tally). let w = group y.0 l x.names y.1 in parameters s w.0 fs w.1) z.gives in
      let fine_v : Fine c (parameters s v.0 fs v.1).1 = subst (λ (y : Names × Tally). Fine c y.1) moved f in
      let one = group_fits z.mode l x.names seen t h k (fine_before c (grow_parameters s v.0 fs v.1) fine_v) in
      let go = parameters_fit s v.0 fs seen v.1 one.level one.known fine_v in
      subst (ParametersFit seen t) (sym moved) (record { level = go.level; known = go.known; labels = go.labels ∙ one.labels })

  answer_keeps : (s : Sight) (at : At) (w : Option WrittenMode) (t : Tally) → ((answer_in s at w t).1.labels ≡ t.labels) × ((answer_in s at w t).1.locals ≡ t.locals)
  answer_keeps s at None t = (refl, refl)
  answer_keeps s at (Some w) t = by_mode (mode_in s at w) where
    by_mode : (o : Outcome Mode) → ((mode_or o t).1.labels ≡ t.labels) × ((mode_or o t).1.locals ≡ t.locals)
    by_mode (Ok m) = (refl, refl)
    by_mode (Err g) = (refl, refl)

  made_at : (b : BodyMade) → body_part c b ≡ tree.one_body c (map-Made Stat BodyMade BranchMade Labelled Fitting Fitting Fitting tree.Marked (tree.stat_part c) (body_part c) (tree.branch_part c) (marked c) (out-Made b))
  made_at b = rw fold_out-Made refl

  -- where the labels of a body's outermost sequence don't count on, the body doesn't fit
  no_end : (ds : List LocalStart) (xs : List Marked) (seen : Seen) (a i : ℕ) → labels_end a xs ≡ None → with (declares c ds (next_by a i)) (tree.sequence xs seen) ≡ None
  no_end [] xs seen a i e = rw e refl
  no_end (d ∷ ds) xs seen a i e = by_test (d.local == i && tree.start_fits c (slice_get c.locals d.local) d.start) (no_end ds xs seen a (suc i) e) where
    by_test : (b : Bool) → with (declares c ds (next_by a (suc i))) (tree.sequence xs seen) ≡ None → with (if b then declares c ds (next_by a (suc i)) else None) (tree.sequence xs seen) ≡ None
    by_test true h = h
    by_test false h = refl

  abbrev rows_of : BodyMade → List Marked
  rows_of b = map (marked c) (out-Made b).statements

  -- the numbers behind a body that fits, whatever its outermost sequence is called
  numbers_are : (b : BodyMade) (res : Option Mode) (k m n : ℕ) (o : Option ℕ) → labels_end 0 (rows_of b) ≡ o → ((seen : Seen) → seen.result ≡ res → body_part c b seen (next_by 0 k) ≡ Some (next_by m n))
      → with o (λ outermost. body_part c b (first_sight res outermost) (next_by 0 k)) ≡ Some (next_by m n)
  numbers_are b res k m n (Some e) p h = h (first_sight res e) refl
  numbers_are b res k m n None p h =
      absurd (no_number m n (sym (no_end (out-Made b).locals (rows_of b) (first_sight res 0) 0 k p) ∙ sym (ap (λ (w : Fitting). w (first_sight res 0) (next_by 0 k)) (made_at b)) ∙ h (first_sight res 0) refl)) where
        no_number : (m n : ℕ) → None ≡ Some (next_by m n) → ⊥
        no_number m n e = cc

closed_by : (r : Answer) (res : Option Mode) (at : At) (b : BodyMade) (t : Tally) → ResultIs r res → (closed_at r at b t).faults ≡ [] → closes res b ≡ true
closed_by answer.Nothing None at b t q f = refl
closed_by answer.Nothing (Some m) at b t q f = absurd q
closed_by (answer.Wanted m) None at b t q f = absurd q
closed_by (answer.Wanted m) (Some n) at b t q f = by_end (closed b) refl f where
  by_end : (z : Bool) → closed b ≡ z → (noted_if (not z) (fault.NoResult at) t).faults ≡ [] → closed b ≡ true
  by_end true e h = e
  by_end false e h = absurd (one_is_there t.faults (fault.NoResult at) h)
closed_by answer.Unknown None at b t q f = absurd q
closed_by answer.Unknown (Some m) at b t q f = absurd q

module _ (c : Scope) (s : Sight) (b : ProcedureBrick) (ms : List Mode) (res : Option Mode) where
  abbrev inner : Scope
  inner = with_locals c (procedure s b).locals

  module _ (holds : (seen : Seen) → Holds inner s seen) (known : AllKnown s) (few : length (procedure s b).locals < 65536) (standing : list_all (local_stands (length c.records)) (procedure s b).locals ≡ true)
      (heads : (parameters s [] b.fields nothing_yet).1.locals ≡ map made.Variable ms) (answers : ResultIs (answer_in s b.at b.result (parameters s [] b.fields nothing_yet).1).0 res)
      (broad : body_is_broad b.body ≡ true) (labels : labels_in_body b.body < 65536) (none : faults s b ≡ []) where
    pub procedure_accepted : proc_fits c ms res (procedure s b) ≡ true
    procedure_accepted =
        let p : Names × Tally = parameters s [] b.fields nothing_yet in
        let a : Answer × Tally = answer_in s b.at b.result p.1 in
        let m : BodyMade × Tally = spec.body a.0 b.body (within p.0 s) a.1 in
        let last : Tally = closed_at a.0 b.ends m.0 m.1 in
        let fine_last : Fine inner last = record { none = none; known = pre_same last.locals } in
        let fits = body_accepted inner few standing a.0 b.body broad in
        let fine_m : Fine inner m.1 = fine_before inner (grow_noted (is_wanted a.0 && not (closed m.0)) (fault.NoResult b.ends) m.1) fine_last in
        let fine_a : Fine inner a.1 = fine_before inner (fits.grows (within p.0 s) a.1) fine_m in
        let fine_p : Fine inner p.1 = fine_before inner (grow_answer s b.at b.result p.1) fine_a in
        let given : Seen = first_sight res 0 in
        let named_so = parameters_fit inner few standing s [] b.fields given nothing_yet tt tt fine_p in
        let kept = answer_keeps inner few standing s b.at b.result p.1 in
        let labels_are : a.1.labels ≡ 0 = kept.0 ∙ named_so.labels in
        let locals_are : length a.1.locals ≡ length ms = ap length (kept.1 ∙ heads) ∙ length_mapped ms in
        let small : a.1.labels + labels_in_body b.body < 65536 = omega (arith, labels, labels_are) in
        let goes : (seen : Seen) → seen.result ≡ res → body_part inner m.0 seen (next_by 0 (length ms)) ≡ Some (next_by m.1.labels (length m.1.locals)) =
        λ seen e.
        let level = parameters_fit inner few standing s [] b.fields seen nothing_yet tt tt fine_p in
        let inside = shown_within inner s seen p.0 (record { holds = holds seen; known = known }) level.level level.known in
        let q : ResultIs a.0 seen.result = subst (λ (z : Option Mode). ResultIs a.0 z) (sym e) answers in
        let go = fits.fits (within p.0 s) seen a.1 inside q fine_m small in
        ap (λ (k : ℕ). body_part inner m.0 seen (next_by k (length ms))) (sym labels_are) ∙ ap (λ (k : ℕ). body_part inner m.0 seen (next_by a.1.labels k)) (sym locals_are) ∙ go.0 in
        let numbers = numbers_are inner few standing m.0 res (length ms) m.1.labels (length m.1.locals) (labels_end 0 (map (marked inner) (out-Made m.0).statements)) refl goes in
        let same_labels : last.labels ≡ m.1.labels = noted_labels (is_wanted a.0 && not (closed m.0)) (fault.NoResult b.ends) m.1 in
        let same_locals : last.locals ≡ m.1.locals = noted_locals (is_wanted a.0 && not (closed m.0)) (fault.NoResult b.ends) m.1 in
        let is_all : numbers_all c (length ms) res (procedure s b) ≡ true =
        ap (passes (is_last (procedure s b))) numbers
        ∙ both_true (m.1.labels == last.labels) (length m.1.locals == length last.locals) (ap (λ (k : ℕ). m.1.labels == k) same_labels ∙ same_number m.1.labels)
        (ap (λ (k : List Made). length m.1.locals == length k) same_locals ∙ same_number (length m.1.locals)) in
        let growing : Pre p.1.locals last.locals = fine_p.known in
        let lead : parameters_first ms last.locals ≡ true =
        ap (parameters_first ms) (growing.is ∙ ap (λ (l : List Made). l ++ growing.more) heads) ∙ parameters_lead ms growing.more in
        both_true (parameters_first ms last.locals) _ lead
        (both_true (list_all (local_stands (length c.records)) last.locals) _ standing (both_true (numbers_all c (length ms) res (procedure s b)) _ is_all (closed_by a.0 res b.ends m.0 m.1 answers none)))
