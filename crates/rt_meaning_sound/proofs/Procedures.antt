-- A procedure names locals where these have a value.
use Rattle.std.proofs.Common.{◌≡◌, ℕ, suc, ◌<◌, ◌≤◌, ◌&&◌, not, Bool, true, false, List, [], ◌∷◌, ◌++◌, length, Option, Some, None, Ok, Err, option_map, arith, refl, sym, ap, ◌∙◌, subst}
use Rattle.std.specs.Prelude.{nat_lt, slice_get}
use Rattle.std.specs.List.{list_all}
use Rattle.std.proofs.lemmas.Bool.Decides.{nat_tests}
use Rattle.rt_grammar.specs.declared.at.At.{At}
use Rattle.rt_grammar.specs.declared.at.Ident.{Ident}
use Rattle.rt_syntax_exprs.specs.declared.tree.WrittenMode.{WrittenMode}
use Rattle.rt_modes.specs.declared.mode.Mode.{Mode}
use Rattle.rt_bricks.specs.declared.tree.Fields.{Fields}
use Rattle.rt_bricks.specs.declared.tree.ProcedureBrick.{ProcedureBrick}
use Rattle.rt_tree_nodes.specs.declared.brick.Local.{Local as Made}
use Rattle.rt_tree_nodes.specs.declared.brick.Local.TheVariants as made
use Rattle.rt_tree_nodes.specs.declared.brick.ModuleParts.{ModuleParts}
use Rattle.rt_tree_nodes.specs.declared.brick.ProcBody.{ProcBody}
use Rattle.rt_tree_nodes.specs.declared.statement.Body.{Body as BodyMade}
use Rattle.rt_tree_nodes.specs.Scopes.{Scope, scope_of, with_locals}
use Rattle.rt_check_faults.specs.declared.fault.CheckFault.{CheckFault}
use Rattle.rt_check_faults.specs.declared.fault.CheckFault.TheVariants as fault
use Rattle.rt_exprs.specs.declared.scope.Meaning.{Meaning}
use Rattle.rt_exprs.specs.declared.scope.Meaning.TheVariants as meaning
use Rattle.rt_check_faults.specs.Outcomes.{Outcome}
use Rattle.rt_tree.specs.Modules.{local_stands}
use Rattle.rt_tree.specs.Statements.{Sight as Seen, closed}
use Rattle.rt_exprs_laws.specs.Agreeing.{IsThere}
use Rattle.rt_work_state.specs.Items.{Leave}
use Rattle.rt_check_bodies.specs.declared.tally.Tally.{Tally}
use Rattle.rt_check_bodies.specs.Parts.{noted_if, next_local, mode_or}
use Rattle.rt_exprs.specs.Sights.{Names, Sight, holds, within}
use Rattle.rt_check_bodies.specs.Sights.{mode_in}
use Rattle.rt_check_bodies.specs.declared.answer.Answer.{Answer}
use Rattle.rt_check_bodies.specs.Procedures.{named, group, parameters, answer_in, is_wanted, closed_at, nothing_yet, procedure, faults}
use Rattle.rt_check_bodies.specs.Statements as spec
use Rattle.rt_check_bodies_laws.specs.Held.{Holds, LabelSeen, LevelHolds, LevelsHold}
use Rattle.rt_check_bodies_laws.proofs.Accepted.{local_value}
use Rattle.rt_check_bodies_laws.proofs.Brick.{grow_parameters, grow_answer, parameters_fit}
use Rattle.rt_check_bodies_laws.proofs.Growing.{pre_same, Grew, grew_same, grew_then, Growing}
use Rattle.rt_check_bodies_laws.proofs.Sequences.{one_longer, pre_length, pre_get, Fine, fine_before}
use Rattle.rt_check_bodies_laws.proofs.Locals.{noted_locals}
use Rattle.rt_bricks_laws.proofs.AllLists.{or_left, or_right, length_mapped}
use Rattle.rt_meaning_laws.specs.Trees.{Started, mode_of_local}
use Rattle.rt_meaning_laws.specs.Systems.{is_plain, at_start, site_of}
use Rattle.rt_meaning_laws.specs.Modules.{BodyNamed}
use Rattle.rt_meaning_sound.proofs.Modes.{all_short}
use Rattle.rt_meaning_sound.specs.Procedures.{IsSound, IsHeld, HasParameters, ProceduresAreNamed}
use Rattle.rt_meaning_sound.proofs.Bodies.{body_made}
use Rattle.rt_meaning_sound.proofs.Good.{Zeroed}
use Rattle.rt_meaning_sound.proofs.Judged.{Around}
use Rattle.rt_meaning_sound.proofs.Locals.{mode_labels}
use Rattle.rt_meaning_sound.proofs.Seen.{MeaningSeen, IsSeen, LevelHas, LevelsHave, declared_has, Sees}
use Rattle.rt_meaning_sound.proofs.Sets.{Sets, SetsAt, sets_there, got_below}

grow_noted : (b : Bool) (g : CheckFault) (t : Tally) → Grew t (noted_if b g t)
grow_noted true g t = record { locals = pre_same t.locals; faults = record { more = g ∷ []; is = refl } }
grow_noted false g t = grew_same t

grow_named : (l : Names) (n : Ident) (m : Outcome Mode) → Growing (named l n m)
grow_named l n (Err g) t = grow_noted _ _ t
grow_named l n (Ok m) t = grew_then (grow_noted _ _ t) (record { locals = record { more = made.Variable m ∷ []; is = refl }; faults = pre_same _ })

grow_group : (m : Outcome Mode) (l : Names) (ns : List Ident) → Growing (group m l ns)
grow_group m l [] t = grew_same t
grow_group m l (n ∷ ns) t = grew_then (grow_named l n m t) (grow_group m (named l n m t).0 ns (named l n m t).1)

answer_labels : (s : Sight) (place : At) (w : Option WrittenMode) (t : Tally) → (answer_in s place w t).1.labels ≡ t.labels
answer_labels s place None t = refl
answer_labels s place (Some w) t = mode_labels (mode_in s place w) t

-- ---- parameters

-- the first locals, so many of them, have a value
module _ (at : Sets) (c : Scope) (small : length c.locals < 65536) (standing : list_all (local_stands (length c.records)) c.locals ≡ true) (v : Started) (count : ℕ) (firsts : (i : ℕ) → i < count → v i ≡ true) where
  named_seen : (l : Names) (n : Ident) (m : Outcome Mode) (t : Tally) → LevelHas (IsSeen at c v) l → Fine c (named l n m t).1 → length (named l n m t).1.locals ≤ count → LevelHas (IsSeen at c v) (named l n m t).0
  named_seen l n (Err g) t h f b = declared_has (IsSeen at c v) n.name meaning.Unknown l h (tt, tt)
  named_seen l n (Ok m) t h f b =
      let here : (named l n (Ok m) t).1.locals ≡ t.locals ++ made.Variable m ∷ [] = ap (λ (x : List Made). x ++ made.Variable m ∷ []) (noted_locals (holds l n.name) (fault.DeclaredTwice n.at) t) in
      let there = pre_get t.locals (made.Variable m) c.locals (record { more = f.known.more; is = f.known.is ∙ ap (λ (x : List Made). x ++ f.known.more) here }) in
      let longer : length (named l n (Ok m) t).1.locals ≡ suc (length t.locals) = ap length here ∙ one_longer t.locals (made.Variable m) in
      declared_has (IsSeen at c v) n.name (meaning.Local (next_local t) m) l h
      ((there, local_value c small standing (length t.locals) m there), firsts (next_local t) (omega (arith, longer, b)))

  group_seen : (m : Outcome Mode) (l : Names) (ns : List Ident) (t : Tally) → LevelHas (IsSeen at c v) l → Fine c (group m l ns t).1 → length (group m l ns t).1.locals ≤ count → LevelHas (IsSeen at c v) (group m l ns t).0
  group_seen m l [] t h f b = h
  group_seen m l (n ∷ ns) t h f b =
      let u : Names × Tally = named l n m t in
      let more = grow_group m u.0 ns u.1 in
      group_seen m u.0 ns u.1 (named_seen l n m t h (fine_before c more f) (omega (arith, pre_length more.locals, b))) f b

  parameters_seen : (s : Sight) (l : Names) (fs : List Fields) (t : Tally) → LevelHas (IsSeen at c v) l → Fine c (parameters s l fs t).1 → length (parameters s l fs t).1.locals ≤ count → LevelHas (IsSeen at c v) (parameters s l fs t).0
  parameters_seen s l [] t h f b = h
  parameters_seen s l (x ∷ fs) t h f b =
      let u : Outcome Mode × Tally = mode_or (mode_in s x.at x.mode) t in
      let w : Names × Tally = group u.0 l x.names u.1 in
      let more = grow_parameters s w.0 fs w.1 in
      parameters_seen s w.0 fs w.1 (group_seen u.0 l x.names u.1 h (fine_before c more f) (omega (arith, pre_length more.locals, b))) f b

-- ---- what is seen outside of a procedure

-- no label is seen
abbrev nowhere : Seen
nowhere = record { seen = []; outermost = 0; result = None }

module _ (at : Sets) (c : Scope) (v : Started) (seen : Seen) where
  -- what is there where a procedure has no locals is no local
  no_local : (m : Meaning) → IsThere (with_locals c []) m → LabelSeen nowhere m → MeaningSeen at v m
  no_local (meaning.Local i m) h k = absurd (let bad = h.0 in cc)
  no_local (meaning.Loop i) h k = absurd cc
  no_local (meaning.Label l) h k = absurd cc
  no_local (meaning.Mode i) h k = tt
  no_local (meaning.Proc b m) h k = tt
  no_local (meaning.Data b) h k = tt
  no_local (meaning.Stack b) h k = tt
  no_local (meaning.Item b i m) h k = tt
  no_local (meaning.SvcItem b i m) h k = tt
  no_local (meaning.Svc i m) h k = tt
  no_local meaning.UnknownProc h k = tt
  no_local meaning.Unknown h k = tt

  outer_level : (ls : List Made) (l : Names) → LevelHolds (with_locals c ls) seen l → LevelHolds (with_locals c []) nowhere l → LevelHas (IsSeen at (with_locals c ls) v) l
  outer_level ls [] h k = tt
  outer_level ls (x ∷ xs) h k = ((h.0.0, no_local x.1 k.0.0 k.0.1), outer_level ls xs h.1 k.1)

  outer_levels : (ls : List Made) (rest : List Names) → LevelsHold (with_locals c ls) seen rest → LevelsHold (with_locals c []) nowhere rest → LevelsHave (IsSeen at (with_locals c ls) v) rest
  outer_levels ls [] h k = tt
  outer_levels ls (l ∷ rest) h k = (outer_level ls l h.0 k.0, outer_levels ls rest h.1 k.1)

-- ---- the whole

module _ (p : ModuleParts) (s : Sight) (b : ProcedureBrick) (ms : List Mode) (r : Option Mode) (sound : IsSound b) (held : IsHeld p s b) (none : faults s b ≡ []) (given : HasParameters s b ms) where
  abbrev heads : Names × Tally
  heads = parameters s [] b.fields nothing_yet

  abbrev answers : Answer × Tally
  answers = answer_in s b.at b.result heads.1

  abbrev read : BodyMade × Tally
  read = spec.body answers.0 b.body (within heads.0 s) answers.1

  abbrev last : Tally
  last = closed_at answers.0 b.ends read.0 read.1

  abbrev made_so : ProcBody
  made_so = procedure s b

  abbrev inner : Scope
  inner = with_locals (scope_of p) made_so.locals

  -- what has a value at its start
  abbrev begins : Started
  begins = at_start (site_of p made_so r (λ (l : ℕ). None)) ms

  around : Around inner
  around = record {
    small = held.few;
    standing = held.standing;
    short = all_short inner (record { records = held.modes.records; bricks = held.modes.bricks; errors = held.modes.errors; streams = held.modes.streams }) held.standing;
  }

  fine_read : Fine inner read.1
  fine_read = fine_before inner (grow_noted (is_wanted answers.0 && not (closed read.0)) (fault.NoResult b.ends) read.1) (record { none = none; known = pre_same last.locals })

  firsts : (i : ℕ) → i < length ms → begins i ≡ true
  firsts i h = or_left (nat_lt i (length ms)) (is_plain (option_map mode_of_local (slice_get made_so.locals i))) (grind (arith, nat_tests))

  zeroed : Zeroed inner begins
  zeroed i l e h = or_right (nat_lt i (length ms)) (is_plain (option_map mode_of_local (slice_get made_so.locals i))) (ap (λ (o : Option Made). is_plain (option_map mode_of_local o)) e ∙ h)

  count : length heads.1.locals ≡ length ms
  count = ap length given ∙ length_mapped made.Variable ms

  procedure_named : BodyNamed p made_so ms r
  procedure_named =
      let good = body_made inner around answers.0 b.body sound.words in
      let fine_answers : Fine inner answers.1 = fine_before inner (good.grows (within heads.0 s) answers.1) fine_read in
      let fine_heads : Fine inner heads.1 = fine_before inner (grow_answer s b.at b.result heads.1) fine_answers in
      let first : answers.1.labels ≡ 0 = answer_labels s b.at b.result heads.1 ∙ (parameters_fit inner held.few held.standing s [] b.fields nowhere nothing_yet tt tt fine_heads).labels in
      let go = good.made (within heads.0 s) answers.1 begins fine_read (omega (arith, sound.labels, first)) zeroed in
      let labels : Sets = slice_get go.sets in
      let out : Holds inner s nowhere = held.outside made_so.locals nowhere in
      let sees : Sees labels inner begins (within heads.0 s) = record {
        records = out.records;
        fields = out.fields;
        strings = out.strings;
        levels = (
          parameters_seen labels inner held.few held.standing begins (length ms) firsts s [] b.fields nothing_yet tt fine_heads (omega (arith, count)),
          outer_levels labels (scope_of p) begins nowhere made_so.locals s.levels out.levels (held.outside [] nowhere).levels,
        );
      } in
      record {
        at_label = labels;
        named = go.naming labels (subst (λ (n : ℕ). SetsAt labels n go.sets) (sym first) (sets_there go.sets)) sees;
        labels = λ l k e. go.stand l (omega (arith, first)) (omega (arith, first, go.count, got_below go.sets l k e)) (Leave ∷ []);
      }

pub procedures_named : ProceduresAreNamed
procedures_named p s b ms r sound held none given = procedure_named p s b ms r sound held none given
