-- A procedure stays within its items.
use Rattle.std.proofs.Common.{◌≡◌, ℕ, ◌+◌, ◌-◌, ◌*◌, ◌<◌, ◌≤◌, ◌&&◌, not, Bool, true, false, List, [], ◌∷◌, length, map, Option, Some, None, Ok, Err, if◌then◌else◌, arith, refl, ap}
use Rattle.rt_grammar.specs.declared.at.At.{At}
use Rattle.rt_grammar.specs.declared.at.Ident.{Ident}
use Rattle.rt_syntax_exprs.specs.declared.tree.WrittenMode.{WrittenMode}
use Rattle.rt_modes.specs.declared.mode.Mode.{Mode}
use Rattle.rt_bricks.specs.declared.tree.Fields.{Fields}
use Rattle.rt_bricks.specs.declared.tree.ProcedureBrick.{ProcedureBrick}
use Rattle.rt_bricks_laws.specs.Counts.{sum, in_fields, in_body, in_procedure}
use Rattle.rt_tree_nodes.specs.declared.brick.Local.{Local as Made}
use Rattle.rt_tree_nodes.specs.declared.brick.Local.TheVariants as made
use Rattle.rt_tree_nodes.specs.declared.brick.ModuleParts.{ModuleParts}
use Rattle.rt_tree_nodes.specs.declared.statement.Body.{Body as BodyMade}
use Rattle.rt_tree_nodes.specs.Scopes.{Scope, scope_of, with_locals}
use Rattle.rt_check_faults.specs.declared.fault.CheckFault.{CheckFault}
use Rattle.rt_check_faults.specs.declared.fault.CheckFault.TheVariants as fault
use Rattle.rt_check_faults.specs.Outcomes.{Outcome}
use Rattle.rt_tree.specs.Depth.{sequence_recovers}
use Rattle.rt_tree.specs.Modules.{first_sight}
use Rattle.rt_tree.specs.Statements.{Sight as Seen, closed}
use Rattle.rt_tree.specs.Weights.{unmarked}
use Rattle.rt_tree.specs.Within.{tree_of, frame_words, frame_unmarked}
use Rattle.rt_check_bodies.specs.declared.tally.Tally.{Tally}
use Rattle.rt_check_bodies.specs.Parts.{noted_if, mode_or}
use Rattle.rt_exprs.specs.Sights.{Names, Sight, holds, within}
use Rattle.rt_check_bodies.specs.Sights.{mode_in}
use Rattle.rt_check_bodies.specs.declared.answer.Answer.{Answer}
use Rattle.rt_check_bodies.specs.Procedures.{named, group, parameters, answer_in, is_wanted, closed_at, nothing_yet, procedure, faults}
use Rattle.rt_bricks.specs.Counted.{items_of}
use Rattle.rt_check_bodies.specs.Statements as spec
use Rattle.rt_bricks_laws.specs.Bodies.{body_is_broad}
use Rattle.rt_check_bodies_laws.proofs.Brick.{grow_answer, parameters_fit}
use Rattle.rt_check_bodies_laws.proofs.Growing.{pre_same, Grew, grew_same}
use Rattle.rt_check_bodies_laws.proofs.Holding.{holds_within}
use Rattle.rt_check_bodies_laws.proofs.Sequences.{one_longer, Fine, fine_before}
use Rattle.rt_check_bodies_laws.specs.Parts.{SequenceWithin}
use Rattle.rt_check_bodies_laws.specs.Within.{IsSound, LocalsAreFew, IsHeld, ProceduresAreWithin}
use Rattle.rt_check_bodies_laws.proofs.Bodies.{body_stays}
use Rattle.rt_check_bodies_laws.proofs.Good.{Around}
use Rattle.rt_check_bodies_laws.proofs.Least.{sum_listed, as_many_names}
use Rattle.rt_check_bodies_laws.proofs.Locals.{noted_locals, mode_locals}
use Rattle.rt_check_bodies_laws.proofs.Refs.{all_few}

-- ---- how many parameters and locals there are

named_counts : (l : Names) (n : Ident) (m : Outcome Mode) (t : Tally) → length (named l n m t).1.locals ≤ length t.locals + 1
named_counts l n (Err g) t = omega (arith, ap length (noted_locals (holds l n.name) (fault.DeclaredTwice n.at) t))
named_counts l n (Ok m) t =
    let v : List Made = (noted_if (holds l n.name) (fault.DeclaredTwice n.at) t).locals in
    omega (arith, one_longer v (made.Variable m), ap length (noted_locals (holds l n.name) (fault.DeclaredTwice n.at) t))

group_counts : (m : Outcome Mode) (l : Names) (ns : List Ident) (t : Tally) → length (group m l ns t).1.locals ≤ length t.locals + length ns
group_counts m l [] t = omega arith
group_counts m l (n ∷ ns) t = let u : Names × Tally = named l n m t in omega (arith, named_counts l n m t, group_counts m u.0 ns u.1)

parameters_count : (s : Sight) (l : Names) (fs : List Fields) (t : Tally) → length (parameters s l fs t).1.locals ≤ length t.locals + sum (map in_fields fs)
parameters_count s l [] t = omega arith
parameters_count s l (f ∷ fs) t =
    let u : Outcome Mode × Tally = mode_or (mode_in s f.at f.mode) t in
    let v : Names × Tally = group u.0 l f.names u.1 in
    omega (arith, ap length (mode_locals (mode_in s f.at f.mode) t), group_counts u.0 l f.names u.1, as_many_names f.names, parameters_count s v.0 fs v.1)

pub answer_locals : (s : Sight) (at : At) (w : Option WrittenMode) (t : Tally) → (answer_in s at w t).1.locals ≡ t.locals
answer_locals s at None t = refl
answer_locals s at (Some w) t = mode_locals (mode_in s at w) t

grow_noted : (b : Bool) (g : CheckFault) (t : Tally) → Grew t (noted_if b g t)
grow_noted true g t = record { locals = pre_same t.locals; faults = record { more = g ∷ []; is = refl } }
grow_noted false g t = grew_same t

-- a body has fewer items than its procedure
body_part : (b : ProcedureBrick) → in_body b.body + 6 ≤ in_procedure b
body_part b = omega arith

recovery_fits : (n count : ℕ) (recovers : Bool) → n + 6 < 65536 → (n - count) + (if recovers then 4 else 0) < 65536
recovery_fits n count true h = omega (arith, h)
recovery_fits n count false h = omega (arith, h)

weighs : (w n i items : ℕ) → w ≤ 12 * n → n + 6 ≤ i → i ≤ items → w + frame_words ≤ 12 * items + 16
weighs w n i items a b c = omega (arith, a, b, c)

makes : (w n i items : ℕ) → w ≤ 12 * n → n + 6 ≤ i → i ≤ items → unmarked w + frame_unmarked ≤ 24 * items
makes w n i items a b c = omega (arith, a, b, c)

stays_low : (d n i items : ℕ) → d ≤ n → n + 6 ≤ i → i ≤ items → items < 65536 → d < 65536
stays_low d n i items a b c e = omega (arith, a, b, c, e)

module _ (s : Sight) (b : ProcedureBrick) where
  abbrev heads : Names × Tally
  heads = parameters s [] b.fields nothing_yet

  abbrev answers : Answer × Tally
  answers = answer_in s b.at b.result heads.1

  abbrev read : BodyMade × Tally
  read = spec.body answers.0 b.body (within heads.0 s) answers.1

  abbrev last : Tally
  last = closed_at answers.0 b.ends read.0 read.1

  pub last_locals : last.locals ≡ read.1.locals
  last_locals = noted_locals (is_wanted answers.0 && not (closed read.0)) (fault.NoResult b.ends) read.1

  pub locals_count : body_is_broad b.body ≡ true → length (procedure s b).locals + 6 ≤ in_procedure b
  locals_count broad =
      omega (arith, ap length last_locals, (body_stays answers.0 b.body broad).counts (within heads.0 s) answers.1, ap length (answer_locals s b.at b.result heads.1), parameters_count s [] b.fields nothing_yet, sum_listed (map in_fields b.fields))

  locals_low : IsSound b → length (procedure s b).locals + 6 < 65536
  locals_low h = low (length (procedure s b).locals) (in_procedure b) (items_of b) (locals_count h.broad) h.parts h.few where
    low : (n i items : ℕ) → n + 6 ≤ i → i ≤ items → items < 65536 → n + 6 < 65536
    low n i items a c e = omega (arith, a, c, e)

  module _ (p : ModuleParts) where
    abbrev inner : Scope
    inner = with_locals (scope_of p) (procedure s b).locals

    tree_within : IsSound b → IsHeld p s b → faults s b ≡ [] → SequenceWithin (in_body b.body) (tree_of p (procedure s b))
    tree_within sound held none =
        let small : length (procedure s b).locals < 65536 = omega (arith, locals_low sound) in
        let good = body_stays answers.0 b.body sound.broad in
        let fine_last : Fine inner last = record { none = none; known = pre_same last.locals } in
        let fine_read : Fine inner read.1 = fine_before inner (grow_noted (is_wanted answers.0 && not (closed read.0)) (fault.NoResult b.ends) read.1) fine_last in
        let fine_answers : Fine inner answers.1 = fine_before inner (good.grows (within heads.0 s) answers.1) fine_read in
        let fine_heads : Fine inner heads.1 = fine_before inner (grow_answer s b.at b.result heads.1) fine_answers in
        let seen : Seen = first_sight None 0 in
        let level = parameters_fit inner small held.standing s [] b.fields seen nothing_yet tt tt fine_heads in
        let inside = holds_within inner s seen heads.0 (held.outside seen) level.level in
        let around : Around inner = record { small = small; standing = held.standing; few = all_few (scope_of p) (procedure s b).locals held.modes held.standing } in
        good.within inner around (within heads.0 s) seen answers.1 inside fine_read.known

pub few_locals : LocalsAreFew
few_locals s b h = omega (arith, locals_low s b h)

pub procedures_within : ProceduresAreWithin
procedures_within p s b count sound held none most =
    let q = tree_within s b p sound held none in
    record {
      parameters = below count (length (procedure s b).locals) most (locals_low s b sound);
      locals = recovery_fits (length (procedure s b).locals) count (sequence_recovers (tree_of p (procedure s b))) (locals_low s b sound);
      depth = stays_low _ (in_body b.body) (in_procedure b) (items_of b) q.depth (body_part b) sound.parts sound.few;
      words = weighs _ (in_body b.body) (in_procedure b) (items_of b) q.weight (body_part b) sound.parts;
      unmarked_made = makes _ (in_body b.body) (in_procedure b) (items_of b) q.weight (body_part b) sound.parts;
    } where
      below : (count n : ℕ) → count ≤ n → n + 6 < 65536 → count < 65536
      below count n a c = omega (arith, a, c)
