-- The locals that a body declares may stand.
use Rattle.std.proofs.Common.{◌≡◌, ℕ, ◌&&◌, Bool, true, false, List, [], ◌∷◌, ◌++◌, map, Option, Ok, Err, refl, sym, ◌∙◌, subst}
use Rattle.std.specs.List.{list_all}
use Rattle.rt_syntax_exprs.specs.declared.tree.Expr.{Expr}
use Rattle.rt_modes.specs.declared.mode.Mode.{Mode}
use Rattle.rt_syntax.specs.declared.tree.Control.{Control}
use Rattle.rt_syntax.specs.declared.tree.Local.{Local}
use Rattle.rt_syntax.specs.declared.tree.Locals.{Locals}
use Rattle.rt_tree_nodes.specs.declared.brick.Local.{Local as Made}
use Rattle.rt_tree_nodes.specs.declared.brick.Local.TheVariants as made
use Rattle.rt_tree_nodes.specs.declared.statement.Branch.{Branch as BranchMade}
use Rattle.rt_tree_nodes.specs.declared.statement.Labelled.{Labelled}
use Rattle.rt_tree_nodes.specs.declared.statement.Stat.{Stat}
use Rattle.rt_tree_nodes.specs.declared.value.Value.{Value}
use Rattle.rt_check_faults.specs.declared.fault.CheckFault.TheVariants as fault
use Rattle.rt_exprs.specs.declared.scope.Meaning.TheVariants as meaning
use Rattle.rt_check_faults.specs.Outcomes.{Outcome}
use Rattle.rt_tree.specs.Modules.{local_stands}
use Rattle.rt_check_bodies.specs.declared.tally.Tally.{Tally}
use Rattle.rt_check_bodies.specs.Parts.{Part, noted_if, next_local, three_locals, mode_or}
use Rattle.rt_exprs.specs.Sights.{Names, Sight, holds, innermost, within}
use Rattle.rt_check_bodies.specs.Sights.{mode_in}
use Rattle.rt_check_bodies.specs.declared.plain.Bounds.{Bounds}
use Rattle.rt_check_bodies.specs.Statements.{Line, Declared, JudgedBranch, labels_of, labels_at, labelled, in_order, sequence, start_in, start_alone, local_more, locals_more, line_more, declarations, branches, bounds_in, variable_of, for_loop, to_loop, int_in}
use Rattle.rt_check_bodies.specs.Parts.{numbers_from}
use Rattle.rt_bricks_laws.specs.Bodies.{all}
use Rattle.rt_bricks_laws.specs.Modes.{locals_shallow}
use Rattle.rt_check_bodies_laws.specs.Named.{NamesRecords}
use Rattle.rt_check_bodies_laws.proofs.Good.{int_locals}
use Rattle.rt_check_bodies_laws.proofs.Inside.{bounds_locals}
use Rattle.rt_check_bodies_laws.proofs.Lines.{all_labels_keep}
use Rattle.rt_check_bodies_laws.proofs.Locals.{noted_locals, mode_locals, start_locals, alone_locals}
use Rattle.rt_check_bodies_laws.proofs.Named.{mode_stands, declared_names, one_more_name, all_labels_named}

left_of : (a b : Bool) → a && b ≡ true → a ≡ true
left_of true b e = refl
left_of false b e = e

right_of : (a b : Bool) → a && b ≡ true → b ≡ true
right_of true b e = e
right_of false b e = absurd cc

both_true : (a b : Bool) → a ≡ true → b ≡ true → a && b ≡ true
both_true a b e h = rw (e, h) refl

pub one_more_stands : (test : Made → Bool) (ls : List Made) (l : Made) → list_all test ls ≡ true → test l ≡ true → list_all test (ls ++ l ∷ []) ≡ true
one_more_stands test [] l h e = both_true (test l) true e refl
one_more_stands test (x ∷ xs) l h e = both_true (test x) (list_all test (xs ++ l ∷ [])) (left_of (test x) (list_all test xs) h) (one_more_stands test xs l (right_of (test x) (list_all test xs) h) e)

module _ (n : ℕ) where
  -- the locals so far may stand
  abbrev pub Standing : Tally → Type 0
  Standing t = list_all (local_stands n) t.locals ≡ true

  pub with_locals_same : (t u : Tally) → u.locals ≡ t.locals → Standing t → Standing u
  with_locals_same t u e h = subst (λ (ls : List Made). list_all (local_stands n) ls ≡ true) (sym e) h

  -- a part adds locals that may stand
  abbrev pub Keeps : {A : Type 0} → (Sight → Part A) → Type 0
  Keeps p = (s : Sight) (t : Tally) → NamesRecords n s → Standing t → Standing (p s t).1

  abbrev pub MayStand : Outcome Mode → Type 0
  MayStand o = (m : Mode) → o ≡ Ok m → local_stands n (made.Variable m) ≡ true

  pub mode_same : (o : Outcome Mode) (t : Tally) → MayStand o → MayStand (mode_or o t).0
  mode_same (Ok m) t h = h
  mode_same (Err g) t h = h

  -- ---- declarations

  pub record Kept (result : Declared × Tally) : Type 0 where
    pub names : NamesRecords n result.0.sight
    pub locals : Standing result.1

  local_keeps : (m : Outcome Mode) → MayStand m → (d : Declared) (x : Local) (t : Tally) → NamesRecords n d.sight → Standing t → Kept (local_more m d x t)
  local_keeps (Err g) may d x t h k = record {
    names = one_more_name n d.sight x.name.name meaning.Unknown h tt;
    locals = with_locals_same t (local_more (Err g) d x t).1 (noted_locals (holds (innermost d.sight.levels) x.name.name) (fault.DeclaredTwice x.name.at) (start_alone d.sight x.start t) ∙ alone_locals d.sight x.start t) k;
  }
  local_keeps (Ok m) may d x t h k =
      let u : Option Value × Tally = start_in d.sight x.name m x.start t in
      let v : Tally = noted_if (holds (innermost d.sight.levels) x.name.name) (fault.DeclaredTwice x.name.at) u.1 in
      let same : v.locals ≡ t.locals = noted_locals (holds (innermost d.sight.levels) x.name.name) (fault.DeclaredTwice x.name.at) u.1 ∙ start_locals d.sight x.name m x.start t in
      record {
        names = one_more_name n d.sight x.name.name (meaning.Local (next_local u.1) m) h tt;
        locals = one_more_stands (local_stands n) v.locals (made.Variable m) (with_locals_same t v same k) (may m refl);
      }

  locals_keep : (m : Outcome Mode) → MayStand m → (d : Declared) (xs : List Local) (t : Tally) → NamesRecords n d.sight → Standing t → Kept (locals_more m d xs t)
  locals_keep m may d [] t h k = record { names = h; locals = k }
  locals_keep m may d (x ∷ xs) t h k =
      let u : Declared × Tally = local_more m d x t in
      let one = local_keeps m may d x t h k in
      locals_keep m may u.0 xs u.1 one.names one.locals

  line_keeps : (d : Declared) (l : Locals) (t : Tally) → locals_shallow l ≡ true → NamesRecords n d.sight → Standing t → Kept (line_more d l t)
  line_keeps d l t low h k =
      let o : Outcome Mode = mode_in d.sight l.at l.mode in
      let u : Outcome Mode × Tally = mode_or o t in
      locals_keep u.0 (mode_same o t (λ m e. mode_stands n d.sight l.at l.mode m h low e)) d l.names u.1 h (with_locals_same t u.1 (mode_locals o t) k)

  pub declarations_keep : (d : Declared) (ls : List Locals) (t : Tally) → all (map locals_shallow ls) ≡ true → NamesRecords n d.sight → Standing t → Kept (declarations d ls t)
  declarations_keep d [] t low h k = record { names = h; locals = k }
  declarations_keep d (l ∷ ls) t low h k =
      let u : Declared × Tally = line_more d l t in
      let one = line_keeps d l t (left_of (locals_shallow l) (all (map locals_shallow ls)) low) h k in
      declarations_keep u.0 ls u.1 (right_of (locals_shallow l) (all (map locals_shallow ls)) low) one.names one.locals

  -- ---- sequences

  abbrev pub LinesKeep : List Line → Type 0
  LinesKeep [] = Unit {0}
  LinesKeep (x ∷ xs) = Keeps x.part × LinesKeep xs

  order_keeps : (xs : List Line) → LinesKeep xs → (s : Sight) (k : ℕ) (done : List Labelled) (t : Tally) → NamesRecords n s → Standing t → Standing (in_order s k done xs t).1
  order_keeps [] g s k done t h e = e
  order_keeps (x ∷ xs) g s k done t h e =
      let o : Option Stat × Tally = x.part s t in
      order_keeps xs g.1 s (numbers_from [] k x.labels).1 (done ++ labelled (numbers_from [] k x.labels).0 o.0 ∷ []) o.1 h (g.0 s t h e)

  pub sequence_keeps : (xs : List Line) → LinesKeep xs → Keeps (λ s. sequence s xs)
  sequence_keeps xs g s t h e =
      let u : Names × Tally = labels_of [] (map labels_at xs) t in
      order_keeps xs g (within u.0 s) t.labels [] u.1 (all_labels_named n [] (map labels_at xs) t tt, h) (with_locals_same t u.1 (all_labels_keep [] (map labels_at xs) t) e)

  -- ---- loops

  pub three_keep : (t : Tally) → Standing t → Standing (three_locals t).1
  three_keep t h =
      let x : List Made = t.locals ++ made.Loop ∷ [] in
      let y : List Made = x ++ made.Loop ∷ [] in
      one_more_stands (local_stands n) y made.Loop (one_more_stands (local_stands n) x made.Loop (one_more_stands (local_stands n) t.locals made.Loop h refl) refl) refl

  pub to_keeps : (e : Expr) (xs : List Line) → LinesKeep xs → Keeps (λ s. to_loop s e xs)
  to_keeps e xs g s t h k =
      let u : Value × Tally = int_in s e t in
      let v : ℕ × Tally = three_locals u.1 in
      sequence_keeps xs g s v.1 h (three_keep u.1 (with_locals_same t u.1 (int_locals s e t) k))

  pub for_keeps : (d : Control) (e : Expr) (xs : List Line) → LinesKeep xs → Keeps (λ s. for_loop s d e xs)
  for_keeps d e xs g s t h k =
      let u : Bounds × Tally = bounds_in s d e t in
      let v : ℕ × Tally = three_locals u.1 in
      sequence_keeps xs g (within (variable_of d v.0) s) v.1 (declared_names n d.name.name (meaning.Loop v.0) [] tt tt, h) (three_keep u.1 (with_locals_same t u.1 (bounds_locals s d e t) k))

  -- ---- branches

  abbrev pub BranchesKeep : List JudgedBranch → Type 0
  BranchesKeep [] = Unit {0}
  BranchesKeep (b ∷ bs) = Keeps b × BranchesKeep bs

  pub branches_keep : (bs : List JudgedBranch) → BranchesKeep bs → (s : Sight) (done : List BranchMade) (t : Tally) → NamesRecords n s → Standing t → Standing (branches s done bs t).1
  branches_keep [] g s done t h k = k
  branches_keep (b ∷ bs) g s done t h k = let u : BranchMade × Tally = b s t in branches_keep bs g.1 s (done ++ u.0 ∷ []) u.1 h (g.0 s t h k)
