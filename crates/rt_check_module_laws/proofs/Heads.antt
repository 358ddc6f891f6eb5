-- The parameters and the result of a procedure, as its heading declares them.
use Rattle.std.proofs.Common.{◌≡◌, Bool, true, false, List, [], ◌∷◌, ◌++◌, map, Option, Some, None, Ok, Err, append_assoc, refl, sym, ap, ◌∙◌, subst}
use Rattle.std.proofs.lemmas.List.{append-nil}
use Rattle.rt_grammar.specs.declared.at.At.{At}
use Rattle.rt_grammar.specs.declared.at.Ident.{Ident}
use Rattle.rt_syntax_exprs.specs.declared.tree.WrittenMode.{WrittenMode}
use Rattle.rt_bricks.specs.declared.tree.Fields.{Fields}
use Rattle.rt_modes.specs.declared.mode.Field.{Field}
use Rattle.rt_modes.specs.declared.mode.Mode.{Mode}
use Rattle.rt_tree_nodes.specs.declared.brick.Local.{Local as Made}
use Rattle.rt_tree_nodes.specs.declared.brick.Local.TheVariants as made
use Rattle.rt_check_faults.specs.declared.fault.CheckFault.{CheckFault}
use Rattle.rt_check_faults.specs.declared.fault.CheckFault.TheVariants as fault
use Rattle.rt_exprs.specs.Names.{find}
use Rattle.rt_check_faults.specs.Outcomes.{Outcome, ◌>>=◌}
use Rattle.rt_exprs_laws.specs.Agreeing.{IsValue}
use Rattle.rt_check_declared.specs.declared.site.Site.TheVariants as site
use Rattle.rt_check_declared.specs.declared.written.Resolved.{Resolved}
use Rattle.rt_check_declared.specs.declared.written.Resolved.TheVariants as resolved
use Rattle.rt_check_declared.specs.Verdicts.{Verdict, fit, unfit, outcome}
use Rattle.rt_check_declared.specs.Written.{Names, written}
use Rattle.rt_check_bodies.specs.declared.tally.Tally.{Tally}
use Rattle.rt_check_bodies.specs.Parts.{mode_or, noted, noted_if}
use Rattle.rt_exprs.specs.Sights.{Names as Level, Sight, holds}
use Rattle.rt_check_bodies.specs.Sights.{mode_in, variable_by}
use Rattle.rt_check_declared.specs.Fields.{fields_by, written_fields, faults_by, mode_faults}
use Rattle.rt_check_declared.specs.Bricks.{result_by, result_line, result_faults}
use Rattle.rt_check_declared.specs.Parts.{line_by}
use Rattle.rt_check_bodies.specs.Procedures.{named, group, parameters, answer_in, wanted}
use Rattle.rt_check_bodies_laws.specs.Held.{ResultIs}
use Rattle.rt_check_module_laws.proofs.Levels.{SameModes, same_written}
use Rattle.rt_bricks_laws.proofs.AllLists.{first_nothing, second_nothing, unmapped_nothing}

noted_locals : (b : Bool) (g : CheckFault) (t : Tally) → (noted_if b g t).locals ≡ t.locals
noted_locals true g t = refl
noted_locals false g t = refl

abbrev pub modes_of : List Field → List Mode
modes_of fs = map (λ f. f.mode) fs

-- a result has the mode of a value
abbrev pub ResultValue : Option Mode → Type 0
ResultValue None = Unit {0}
ResultValue (Some m) = IsValue m

abbrev locals_of : List Field → List Made
locals_of fs = map made.Variable (modes_of fs)

locals_joined : (fs gs : List Field) → locals_of (fs ++ gs) ≡ locals_of fs ++ locals_of gs
locals_joined [] gs = refl
locals_joined (f ∷ fs) gs = ap (λ (ls : List Made). made.Variable f.mode ∷ ls) (locals_joined fs gs)

-- where the names of MODEs are those that the sight has
module _ (names : Names) (s : Sight) (same : SameModes names (find s)) where
  found_mode : (at : At) (w : WrittenMode) (v : Verdict Resolved) → written names w site.Variable ≡ v → mode_in s at w ≡ outcome v >>= variable_by at
  found_mode at w v e = ap (λ (x : Verdict Resolved). outcome x >>= variable_by at) (sym (same_written names (find s) same w site.Variable) ∙ e)

  mode_is : (at : At) (w : WrittenMode) (m : Mode) → written names w site.Variable ≡ fit (resolved.Mode m) → mode_in s at w ≡ Ok m
  mode_is at w m e = found_mode at w (fit (resolved.Mode m)) e

  mode_bad : (at : At) (w : WrittenMode) → written names w site.Variable ≡ fit resolved.BadLength → mode_in s at w ≡ Err (fault.LeftOut 3 at)
  mode_bad at w e = found_mode at w (fit resolved.BadLength) e

  -- ---- parameters

  abbrev fields_with : Mode → List Ident → List Field
  fields_with m is = fields_by (fit (resolved.Mode m)) is

  group_heads : (m : Mode) (l : Level) (is : List Ident) (t : Tally) → (group (Ok m) l is t).1.locals ≡ t.locals ++ locals_of (fields_with m is)
  group_heads m l [] t = sym (append-nil t.locals)
  group_heads m l (i ∷ is) t =
      let u : Level × Tally = named l i (Ok m) t in
      group_heads m u.0 is u.1
      ∙ ap (λ (ls : List Made). (ls ++ made.Variable m ∷ []) ++ locals_of (fields_with m is)) (noted_locals (holds l i.name) (fault.DeclaredTwice i.at) t)
      ∙ append_assoc t.locals (made.Variable m ∷ []) (locals_of (fields_with m is))

  -- the names of a group, and the tally behind it
  abbrev behind : Level → Fields → Tally → Outcome Mode → Level × Tally
  behind l g t o = group (mode_or o t).0 l g.names (mode_or o t).1

  one_group : (l : Level) (g : Fields) (t : Tally) → faults_by (written names g.mode site.Variable) g.names ≡ [] → (behind l g t (mode_in s g.at g.mode)).1.locals ≡ t.locals ++ locals_of (fields_by (written names g.mode site.Variable) g.names)
  one_group l g t e = by_written (written names g.mode site.Variable) refl e where
    by_written : (v : Verdict Resolved) → written names g.mode site.Variable ≡ v → faults_by v g.names ≡ [] → (behind l g t (mode_in s g.at g.mode)).1.locals ≡ t.locals ++ locals_of (fields_by v g.names)
    by_written (fit (resolved.Mode m)) q e = ap (λ (o : Outcome Mode). (behind l g t o).1.locals) (mode_is g.at g.mode m q) ∙ group_heads m l g.names t
    by_written (fit resolved.BadLength) q e =
        let none : g.names ≡ [] = unmapped_nothing _ g.names e in
        ap (λ (o : Outcome Mode). (behind l g t o).1.locals) (mode_bad g.at g.mode q)
        ∙ ap (λ (is : List Ident). (group (Err (fault.LeftOut 3 g.at)) l is (noted (fault.LeftOut 3 g.at) t)).1.locals) none ∙ sym (append-nil t.locals)
        ∙ ap (λ (is : List Ident). t.locals ++ locals_of (fields_by (fit resolved.BadLength) is)) (sym none)
    by_written (unfit f fs) q e = absurd cc

  pub heads_are : (l : Level) (gs : List Fields) (t : Tally) → mode_faults names site.Variable gs ≡ [] → (parameters s l gs t).1.locals ≡ t.locals ++ locals_of (written_fields names site.Variable gs)
  heads_are l [] t e = sym (append-nil t.locals)
  heads_are l (g ∷ gs) t e =
      let v : Verdict Resolved = written names g.mode site.Variable in
      let u : Level × Tally = behind l g t (mode_in s g.at g.mode) in
      let fs : List Field = fields_by v g.names in
      let rest : List Field = written_fields names site.Variable gs in
      heads_are u.0 gs u.1 (second_nothing (faults_by v g.names) (mode_faults names site.Variable gs) e)
      ∙ ap (λ (ls : List Made). ls ++ locals_of rest) (one_group l g t (first_nothing (faults_by v g.names) (mode_faults names site.Variable gs) e))
      ∙ append_assoc t.locals (locals_of fs) (locals_of rest) ∙ ap (λ (ls : List Made). t.locals ++ ls) (sym (locals_joined fs rest))

  -- ---- the result

  pub result_is : (at : At) (i : Ident) (w : Option WrittenMode) (t : Tally) → result_faults names i w ≡ [] → ResultValue (result_by (result_line names w)) → ResultIs (answer_in s at w t).0 (result_by (result_line names w))
  result_is at i None t e h = tt
  result_is at i (Some w) t e h = by_written (written names w site.Variable) refl e h where
    by_written : (v : Verdict Resolved) → written names w site.Variable ≡ v → faults_by v (i ∷ []) ≡ [] → ResultValue (result_by (Some (line_by v))) → ResultIs (answer_in s at (Some w) t).0 (result_by (Some (line_by v)))
    by_written (fit (resolved.Mode m)) q e h = subst (λ (o : Outcome Mode). ResultIs (wanted (mode_or o t).0) (Some m)) (sym (mode_is at w m q)) (refl, h)
    by_written (fit resolved.BadLength) q e h = absurd cc
    by_written (unfit f fs) q e h = absurd cc
