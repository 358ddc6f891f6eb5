-- One more line, one more brick, and the faults that are noted there.
use Rattle.std.proofs.Common.{◌≡◌, ℕ, ◌+◌, ◌<◌, Bool, true, false, if◌then◌else◌, List, [], ◌∷◌, ◌++◌, Option, Some, None, length, drop, get_or, map, refl, sym, ap, ◌∙◌, append_assoc}
use Rattle.rt_bricks.specs.declared.tree.DataItem.{DataItem}
use Rattle.rt_bricks.specs.declared.tree.DataLine.{DataLine}
use Rattle.rt_bricks.specs.declared.tree.Declaration.{Declaration}
use Rattle.rt_bricks.specs.declared.tree.Fields.{Fields}
use Rattle.rt_bricks.specs.declared.tree.ProcedureBrick.{ProcedureBrick}
use Rattle.rt_check_declared.specs.Names.{idents}
use Rattle.rt_syntax_exprs.specs.declared.tree.WrittenMode.{WrittenMode}
use Rattle.rt_grammar.specs.declared.at.Ident.{Ident}
use Rattle.rt_check_declared.specs.declared.bricks.Heading.{Heading}
use Rattle.rt_check_declared.specs.declared.parts.Given.{Given}
use Rattle.rt_check_declared.specs.declared.parts.Line.{Line}
use Rattle.rt_check_declared.specs.declared.parts.Part.{Part}
use Rattle.rt_check_declared.specs.Bricks.{optional_faults, headed, result_by, result_line, result_faults, procedure_faults, procedure, bricks_in, faults_in, bricks, brick_faults}
use Rattle.rt_check_declared.specs.Parts.{line_by, part, line_faults, is_recovery, imported_line, imported_line_faults, parts, parts_faults, item_parts, item_faults}
use Rattle.rt_check_declared.specs.declared.parts.Line.TheVariants as line
use Rattle.rt_modes.specs.declared.mode.Mode.TheVariants as mode
use Rattle.rt_modes.specs.declared.mode.Field.{Field}
use Rattle.rt_check_faults.specs.declared.fault.CheckFault.{CheckFault}
use Rattle.rt_check_declared.specs.Fields.{faults_by, written_fields, mode_faults}
use Rattle.rt_check_declared.specs.Heads.{noted}
use Rattle.rt_check_declared.proofs.RecordSteps.{drop_next, more_faults, first_noted, noted_some}
use Rattle.rt_check_declared.specs.declared.site.Site.TheVariants as site
use Rattle.rt_check_declared.specs.declared.written.Resolved.{Resolved}
use Rattle.rt_check_declared.specs.declared.written.Resolved.TheVariants as resolved
use Rattle.rt_check_declared.specs.Verdicts.{Verdict, fit, unfit, with_faults}
use Rattle.rt_check_declared.specs.Written.{Names, written}

-- ---- faults

line_noted : (v : Verdict Resolved) (ids : List Ident) (o : Option CheckFault) → with_faults o (line_faults (line_by v) ids) ≡ with_faults o (faults_by v ids)
unfolding with_faults
line_noted (fit (resolved.Mode m)) ids o = refl
line_noted (fit resolved.BadLength) ids o = refl
line_noted (unfit f fs) ids o = first_noted o f fs

pub noted_line : (v : Verdict Resolved) (l : Line) (ns ms : List Ident) (o n : Option CheckFault) → l ≡ line_by v → ns ≡ ms → n ≡ with_faults o (line_faults l ns) → n ≡ with_faults o (faults_by v ms)
noted_line v l ns ms o n a b c = c ∙ ap (λ (x : Line). with_faults o (line_faults x ns)) a ∙ line_noted v ns o ∙ ap (λ (x : List Ident). with_faults o (faults_by v x)) b

pub either_noted : {X : Type 0} (faults : X → List CheckFault) (x y : X) (o r n : Option CheckFault) → x ≡ y → r ≡ with_faults None (faults x) → n ≡ noted o r → n ≡ with_faults o (faults y)
either_noted {X} faults x y o r n a b c = c ∙ ap (noted o) b ∙ noted_some o (faults x) ∙ ap (λ (z : X). with_faults o (faults z)) a

-- ---- one more line

module _ (names : Names) where
  imported_noted_by : (b : Bool) (v : Verdict Resolved) (ids : List Ident) (o : Option CheckFault) → with_faults o (line_faults (if b then line.Mode mode.Label else line_by v) ids) ≡ with_faults o (if b then [] else faults_by v ids)
  imported_noted_by true v ids o = refl
  imported_noted_by false v ids o = line_noted v ids o

  imported_noted : (erl : Bool) (x : Fields) (l : Line) (ns : List Ident) (o p : Option CheckFault) → l ≡ imported_line names erl x → ns ≡ x.names → p ≡ with_faults o (line_faults l ns) → p ≡ with_faults o (imported_line_faults names erl x)
  imported_noted erl x l ns o p a b c =
      c ∙ ap (λ (z : Line). with_faults o (line_faults z ns)) a ∙ ap (λ (z : List Ident). with_faults o (line_faults (imported_line names erl x) z)) b
      ∙ imported_noted_by (is_recovery erl x) (written names x.mode site.Item) x.names o

  pub parts_step : (erl : Bool) (a b : List Part) (ls : List Fields) (i : ℕ) (x : Fields) (l : Line) (ns : List Ident) → i < length ls → x ≡ get_or ls i x → l ≡ imported_line names erl x → ns ≡ x.names → b ≡ a ++ map (part l) ns
      → a ++ parts names erl (drop i ls) ≡ parts names erl ls → b ++ parts names erl (drop (i + 1) ls) ≡ parts names erl ls
  parts_step erl a b ls i x l ns h e el en is kept = rw (is, el, en, append_assoc) (sym (ap (λ (z : List Fields). a ++ parts names erl z) (drop_next ls i x h e)) ∙ kept)

  pub items_step : (a b : List Part) (ls : List DataLine) (i : ℕ) (x : DataLine) (l : Line) (ns : List DataItem) → i < length ls → x ≡ get_or ls i x → l ≡ line_by (written names x.mode site.Item) → ns ≡ x.items → b ≡ a ++ map (part l) (idents ns)
      → a ++ item_parts names (drop i ls) ≡ item_parts names ls → b ++ item_parts names (drop (i + 1) ls) ≡ item_parts names ls
  items_step a b ls i x l ns h e el en is kept = rw (is, el, en, append_assoc) (sym (ap (λ (z : List DataLine). a ++ item_parts names z) (drop_next ls i x h e)) ∙ kept)

  pub faults_step : (erl : Bool) (o p t : Option CheckFault) (ls : List Fields) (i : ℕ) (x : Fields) (l : Line) (ns : List Ident) → i < length ls → x ≡ get_or ls i x → l ≡ imported_line names erl x → ns ≡ x.names → p ≡ with_faults o (line_faults l ns)
      → with_faults o (parts_faults names erl (drop i ls)) ≡ t → with_faults p (parts_faults names erl (drop (i + 1) ls)) ≡ t
  faults_step erl o p t ls i x l ns h e el en is kept =
      rw (imported_noted erl x l ns o p el en is, more_faults) (sym (ap (λ (z : List Fields). with_faults o (parts_faults names erl z)) (drop_next ls i x h e)) ∙ kept)

  pub item_faults_step : (o p t : Option CheckFault) (ls : List DataLine) (i : ℕ) (x : DataLine) (l : Line) (ns : List DataItem) → i < length ls → x ≡ get_or ls i x → l ≡ line_by (written names x.mode site.Item) → ns ≡ x.items
      → p ≡ with_faults o (line_faults l (idents ns)) → with_faults o (item_faults names (drop i ls)) ≡ t → with_faults p (item_faults names (drop (i + 1) ls)) ≡ t
  item_faults_step o p t ls i x l ns h e el en is kept =
      rw (noted_line (written names x.mode site.Item) l (idents ns) (idents x.items) o p el (ap idents en) is, more_faults)
      (sym (ap (λ (z : List DataLine). with_faults o (item_faults names z)) (drop_next ls i x h e)) ∙ kept)

-- ---- procedures

module _ (names : Names) (p : ProcedureBrick) where
  result_noted : (i : Ident) (w : Option WrittenMode) (o : Option CheckFault) → with_faults o (optional_faults (result_line names w) i) ≡ with_faults o (result_faults names i w)
  result_noted i None o = refl
  result_noted i (Some w) o = line_noted (written names w site.Variable) (i ∷ []) o

  pub procedure_noted : (ls : List Fields) (f n : Option CheckFault) (l : Option Line) → ls ≡ p.fields → f ≡ with_faults None (mode_faults names site.Variable ls) → l ≡ result_line names p.result → n ≡ with_faults f (optional_faults l p.name)
      → n ≡ with_faults None (procedure_faults names p)
  procedure_noted ls f n l a b c d =
      d ∙ ap (λ (x : Option Line). with_faults f (optional_faults x p.name)) c ∙ result_noted p.name p.result f ∙ ap (λ (x : Option CheckFault). with_faults x (result_faults names p.name p.result)) b
      ∙ more_faults None (mode_faults names site.Variable ls) (result_faults names p.name p.result) ∙ ap (λ (x : List Fields). with_faults None (mode_faults names site.Variable x ++ result_faults names p.name p.result)) a

  pub procedure_given : (ls : List Fields) (fs gs : List Field) (n : Option CheckFault) (l : Option Line) (g : Given) → ls ≡ p.fields → fs ≡ written_fields names site.Variable ls → gs ≡ fs → n ≡ with_faults None (procedure_faults names p) → l ≡ result_line names p.result
      → g ≡ headed n gs (result_by l) → g ≡ procedure names p
  procedure_given ls fs gs n l g a b c d e is =
      is ∙ ap (λ (x : Option CheckFault). headed x gs (result_by l)) d ∙ ap (λ (x : List Field). headed (with_faults None (procedure_faults names p)) x (result_by l)) (c ∙ b ∙ ap (written_fields names site.Variable) a)
      ∙ ap (λ (x : Option Line). headed (with_faults None (procedure_faults names p)) (written_fields names site.Variable p.fields) (result_by x)) e

-- ---- one more declaration

module _ (names : Names) where
  pub bricks_step : (a b : List Heading) (ds : List Declaration) (i : ℕ) (d : Declaration) → i < length ds → d ≡ get_or ds i d → b ≡ a ++ bricks_in names d → a ++ bricks names (drop i ds) ≡ bricks names ds
      → b ++ bricks names (drop (i + 1) ds) ≡ bricks names ds
  bricks_step a b ds i d h e is kept = rw (is, append_assoc) (sym (ap (λ (z : List Declaration). a ++ bricks names z) (drop_next ds i d h e)) ∙ kept)

  pub brick_faults_step : (o p t : Option CheckFault) (ds : List Declaration) (i : ℕ) (d : Declaration) → i < length ds → d ≡ get_or ds i d → p ≡ with_faults o (faults_in names d) → with_faults o (brick_faults names (drop i ds)) ≡ t
      → with_faults p (brick_faults names (drop (i + 1) ds)) ≡ t
  brick_faults_step o p t ds i d h e is kept = rw (is, more_faults) (sym (ap (λ (z : List Declaration). with_faults o (brick_faults names z)) (drop_next ds i d h e)) ∙ kept)

  pub parts_noted : (a b : Bool) (ls : List Fields) (o : Option CheckFault) → a ≡ b → o ≡ with_faults None (parts_faults names a ls) → o ≡ with_faults None (parts_faults names b ls)
  parts_noted a b ls o e is = is ∙ ap (λ (x : Bool). with_faults None (parts_faults names x ls)) e
