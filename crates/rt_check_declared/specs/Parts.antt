-- Items, fields and parameters one by one: what each name is declared with.
use Rattle.std.specs.Prelude.{ℕ, ◌&&◌, Bool, true, false, if◌then◌else◌, List, [], ◌∷◌, ◌++◌, codes, map}
use Rattle.std.specs.Str.{bytes_eq}
use Rattle.rt_bricks.specs.declared.tree.Import.{Import}
use Rattle.rt_bricks.specs.declared.tree.Import.TheVariants as import
use Rattle.rt_syntax_exprs.specs.declared.tree.BasicMode.TheVariants as basic_mode
use Rattle.rt_syntax_exprs.specs.declared.tree.WrittenMode.{WrittenMode, out-WrittenMode}
use Rattle.rt_syntax_exprs.specs.declared.tree.WrittenMode.TheOpen.{WrittenMode-F}
use Rattle.rt_modes.specs.declared.mode.Mode.TheVariants as mode
use Rattle.rt_check_declared.specs.declared.site.Site.TheVariants as site
use Rattle.rt_bricks.specs.declared.tree.DataLine.{DataLine}
use Rattle.rt_bricks.specs.declared.tree.Fields.{Fields}
use Rattle.rt_check_declared.specs.Names.{idents}
use Rattle.rt_grammar.specs.declared.at.Ident.{Ident}
use Rattle.rt_check_faults.specs.declared.fault.CheckFault.{CheckFault}
use Rattle.rt_check_faults.specs.declared.fault.CheckFault.TheVariants as fault
use Rattle.rt_check_declared.specs.Fields.{faults_by}
use Rattle.rt_check_declared.specs.declared.written.Resolved.{Resolved}
use Rattle.rt_check_declared.specs.declared.written.Resolved.TheVariants as resolved
use Rattle.rt_check_declared.specs.Verdicts.{Verdict, fit, unfit, first_of}
use Rattle.rt_check_declared.specs.Written.{Names, written}
use Rattle.rt_check_declared.specs.declared.parts.Given.{Given}
use Rattle.rt_check_declared.specs.declared.parts.Given.TheVariants as given
use Rattle.rt_check_declared.specs.declared.parts.Line.{Line}
use Rattle.rt_check_declared.specs.declared.parts.Line.TheVariants as line
use Rattle.rt_check_declared.specs.declared.parts.Part.{Part}

-- what stands before names: a mode, an array whose length is out of range, or an unfit mode by the fault that counts
abbrev pub line_by : Verdict Resolved → Line
line_by (fit (resolved.Mode m)) = line.Mode m
line_by (fit resolved.BadLength) = line.BadLength
line_by (unfit f fs) = line.Unfit (first_of f fs)

-- what a name behind it is declared with
abbrev pub given_by : Line → Given
given_by (line.Mode m) = given.Mode m
given_by line.BadLength = given.Unknown
given_by (line.Unfit f) = given.Unknown

abbrev pub part : Line → Ident → Part
part l i = record { name = i.name; at = i.at; has = given_by l }

-- the faults of a line, those of an unfit mode by the one that counts
abbrev pub line_faults : Line → List Ident → List CheckFault
line_faults (line.Mode m) ids = []
line_faults line.BadLength ids = map (λ i. fault.BadStart i.at) ids
line_faults (line.Unfit f) ids = f ∷ []

-- ---- the label for recovery

abbrev pub is_label : WrittenMode-F WrittenMode → Bool
is_label (WrittenMode-F.Basic basic_mode.Label at) = true
is_label _ = false

abbrev pub is_only : List ℕ → List Ident → Bool
is_only n (i ∷ []) = bytes_eq i.name n
is_only n _ = false

-- LABEL is the mode of ERL in the SVC data RRERR, and of nothing else
abbrev pub recovers : Import → List ℕ → Bool
recovers import.Service n = bytes_eq n (codes "RRERR")
recovers import.External n = false

abbrev pub is_recovery : Bool → Fields → Bool
is_recovery erl g = erl && (is_label (out-WrittenMode g.mode) && is_only (codes "ERL") g.names)

module _ (names : Names) where
  -- the items of imported data, where LABEL may be the mode of ERL or not
  abbrev pub imported_line : Bool → Fields → Line
  imported_line erl g = if is_recovery erl g then line.Mode mode.Label else line_by (written names g.mode site.Item)

  abbrev pub imported_line_faults : Bool → Fields → List CheckFault
  imported_line_faults erl g = if is_recovery erl g then [] else faults_by (written names g.mode site.Item) g.names

  abbrev pub parts : Bool → List Fields → List Part
  parts erl [] = []
  parts erl (g ∷ gs) = map (part (imported_line erl g)) g.names ++ parts erl gs

  abbrev pub parts_faults : Bool → List Fields → List CheckFault
  parts_faults erl [] = []
  parts_faults erl (g ∷ gs) = imported_line_faults erl g ++ parts_faults erl gs

  -- the items of a data brick of the module
  abbrev pub item_parts : List DataLine → List Part
  item_parts [] = []
  item_parts (l ∷ ls) = map (part (line_by (written names l.mode site.Item))) (idents l.items) ++ item_parts ls

  -- the faults of their modes
  abbrev pub item_faults : List DataLine → List CheckFault
  item_faults [] = []
  item_faults (l ∷ ls) = faults_by (written names l.mode site.Item) (idents l.items) ++ item_faults ls
