-- The bricks of a module: their kinds, full modes and items, and the faults of these.
use Rattle.std.specs.Prelude.{nat_le, ◌&&◌, Bool, true, false, if◌then◌else◌, List, [], ◌∷◌, ◌++◌, map, Option, Some, None}
use Rattle.rt_bricks.specs.declared.tree.Declaration.{Declaration}
use Rattle.rt_bricks.specs.declared.tree.Declaration.TheVariants as declares
use Rattle.rt_bricks.specs.declared.tree.Import.{Import}
use Rattle.rt_bricks.specs.declared.tree.Import.TheVariants as import
use Rattle.rt_bricks.specs.declared.tree.ProcedureBrick.{ProcedureBrick}
use Rattle.rt_bricks.specs.declared.tree.StackBrick.{StackBrick}
use Rattle.rt_syntax_exprs.specs.declared.tree.WrittenMode.{WrittenMode}
use Rattle.rt_grammar.specs.declared.at.Ident.{Ident}
use Rattle.rt_modes.specs.declared.mode.Field.{Field}
use Rattle.rt_modes.specs.declared.mode.Mode.{Mode}
use Rattle.rt_modes.specs.declared.mode.Mode.TheVariants as mode
use Rattle.rt_tree_nodes.specs.declared.brick.Kind.{Kind}
use Rattle.rt_tree_nodes.specs.declared.brick.Kind.TheVariants as kind
use Rattle.rt_check_faults.specs.declared.fault.CheckFault.{CheckFault}
use Rattle.rt_check_faults.specs.declared.fault.CheckFault.TheVariants as fault
use Rattle.rt_check_declared.specs.Fields.{written_fields, mode_faults, faults_by}
use Rattle.rt_check_declared.specs.declared.site.Site.TheVariants as site
use Rattle.rt_check_declared.specs.Verdicts.{with_faults}
use Rattle.rt_check_declared.specs.Written.{Names, written}
use Rattle.rt_check_declared.specs.declared.bricks.Heading.{Heading}
use Rattle.rt_check_declared.specs.declared.bricks.Sort.TheVariants as sort
use Rattle.rt_check_declared.specs.declared.parts.Given.{Given}
use Rattle.rt_check_declared.specs.declared.parts.Given.TheVariants as given
use Rattle.rt_check_declared.specs.declared.parts.Line.{Line}
use Rattle.rt_check_declared.specs.declared.parts.Line.TheVariants as line
use Rattle.rt_check_declared.specs.Parts.{line_by, given_by, line_faults, recovers, parts, parts_faults, item_parts, item_faults}

abbrev pub own_kind : Bool → Kind
own_kind true = kind.Ent
own_kind false = kind.Own

abbrev pub import_kind : Import → Kind
import_kind import.External = kind.Ext
import_kind import.Service = kind.Svc

abbrev pub stack_faults : StackBrick → List CheckFault
stack_faults s = if nat_le 1 s.length && nat_le s.length 28672 then [] else fault.BadStart s.name.at ∷ []

-- a procedure's mode, where no fault stands in its heading; else it can't be known
abbrev pub headed : Option CheckFault → List Field → Option Mode → Given
headed None fs r = given.Mode (mode.Proc (map (λ f. f.mode) fs) r)
headed (Some f) fs r = given.Unknown

abbrev pub result_by : Option Line → Option Mode
result_by (Some (line.Mode m)) = Some m
result_by _ = None

abbrev pub optional_faults : Option Line → Ident → List CheckFault
optional_faults None i = []
optional_faults (Some l) i = line_faults l (i ∷ [])

-- bricks of other modules
abbrev pub imported_procedure : Kind → Line → Ident → Heading
imported_procedure k l i = record { kind = k; name = i.name; sort = sort.Procedure (given_by l) }

abbrev pub imported_stack : Ident → Heading
imported_stack i = record { kind = kind.Ext; name = i.name; sort = sort.Stack 0 }

module _ (names : Names) where
  abbrev pub variable : WrittenMode → Line
  variable w = line_by (written names w site.Variable)

  abbrev pub result_line : Option WrittenMode → Option Line
  result_line None = None
  result_line (Some w) = Some (variable w)

  abbrev pub result_faults : Ident → Option WrittenMode → List CheckFault
  result_faults i None = []
  result_faults i (Some w) = faults_by (written names w site.Variable) (i ∷ [])

  -- the faults of a procedure's parameters and of its result
  abbrev pub procedure_faults : ProcedureBrick → List CheckFault
  procedure_faults p = mode_faults names site.Variable p.fields ++ result_faults p.name p.result

  abbrev pub procedure : ProcedureBrick → Given
  procedure p = headed (with_faults None (procedure_faults p)) (written_fields names site.Variable p.fields) (result_by (result_line p.result))

  -- the bricks of a declaration
  abbrev pub bricks_in : Declaration → List Heading
  bricks_in (declares.Record r) = []
  bricks_in (declares.Data d) = record { kind = own_kind d.entry; name = d.name.name; sort = sort.Items (item_parts names d.lines) } ∷ []
  bricks_in (declares.Stack s) = record { kind = own_kind s.entry; name = s.name.name; sort = sort.Stack s.length } ∷ []
  bricks_in (declares.Procedure p) = record { kind = own_kind p.entry; name = p.name.name; sort = sort.Procedure (procedure p) } ∷ []
  bricks_in (declares.ImportedProcedures p) = map (imported_procedure (import_kind p.import) (variable p.mode)) p.names
  bricks_in (declares.ImportedData d) = record { kind = import_kind d.import; name = d.name.name; sort = sort.Items (parts names (recovers d.import d.name.name) d.lines) } ∷ []
  bricks_in (declares.ImportedStacks s) = map imported_stack s.names

  -- the faults of their modes, and of the lengths of stacks
  abbrev pub faults_in : Declaration → List CheckFault
  faults_in (declares.Record r) = []
  faults_in (declares.Data d) = item_faults names d.lines
  faults_in (declares.Stack s) = stack_faults s
  faults_in (declares.Procedure p) = procedure_faults p
  faults_in (declares.ImportedProcedures p) = faults_by (written names p.mode site.Variable) p.names
  faults_in (declares.ImportedData d) = parts_faults names (recovers d.import d.name.name) d.lines
  faults_in (declares.ImportedStacks s) = []

  abbrev pub bricks : List Declaration → List Heading
  bricks [] = []
  bricks (d ∷ ds) = bricks_in d ++ bricks ds

  abbrev pub brick_faults : List Declaration → List CheckFault
  brick_faults [] = []
  brick_faults (d ∷ ds) = faults_in d ++ brick_faults ds
