-- The object of a typed module.
use Rattle.std.specs.Prelude.{◌≡◌, ℕ, ◌+◌, ◌≤◌, List, [], ◌∷◌, map, Option, Some, None, option_map, slice_get}
use Rattle.rt_modes.specs.declared.mode.Field.{Field}
use Rattle.rt_modes.specs.declared.mode.Mode.{Mode}
use Rattle.rt_tree_nodes.specs.declared.brick.Brick.{Brick}
use Rattle.rt_tree_nodes.specs.declared.brick.BrickSort.{BrickSort}
use Rattle.rt_tree_nodes.specs.declared.brick.BrickSort.TheVariants as sort
use Rattle.rt_tree_nodes.specs.declared.brick.Kind.{Kind}
use Rattle.rt_tree_nodes.specs.declared.brick.Kind.TheVariants as kind
use Rattle.rt_tree_nodes.specs.declared.brick.ModuleParts.{ModuleParts}
use Rattle.rt_tree_nodes.specs.declared.brick.ProcBody.{ProcBody}
use Rattle.rt_tree_nodes.specs.Scopes.{scope_of}
use Rattle.rt_object.specs.declared.object.Brick.{Brick as Compiled}
use Rattle.rt_object.specs.declared.object.BrickKind.{BrickKind}
use Rattle.rt_object.specs.declared.object.BrickKind.TheVariants.{Own, Ent, Ext, Svc}
use Rattle.rt_object.specs.declared.object.Call.{Call}
use Rattle.rt_object.specs.declared.object.Content.{Content}
use Rattle.rt_object.specs.declared.object.Content.TheVariants as content
use Rattle.rt_object.specs.declared.object.DataContent.{DataContent}
use Rattle.rt_object.specs.declared.object.External.{External}
use Rattle.rt_object.specs.declared.object.External.TheVariants as external
use Rattle.rt_object.specs.declared.object.ObjectParts.{ObjectParts}
use Rattle.rt_object.specs.declared.object.ProcContent.{ProcContent}
use Rattle.rt_object.specs.declared.object.Supplied.{Supplied}
use Rattle.rt_object.specs.declared.object.Supplied.TheVariants as supplied
use Rattle.rt_object.specs.declared.object.Target.{Target}
use Rattle.rt_object.specs.declared.object.Target.TheVariants as target
use Rattle.rt_icode.specs.declared.procedure.IModule.{IModule}
use Rattle.rt_icode.specs.declared.procedure.IProc.{IProc}
use Rattle.rt_frames.specs.declared.frame.CallPoint.{CallPoint}
use Rattle.rt_frames.specs.declared.frame.Frame.{Frame}
use Rattle.rt_frames.specs.declared.frame.Target.{Target as Called}
use Rattle.rt_frames.specs.declared.frame.Target.TheVariants as called
use Rattle.rt_frames.specs.Frames.{frame}
use Rattle.rt_lower.specs.declared.layouts.Layouts.{Layouts}
use Rattle.rt_lower.specs.Layouts.{AreLayouts}
use Rattle.rt_lower.specs.Code.{procedure, intermediate}
use Rattle.rt_templates.specs.declared.code.ProcCode.{ProcCode}
use Rattle.rt_templates.specs.Expanded as code
use Rattle.rt_templates.specs.Expanded.{IsTooLong}
use Rattle.rt_compile.specs.declared.data.written.Data.{Data}
use Rattle.rt_compile.specs.Data.{data_of}
use Rattle.rt_compile.specs.Taken.{AreTaken}

-- ---- what a procedure and a data brick are in an object

abbrev pub target_of : Called → Target
target_of (called.Brick k) = target.Brick k
target_of (called.Variable m) = target.Mode m
target_of called.Error = target.Error

abbrev pub call_of : CallPoint → Call
call_of c = record { depth = c.depth; args = c.args; target = target_of c.target }

-- a procedure of this mode and so many items, by its frame and its code
abbrev pub procedure_of : Mode → ℕ → Frame → ProcCode → ProcContent
procedure_of m items f c = record {
  mode = m;
  items = items;
  locals = f.locals;
  deep = f.deep;
  calls = map call_of f.calls;
  words = c.words;
  marks = c.marks;
  relocations = c.relocations;
}

-- data of these items, by their bytes and the words among them that become addresses
abbrev pub items_of : List Field → Data → DataContent
items_of fs d = record { fields = fs; bytes = d.bytes; relocations = d.relocations }

-- ---- bricks of other modules and of the supervisor

abbrev pub external_of : BrickSort → External
external_of (sort.Proc m body) = external.Proc m
external_of (sort.Data fs ss) = external.Data fs
external_of (sort.Stack n) = external.Stack

-- no stack is supplied
abbrev pub supplied_of : BrickSort → Option Supplied
supplied_of (sort.Proc m body) = Some (supplied.Proc m)
supplied_of (sort.Data fs ss) = Some (supplied.Data fs)
supplied_of (sort.Stack n) = None

abbrev pub named : List ℕ → BrickKind → Compiled
named name k = record { name = name; kind = k }

-- ---- bricks of the module, by how its data lie

module _ (l : Layouts) (p : ModuleParts) where
  -- brick k, an own or ENT procedure of this mode, by its code
  abbrev pub procedure_by : ℕ → Mode → Option ProcBody → Option ProcCode → Option Content
  procedure_by k m (Some b) (Some c) = option_map (λ f. content.Proc (procedure_of m b.items f c)) (frame p k)
  procedure_by k m _ _ = None

  -- what brick k holds, of which the code is given where it is a procedure
  abbrev pub content_by : ℕ → BrickSort → Option ProcCode → Option Content
  content_by k (sort.Proc m body) c = procedure_by k m body c
  content_by k (sort.Data fs ss) c = Some (content.Data (items_of fs (data_of l (scope_of p) fs ss)))
  content_by k (sort.Stack n) c = Some (content.Stack n)

  abbrev pub kind_by : ℕ → Kind → BrickSort → Option ProcCode → Option BrickKind
  kind_by k kind.Own s c = option_map Own (content_by k s c)
  kind_by k kind.Ent s c = option_map Ent (content_by k s c)
  kind_by k kind.Ext s c = Some (Ext (external_of s))
  kind_by k kind.Svc s c = option_map Svc (supplied_of s)

  abbrev pub brick_by : ℕ → Brick → Option ProcCode → Option Compiled
  brick_by k d c = option_map (named d.name) (kind_by k d.kind d.sort c)

  -- the code of brick k, an own or ENT procedure
  abbrev pub code_by : ℕ → Brick → BrickSort → Option ProcCode
  code_by k d (sort.Proc m (Some b)) = Some (code.proc_of (procedure l p k d m b))
  code_by k d _ = None

  -- brick k of the object
  abbrev pub brick : ℕ → Brick → Option Compiled
  brick k d = brick_by k d (code_by k d d.sort)

  -- from brick k on
  abbrev pub bricks : ℕ → List Brick → List (Option Compiled)
  bricks k [] = []
  bricks k (d ∷ ds) = brick k d ∷ bricks (k + 1) ds

  -- each brick of the module is there, in their order
  abbrev pub AreBricks : List Compiled → Type 0
  AreBricks bs = map Some bs ≡ bricks 0 p.bricks

-- ---- the object

-- no procedure's code is too long
abbrev pub AreShort : IModule → Type 0
AreShort m = (k : ℕ) (q : IProc) → slice_get m.procs k ≡ Some q → code.size_of q.code ≤ code.most

-- the object of a module, by how its data lie
pub record IsObjectWith (l : Layouts) (p : ModuleParts) (o : ObjectParts) : Type 0 where
  pub short : AreShort (intermediate l p)
  pub title : o.title ≡ p.title
  pub records : o.records ≡ p.modes
  pub strings : o.strings ≡ p.strings
  pub bricks : AreBricks l p o.bricks
  pub taken : AreTaken p o.taken

pub record IsObjectOf (p : ModuleParts) (o : ObjectParts) : Type 0 where
  pub layouts : Layouts
  pub right : AreLayouts p layouts
  pub object : IsObjectWith layouts p o

-- the first procedure of a module whose code is too long
pub record HasLongProc (p : ModuleParts) (name : List ℕ) : Type 0 where
  pub layouts : Layouts
  pub right : AreLayouts p layouts
  pub long : IsTooLong (intermediate layouts p) name
