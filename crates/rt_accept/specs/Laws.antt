-- Laws of what is read of a system, and of its fault lines.
use Rattle.std.specs.Prelude.{◌≡◌, ℕ, List, length, Option, Some, slice_get}
use Rattle.rt_digraph.specs.Walks.{Has}
use Rattle.rt_tree_nodes.specs.declared.store.Proc.{Proc}
use Rattle.rt_modes.specs.Bricks.{SuppliedBrick, brick_numbered}
use Rattle.rt_object.specs.declared.object.Brick.{Brick}
use Rattle.rt_object.specs.declared.object.ObjectParts.{ObjectParts}
use Rattle.rt_outside.specs.Files.{Files}
use Rattle.rt_match.specs.declared.bindings.Bound.{Bound}
use Rattle.rt_match.specs.declared.fault.MatchFault.{MatchFault}
use Rattle.rt_match.specs.Matching.{Fails}
use Rattle.rt_match.specs.Signatures.{system_of}
use Rattle.rt_graph.specs.Calls.{brick, numbered, IsSuppliedProc}
use Rattle.rt_graph.specs.Reach.{IsRightCycle}
use Rattle.rt_report.specs.declared.fault.ProcName.{ProcName}
use Rattle.rt_system.specs.declared.parts.Entry.{Entry}
use Rattle.rt_accept.specs.Systems.{HasEntry, HaveEntries}
use Rattle.rt_accept.specs.Verdicts.{module_in, untitled, proc_name}

-- ---- objects and lines

-- each line has the object of its place
pub record HaveTheirPlaces (files : Option Files) (entries : List Entry) (objects : List ObjectParts) : Type 0 where
  pub one_each : length objects ≡ length entries
  pub each : (i : ℕ) (e : Entry) → slice_get entries i ≡ Some e → (o : ObjectParts) × (slice_get objects i ≡ Some o) × HasEntry files e o

abbrev pub ObjectsHaveTheirPlaces : Type 0
ObjectsHaveTheirPlaces = (files : Option Files) (entries : List Entry) (objects : List ObjectParts) → HaveEntries files entries objects → HaveTheirPlaces files entries objects

-- ---- procedures

-- a procedure that is there, and how it is printed: behind the title of its module, and a supplied one alone
pub data IsPrintedAs (objects : List ObjectParts) : Proc → ProcName → Type 0 where
  own : {f : Proc} {o : ObjectParts} {b : Brick} → numbered objects f.«module» ≡ Some o → slice_get o.bricks f.brick ≡ Some b → IsPrintedAs objects f (record { title = Some o.title; name = b.name })
  supplied : {k : ℕ} {b : SuppliedBrick} → IsSuppliedProc k → brick_numbered k ≡ Some b → IsPrintedAs objects (brick 0 k) (untitled b.name)

-- the procedures of a right cycle are there, and are printed so
abbrev pub CyclesAreNamed : Type 0
CyclesAreNamed = (objects : List ObjectParts) (of : List (List Bound)) (roots cycle : List Proc) → IsRightCycle objects of roots cycle → (f : Proc) → Has cycle f → IsPrintedAs objects f (proc_name objects f)

-- ---- modules

-- a module in which objects don't match is that of a line, where there is a line for each object
abbrev pub FaultsHaveLines : Type 0
FaultsHaveLines = (objects : List ObjectParts) (entries : List Entry) (f : MatchFault) (m : ℕ) → length objects ≡ length entries → Fails (system_of objects) f → module_in f ≡ Some m → (e : Entry) × (numbered entries m ≡ Some e)
