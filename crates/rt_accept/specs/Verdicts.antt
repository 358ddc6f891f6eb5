-- The fault lines of systems that aren't linked.
use Rattle.std.specs.Prelude.{◌≡◌, ℕ, zero, suc, List, [], map, Option, Some, None, slice_get}
use Rattle.rt_tree_nodes.specs.declared.store.Proc.{Proc}
use Rattle.rt_modes.specs.Bricks.{brick_numbered, name_in}
use Rattle.rt_object.specs.declared.object.Brick.{Brick}
use Rattle.rt_object.specs.declared.object.ObjectParts.{ObjectParts}
use Rattle.rt_outside.specs.Files.{Files}
use Rattle.rt_match.specs.declared.fault.MatchFault.{MatchFault}
use Rattle.rt_match.specs.declared.fault.MatchFault.TheVariants as matching
use Rattle.rt_graph.specs.declared.fault.GraphFault.{GraphFault}
use Rattle.rt_graph.specs.declared.fault.GraphFault.TheVariants as graph
use Rattle.rt_graph.specs.Calls.{numbered}
use Rattle.rt_report.specs.declared.fault.FaultLine.{FaultLine}
use Rattle.rt_report.specs.declared.fault.FaultLine.TheVariants as fault
use Rattle.rt_report.specs.declared.fault.ProcName.{ProcName}
use Rattle.rt_system.specs.declared.parts.Entry.{Entry}
use Rattle.rt_system.specs.declared.parts.Entry.TheVariants as entry
use Rattle.rt_system.specs.declared.parts.SystemParts.{SystemParts}
use Rattle.rt_link.specs.declared.fault.LinkFault.{LinkFault}
use Rattle.rt_link.specs.declared.fault.LinkFault.TheVariants as link
use Rattle.rt_link.specs.Verdict.{IsFault}
use Rattle.rt_accept.specs.Systems.{library_name, HasModules, RefusesModules}

-- ---- files of modules

-- the file of a line, as it is printed
abbrev pub file_of : Entry → List ℕ
file_of (entry.Module file) = file
file_of (entry.Object file) = file
file_of entry.Library = library_name

abbrev pub file_in : Option Entry → List ℕ
file_in None = []
file_in (Some e) = file_of e

-- the file of a module; modules count from 1 in the order of the lines, and where there is no such line the name is empty
abbrev pub file_at : List Entry → Option ℕ → List ℕ
file_at entries None = []
file_at entries (Some m) = file_in (numbered entries m)

-- the module in which the objects don't match; two ENT bricks of one name are told without it
abbrev pub module_in : MatchFault → Option ℕ
module_in matching.Memory = None
module_in (matching.Duplicate brick) = None
module_in (matching.Missing m brick) = Some m
module_in (matching.Mismatch m brick wanted found) = Some m
module_in (matching.NotSupplied m brick) = Some m

-- ---- names of procedures

abbrev pub untitled : List ℕ → ProcName
untitled name = record { title = None; name = name }

-- a brick behind the title of its module; one that isn't there counts as an empty name
abbrev pub titled : List ℕ → Option Brick → ProcName
titled title None = untitled []
titled title (Some b) = record { title = Some title; name = b.name }

abbrev pub name_within : Option ObjectParts → ℕ → ProcName
name_within None b = untitled []
name_within (Some o) b = titled o.title (slice_get o.bricks b)

-- brick b of a module; module 0 has what is supplied, by its numbers
abbrev pub name_at : List ObjectParts → ℕ → ℕ → ProcName
name_at objects zero b = untitled (name_in (brick_numbered b))
name_at objects (suc m) b = name_within (slice_get objects m) b

-- a procedure, as it is printed
abbrev pub proc_name : List ObjectParts → Proc → ProcName
proc_name objects f = name_at objects f.«module» f.brick

-- ---- fault lines

-- the line of objects that don't match, in the module of this file
abbrev pub match_line : List ℕ → MatchFault → Option FaultLine
match_line file matching.Memory = None
match_line file (matching.Duplicate brick) = Some (fault.Duplicate brick)
match_line file (matching.Missing m brick) = Some (fault.Missing file brick)
match_line file (matching.Mismatch m brick wanted found) = Some (fault.Mismatch file brick wanted found)
match_line file (matching.NotSupplied m brick) = Some (fault.NotSupplied file brick)

abbrev pub graph_line : List ObjectParts → GraphFault → Option FaultLine
graph_line objects graph.Memory = None
graph_line objects (graph.Recursion cycle) = Some (fault.Recursion (map (proc_name objects) cycle))
graph_line objects (graph.SmallStack task need has) = Some (fault.SmallStack task need has)
graph_line objects (graph.BadTask line) = Some (fault.BadTask line)

-- the fault line of a system of these objects and lines; want of memory has none, in whatever layer
abbrev pub line_of : List ObjectParts → List Entry → LinkFault → Option FaultLine
line_of objects entries link.Memory = None
line_of objects entries (link.Unmatched f) = match_line (file_at entries (module_in f)) f
line_of objects entries (link.Refused f) = graph_line objects f
line_of objects entries (link.NoRoom bytes) = Some (fault.NoRoom bytes)

-- ---- whole systems

-- a system that was read is refused by its verdict
pub record RefusesVerdict (s : SystemParts) (objects : List ObjectParts) (f : FaultLine) : Type 0 where
  pub why : LinkFault
  pub verdict : IsFault objects s.tasks why
  pub line : line_of objects s.entries why ≡ Some f

-- a system is refused: its text, one of its lines, or by the verdict
pub data RefusesSystems (files : Option Files) (name : List ℕ) : FaultLine → Type 0 where
  in_modules : {f : FaultLine} → RefusesModules files name f → RefusesSystems files name f
  in_verdict : {s : SystemParts} {objects : List ObjectParts} {f : FaultLine} → HasModules files name s objects → RefusesVerdict s objects f → RefusesSystems files name f
