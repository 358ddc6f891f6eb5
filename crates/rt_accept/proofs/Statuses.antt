-- The statuses of fault lines: 11 of a module's text that isn't compiled, 14 of a system that isn't linked.
use Rattle.std.proofs.Common.{◌≡◌, ℕ, List, Option, Some, None, sym, ap}
use Rattle.std.specs.Prelude.{option_map}
use Rattle.rt_compile.specs.declared.fault.CompileFault.{CompileFault}
use Rattle.rt_compile.specs.declared.fault.CompileFault.TheVariants as compile
use Rattle.rt_graph.specs.declared.fault.GraphFault.{GraphFault}
use Rattle.rt_graph.specs.declared.fault.GraphFault.TheVariants as graph
use Rattle.rt_link.specs.declared.fault.LinkFault.{LinkFault}
use Rattle.rt_link.specs.declared.fault.LinkFault.TheVariants as link
use Rattle.rt_match.specs.declared.fault.MatchFault.{MatchFault}
use Rattle.rt_match.specs.declared.fault.MatchFault.TheVariants as matching
use Rattle.rt_object.specs.declared.object.ObjectParts.{ObjectParts}
use Rattle.rt_report.specs.declared.fault.FaultLine.{FaultLine}
use Rattle.rt_report.specs.Faults.{status_of}
use Rattle.rt_system.specs.declared.parts.Entry.{Entry}
use Rattle.rt_accept.specs.declared.faulting.Told.{Told}
use Rattle.rt_accept.specs.declared.faulting.Told.TheVariants as told
use Rattle.rt_accept.specs.Faulting.{items_told, check_told, told_line, line_of}
use Rattle.rt_accept.specs.Verdicts.{file_at, module_in, match_line, graph_line}
use Rattle.rt_accept.specs.Verdicts.{line_of as line_of_verdict}

-- the status of a line; where there is none, one that is given
abbrev status_or : ℕ → Option FaultLine → ℕ
status_or n None = n
status_or n (Some f) = status_of f

told_status : (name : List ℕ) (o : Option Told) (f : FaultLine) → option_map (told_line name) o ≡ Some f → status_of f ≡ 11
told_status name None f e = absurd cc
told_status name (Some (told.Text t l)) f e = ap (status_or 11) (sym e)
told_status name (Some (told.LeftOut t l)) f e = ap (status_or 11) (sym e)

pub line_status : (name : List ℕ) (why : CompileFault) (f : FaultLine) → line_of name why ≡ Some f → status_of f ≡ 11
line_status name compile.Memory f e = absurd cc
line_status name (compile.Text t) f e = told_status name (items_told t) f e
line_status name (compile.Syntax l) f e = ap (status_or 11) (sym e)
line_status name (compile.Check t) f e = told_status name (check_told t) f e
line_status name (compile.ProcTooLong p) f e = ap (status_or 11) (sym e)
line_status name compile.Beyond f e = absurd cc

-- ---- systems

match_status : (file : List ℕ) (why : MatchFault) (f : FaultLine) → match_line file why ≡ Some f → status_of f ≡ 14
match_status file matching.Memory f e = absurd cc
match_status file (matching.Duplicate b) f e = ap (status_or 14) (sym e)
match_status file (matching.Missing m b) f e = ap (status_or 14) (sym e)
match_status file (matching.Mismatch m b w found) f e = ap (status_or 14) (sym e)
match_status file (matching.NotSupplied m b) f e = ap (status_or 14) (sym e)

graph_status : (objects : List ObjectParts) (why : GraphFault) (f : FaultLine) → graph_line objects why ≡ Some f → status_of f ≡ 14
graph_status objects graph.Memory f e = absurd cc
graph_status objects (graph.Recursion cycle) f e = ap (status_or 14) (sym e)
graph_status objects (graph.SmallStack task need has) f e = ap (status_or 14) (sym e)
graph_status objects (graph.BadTask line) f e = ap (status_or 14) (sym e)

pub verdict_status : (objects : List ObjectParts) (entries : List Entry) (why : LinkFault) (f : FaultLine) → line_of_verdict objects entries why ≡ Some f → status_of f ≡ 14
verdict_status objects entries link.Memory f e = absurd cc
verdict_status objects entries (link.Unmatched m) f e = match_status (file_at entries (module_in m)) m f e
verdict_status objects entries (link.Refused g) f e = graph_status objects g f e
verdict_status objects entries (link.NoRoom bytes) f e = ap (status_or 14) (sym e)
