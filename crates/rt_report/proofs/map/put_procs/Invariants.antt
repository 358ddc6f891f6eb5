use Rattle.std.proofs.Common.{◌≡◌, ◌++◌, drop}
use Rattle.rt_report.specs.Maps.{proc_lines}
use Rattle.rt_report.proofs.map.put_procs.Given as goal

-- What is written and what is left are all of it.
abbrev pub invariant-loop-proc : goal.invariant-loop-proc
invariant-loop-proc l = l.out.items ++ proc_lines (drop l.proc-index l.procs) ≡ l.initial.out.items ++ proc_lines l.procs
