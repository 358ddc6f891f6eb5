use Rattle.std.proofs.Common.{◌≡◌, ◌++◌, drop, map}
use Rattle.rt_accept.specs.Verdicts.{proc_name}
use Rattle.rt_accept.proofs.naming.proc_names.Given as goal

-- What is named and what is left are all of it.
abbrev pub invariant-loop-of : goal.invariant-loop-of
invariant-loop-of l = l.names ++ map (proc_name l.objects) (drop l.of-index l.procs) ≡ map (proc_name l.objects) l.procs
