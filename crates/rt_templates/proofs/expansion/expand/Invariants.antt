use Rattle.std.proofs.Common.{◌≡◌, ◌<◌, ◌≤◌, ◌++◌, ℕ, map, drop, Some}
use Rattle.std.specs.Prelude.{slice_get}
use Rattle.rt_icode.specs.declared.procedure.IProc.{IProc}
use Rattle.rt_templates.specs.Expanded.{most, proc_of, size_of}
use Rattle.rt_templates.proofs.expansion.expand.Given as goal

-- The code so far and that of the procedures that are left are all; and none so far is too long.
abbrev pub invariant-loop-p : goal.invariant-loop-p
invariant-loop-p l =
    (l.procs ++ map proc_of (drop l.p-index l.m.procs) ≡ map proc_of l.m.procs)
    × ((k : ℕ) (p : IProc) → k < l.p-index → slice_get l.m.procs k ≡ Some p → size_of p.code ≤ most)
