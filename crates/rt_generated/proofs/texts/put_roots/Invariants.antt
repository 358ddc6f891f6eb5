use Rattle.std.proofs.Common.{◌≡◌, ◌-◌, ◌++◌}
use Rattle.rt_generated.specs.Texts.{each_from, root_line}
use Rattle.rt_generated.proofs.texts.put_roots.Given as goal

-- The lines so far and those that are left are all of them.
abbrev pub invariant-loop-k : goal.invariant-loop-k
invariant-loop-k l = l.out.items ++ each_from root_line l.k (l.k-end - l.k) ≡ l.initial.out.items ++ each_from root_line 1 (l.k-end - 1)
