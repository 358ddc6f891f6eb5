use Rattle.std.proofs.Common.{◌≡◌, Ok, List, [], map, drop}
use Rattle.rt_tree_nodes.specs.declared.statement.Test.{Test}
use Rattle.rt_exprs.specs.Judging as spec
use Rattle.rt_check_faults.specs.Outcomes.{Outcome, Gives}
use Rattle.rt_exprs.proofs.condition.+condition.Given as goal

abbrev pub invariant-fit_all-loop-condition : goal.invariant-fit_all-loop-condition
invariant-fit_all-loop-condition l = (so_far : Outcome (List Test)) × Gives (λ x. x) l.tests so_far
    × (spec.all_from so_far (map (spec.tested l.scope) (drop l.condition-index l.conditions)) ≡ spec.all_from (Ok []) (map (spec.tested l.scope) l.conditions))
