use Rattle.std.proofs.Common.{◌≡◌, List, map, drop}
use Rattle.rt_tree_nodes.specs.declared.value.Value.{Value}
use Rattle.rt_check_faults.specs.declared.fault.CheckFault.{CheckFault}
use Rattle.rt_exprs.specs.Judging as spec
use Rattle.rt_exprs.specs.Operands.{Judged, judged_of}
use Rattle.rt_check_faults.specs.Outcomes.{Outcome, Gives, UnlessMemory}
use Rattle.rt_exprs.proofs.expression.+judge.Given as goal

abbrev pub invariant-judge_chain-loop-link : goal.invariant-judge_chain-loop-link
invariant-judge_chain-loop-link l = (first : Outcome Judged) → Gives judged_of l.initial.operand first → (t : Outcome Judged) × Gives judged_of l.operand t
    × (spec.walk (map (spec.linked l.scope) (drop l.link-index l.link-items)) t ≡ spec.walk (map (spec.linked l.scope) l.link-items) first)

abbrev pub invariant-all_alone-loop-expr : goal.invariant-all_alone-loop-expr
invariant-all_alone-loop-expr l = (g : CheckFault) × UnlessMemory l.first (l.first ≡ g)
    × (spec.all_alone g (map (spec.judged l.scope) (drop l.expr-index l.exprs)) ≡ spec.all_alone l.initial.first (map (spec.judged l.scope) l.exprs))

abbrev pub invariant-fit_arguments-loop-i : goal.invariant-fit_arguments-loop-i
invariant-fit_arguments-loop-i l = (so_far : Outcome (List Value)) × Gives (λ x. x) l.values so_far
    × (spec.arguments_from so_far (map (spec.judged l.scope) (drop l.i l.arguments)) (drop l.i l.parameters) ≡ spec.arguments (map (spec.judged l.scope) l.arguments) l.parameters)
