use Rattle.std.proofs.Common.{◌≡◌, [], List, map, drop}
use Rattle.rt_modes.specs.declared.mode.Mode.{Mode}
use Rattle.rt_exprs.specs.Names.{find_in}
use Rattle.rt_check_declared.specs.Verdicts.{Verdict, fit, Answers, all_from}
use Rattle.rt_check_declared.specs.Written as spec
use Rattle.rt_check_declared.proofs.written.+judge.Given as goal

abbrev pub invariant-judge_all-loop-parameter : goal.invariant-judge_all-loop-parameter
invariant-judge_all-loop-parameter l = (so_far : Verdict (List Mode)) × Answers (λ x. x) l.modes so_far
    × (all_from so_far (map spec.argument (map (spec.judged (find_in l.levels)) (drop l.parameter-index l.written))) ≡ all_from (fit []) (map spec.argument (map (spec.judged (find_in l.levels)) l.written)))
