use Rattle.std.proofs.Common.{rules, ◌≡◌, ℕ}
use Rattle.rt_modes.specs.declared.mode.Mode.{out-Mode}
use Rattle.rt_tree_nodes.specs.declared.brick.DataStart.{DataStart}
use Rattle.rt_check_module.specs.Defaults as spec
use Rattle.rt_check_module.proofs.Pendings.{plans_single}
use Rattle.rt_check_module.proofs.unwritten.plan.Goals as goal

pub returns-in_default : goal.returns-in_default
returns-in_default c =
    let same : (made : ℕ → DataStart) → spec.element_made made (out-Mode c.args.mode.now) ≡ spec.default_by made (out-Mode c.args.mode.now) = λ made. search rules in
    plans_single c.args.pending.now c.push.new.self c.args.levels c.args.mode.now c.element.result c.push.result same c.element.ensures c.push.ensures.ok
