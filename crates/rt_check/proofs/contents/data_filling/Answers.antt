use Rattle.std.proofs.Common.{ap, ◌∙◌, sym, subst}
use Rattle.std.specs.Prelude.{List, Some, None}
use Rattle.rt_tree_nodes.specs.declared.brick.DataStart.{DataStart}
use Rattle.rt_check_faults.specs.Outcomes.{IsLeast, UnlessMemory}
use Rattle.rt_exprs.specs.Sights.{Sight}
use Rattle.rt_check_module.specs.Bricks.{BrickFault}
use Rattle.rt_check_module.specs.Items.{brick_starts}
use Rattle.rt_check.proofs.contents.data_filling.Goals as goal

pub returns-in-Ok-clause-held : goal.returns-in-Ok-clause-held
returns-in-Ok-clause-held c = λ t sizes is_fit.
    ap (λ (ss : List DataStart). Some (record { body = None; starts = ss })) ((c.in-Ok.ensures.starts t sizes is_fit).are ∙ ap (λ (s : Sight). brick_starts s c.args.lines.now c.args.parts.now) c.scope.ensures)

pub returns-in-Ok-clause-fit : goal.returns-in-Ok-clause-fit
returns-in-Ok-clause-fit c = λ t sizes g stands.
    c.in-Ok.ensures.fit t sizes g (subst (λ (s : Sight). BrickFault t s c.args.lines.now c.args.parts.now g) (sym c.scope.ensures) stands)

pub returns-in-Err-clause-fault : goal.returns-in-Err-clause-fault
returns-in-Err-clause-fault c = λ t sizes.
    subst (λ (s : Sight). UnlessMemory c.in-Err.fault (IsLeast (BrickFault t s c.args.lines.now c.args.parts.now) c.in-Err.fault)) c.scope.ensures (c.in-Err.ensures.fault t sizes)
