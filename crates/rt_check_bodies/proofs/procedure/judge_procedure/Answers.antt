use Rattle.std.proofs.Common.{◌≡◌, [], IfOk, IfErr, subst}
use Rattle.rt_tree_nodes.specs.declared.statement.Body.{Body as BodyMade}
use Rattle.rt_check_faults.specs.Outcomes.{IsLeast, IsAnswered, UnlessMemory}
use Rattle.rt_check_declared.specs.Verdicts.{IsIn}
use Rattle.rt_check_bodies.specs.declared.tally.Tally.{Tally}
use Rattle.rt_check_bodies.specs.Procedures as spec
use Rattle.rt_check_bodies.proofs.Wholes.{whole_is}
use Rattle.rt_check_bodies.proofs.procedure.judge_procedure.Goals as goal

pub returns-clause-tree : goal.returns-clause-tree
returns-clause-tree c =
    subst (λ (p : BodyMade × Tally). IfOk c.finished.result (λ made. made ≡ spec.proc_by c.args.brick.now p))
    (whole_is c.args.names.now c.args.brick.now c.in_ok-body.body c.body_in.new.tally c.in_ok-tally.tally c.in_ok-body.ensures.made c.in_ok-tally.ensures)
    c.finished.ensures.tree

pub returns-clause-fit : goal.returns-clause-fit
returns-clause-fit c =
    subst (λ (p : BodyMade × Tally). IfOk c.finished.result (λ _. p.1.faults ≡ []))
    (whole_is c.args.names.now c.args.brick.now c.in_ok-body.body c.body_in.new.tally c.in_ok-tally.tally c.in_ok-body.ensures.made c.in_ok-tally.ensures)
    c.finished.ensures.fit

pub returns-clause-only : goal.returns-clause-only
returns-clause-only c =
    subst (λ (p : BodyMade × Tally). p.1.faults ≡ [] → IsAnswered (spec.proc_by c.args.brick.now p) c.finished.result)
    (whole_is c.args.names.now c.args.brick.now c.in_ok-body.body c.body_in.new.tally c.in_ok-tally.tally c.in_ok-body.ensures.made c.in_ok-tally.ensures)
    c.finished.ensures.only

pub returns-clause-fault : goal.returns-clause-fault
returns-clause-fault c =
    subst (λ (p : BodyMade × Tally). IfErr c.finished.result (λ g. UnlessMemory g (IsLeast (λ h. IsIn h p.1.faults) g)))
    (whole_is c.args.names.now c.args.brick.now c.in_ok-body.body c.body_in.new.tally c.in_ok-tally.tally c.in_ok-body.ensures.made c.in_ok-tally.ensures)
    c.finished.ensures.fault
