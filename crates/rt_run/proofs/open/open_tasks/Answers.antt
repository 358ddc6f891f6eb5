use Rattle.std.proofs.Common.{◌≡◌, ℕ, ◌+◌, ◌-◌, length, ap, subst, arith}
use Rattle.rt_image.specs.declared.image.ImageParts.{ImageParts}
use Rattle.rt_tasks.specs.Start.{IsStart}
use Rattle.rt_run.specs.Picture.{HaveStarted}
use Rattle.rt_run.proofs.Starting.{one_more}
use Rattle.rt_run.proofs.open.open_tasks.Goals as goal

pub loop-n-preserved : goal.loop-n-preserved
loop-n-preserved c =
    let same : (c.loop-n.n + 1) - 1 ≡ c.loop-n.n = omega arith in
    let start : IsStart c.args.image.now c.loop-n.n c.in_ok-task.task = subst (λ (j : ℕ). IsStart c.args.image.now j c.in_ok-task.task) same c.in_ok-task.ensures.start in
    rw c.in_ok-push.ensures.ok (one_more c.args.image.now c.loop-n.n c.loop-n.tasks.items c.in_ok-task.task c.loop-n.invariant start c.in_ok-task.ensures.order)

pub returns : goal.returns
returns c =
    let parts = ap (λ (i : ImageParts). length i.tasks) c.parts.ensures.parts in
    let all : c.loop-n.n ≡ length c.args.image.now.tasks = omega (arith, parts) in
    rw c.into_vec.ensures (subst (λ (n : ℕ). HaveStarted c.args.image.now n c.loop-n.tasks.items) all c.loop-n.invariant)
