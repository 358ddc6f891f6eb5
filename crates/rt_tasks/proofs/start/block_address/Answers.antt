use Rattle.std.proofs.Common.{◌≡◌, ℕ, subst, arith}
use Rattle.rt_tasks.proofs.Blocks.{IsOnTheWay, way_ends, way_is_inside}
use Rattle.rt_tasks.proofs.start.block_address.Goals as goal

pub returns-clause-value : goal.returns-clause-value
returns-clause-value c =
    let e : c.loop-i.i ≡ c.args.n = omega arith in
    way_ends c.args.tasks.now c.args.n c.args.from c.loop-i.at (subst (λ (k : ℕ). IsOnTheWay c.args.tasks.now c.args.n c.args.from k c.loop-i.at) e c.loop-i.invariant)

pub returns-clause-inside : goal.returns-clause-inside
returns-clause-inside c =
    let e : c.loop-i.i ≡ c.args.n = omega arith in
    way_is_inside c.args.tasks.now c.args.n c.args.from c.loop-i.at (subst (λ (k : ℕ). IsOnTheWay c.args.tasks.now c.args.n c.args.from k c.loop-i.at) e c.loop-i.invariant) c.requires.room
