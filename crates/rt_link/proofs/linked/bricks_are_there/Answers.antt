use Rattle.std.proofs.Common.{arith}
use Rattle.rt_link.proofs.Bricks.{the_roots, the_stacks, are_bricks}
use Rattle.rt_link.proofs.linked.bricks_are_there.Goals as goal

pub returns-clause-few : goal.returns-clause-few
returns-clause-few c =
    let long = (the_stacks c.args._objects.now c.args.system.now.tasks c.args._judged.now c.requires c.each_has_a_stack.ensures).one_each in
    let few = c.tasks-tasks.ensures.ranges.limits.few_tasks in
    omega arith

pub returns-clause-stacks : goal.returns-clause-stacks
returns-clause-stacks c = (the_stacks c.args._objects.now c.args.system.now.tasks c.args._judged.now c.requires c.each_has_a_stack.ensures).one_each

pub returns-clause-roots : goal.returns-clause-roots
returns-clause-roots c = (the_roots c.args._objects.now c.args.system.now.tasks c.args._judged.now c.requires).one_each

pub returns-clause-bricks : goal.returns-clause-bricks
returns-clause-bricks c = are_bricks c.args._objects.now c.args.system.now.tasks c.args._judged.now c.requires c.each_has_a_stack.ensures c.entries_are_stacks.ensures
