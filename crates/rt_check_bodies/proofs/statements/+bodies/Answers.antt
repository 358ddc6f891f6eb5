use Rattle.rt_check_bodies.proofs.Wholes.{sequence_is}
use Rattle.rt_check_bodies.proofs.statements.+bodies.Goals as goal

pub sequence-returns-clause-made : goal.sequence-returns-clause-made
sequence-returns-clause-made t c =
    sequence_is c.args.answer.now c.args.names.now c.enter.new.self c.args.statements.now c.in_ok-made.made c.new-level.result c.add_all_labels.new.level
    c.args.tally.now c.add_all_labels.new.tally c.in_order.new.tally
    c.new-level.ensures c.in_ok-add_all_labels.ensures c.in_ok-enter.ensures c.in_ok-made.ensures.made
