use Rattle.std.proofs.Common.{refl}
use Rattle.rt_top.specs.Going.{asked_go}
use Rattle.rt_top.proofs.Declining.{by_lines, by_link, accepted}
use Rattle.rt_top.proofs.accepting.accept_lines.Goals as goal

pub returns-in-Ok-linked-clause-ok : goal.returns-in-Ok-linked-clause-ok
returns-in-Ok-linked-clause-ok g c =
    accepted c.systems_have_tasks_and_trees.ensures.tasks c.systems_have_tasks_and_trees.ensures.trees (g.S.Store.files c.args.store.now) (asked_go c.args.words.now) c.args.system c.args.ticks c.in-Ok.objects c.in-Ok-linked.image
    c.requires.system c.in-Ok.ensures.system c.requires.ticks c.in-Ok.ensures.ok c.in-Ok.ensures.ranges c.in-Ok-linked.ensures.ok _ refl refl

pub returns-in-Err-linked-clause-err : goal.returns-in-Err-linked-clause-err
returns-in-Err-linked-clause-err g c =
    by_link (g.S.Store.files c.args.store.now) (g.S.Store.read_faults c.args.store.now) (g.S.Store.read_faults c.accept_objects.new.store) (asked_go c.args.words.now) c.args.system c.args.ticks c.in-Ok.objects
    c.requires.system c.requires.ticks c.in-Ok.ensures.ok c.in-Err-linked.why c.in-Err-linked.ensures.err

pub returns-in-Err-clause-err : goal.returns-in-Err-clause-err
returns-in-Err-clause-err g c =
    by_lines (g.S.Store.files c.args.store.now) (g.S.Store.read_faults c.args.store.now) (g.S.Store.read_faults c.accept_objects.new.store) (asked_go c.args.words.now) c.args.system c.args.ticks
    c.requires.system c.requires.ticks c.in-Err.why c.in-Err.ensures.err
