use Rattle.std.proofs.Common.{◌≡◌, drop, map}
use Rattle.rt_check_bodies.specs.Statements.{labels_of, own_labels}
use Rattle.rt_check_bodies.proofs.sequences.add_all_labels.Given as goal

abbrev pub invariant-loop-statement : goal.invariant-loop-statement
invariant-loop-statement l =
    labels_of l.level (map own_labels (drop l.statement-index l.statements)) l.tally ≡ labels_of l.initial.level (map own_labels l.statements) l.initial.tally
