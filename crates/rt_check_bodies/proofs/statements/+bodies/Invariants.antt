use Rattle.std.proofs.Common.{◌≡◌, [], drop, map}
use Rattle.rt_check_bodies.specs.Statements as spec
use Rattle.rt_check_bodies.proofs.statements.+bodies.Given as goal

abbrev pub invariant-in_order-loop-statement : goal.invariant-in_order-loop-statement
invariant-in_order-loop-statement l =
    (spec.in_order l.names l.next l.made (map (spec.line l.answer) (drop l.statement-index l.statements)) l.tally
    ≡ spec.in_order l.initial.names l.first [] (map (spec.line l.answer) l.statements) l.initial.tally)
    × (l.names ≡ l.initial.names)

abbrev pub invariant-branches-loop-branch : goal.invariant-branches-loop-branch
invariant-branches-loop-branch l =
    (spec.branches l.names l.made (map (spec.branch l.answer) (drop l.branch-index l.branches)) l.tally
    ≡ spec.branches l.initial.names [] (map (spec.branch l.answer) l.branches) l.initial.tally)
    × (l.names ≡ l.initial.names)
