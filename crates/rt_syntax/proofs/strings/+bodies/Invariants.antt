use Rattle.std.proofs.Common.{◌≡◌, drop, map}
use Rattle.rt_syntax.specs.Strings as spec
use Rattle.rt_syntax.specs.Strings.{text_of}
use Rattle.rt_syntax.proofs.strings.+bodies.Given as goal

abbrev pub invariant-in_statements-loop-statement : goal.invariant-in_statements-loop-statement
invariant-in_statements-loop-statement l = spec.all (map spec.in_line (drop l.statement-index l.statements)) (map text_of l.found) ≡ spec.all (map spec.in_line l.statements) (map text_of l.initial.found)

abbrev pub invariant-in_branches-loop-branch : goal.invariant-in_branches-loop-branch
invariant-in_branches-loop-branch l = spec.all (map spec.in_branch (drop l.branch-index l.branches)) (map text_of l.found) ≡ spec.all (map spec.in_branch l.branches) (map text_of l.initial.found)
