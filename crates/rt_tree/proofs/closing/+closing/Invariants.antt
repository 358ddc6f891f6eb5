use Rattle.std.proofs.Common.{◌≡◌, map, drop}
use Rattle.rt_tree.specs.Statements as statements
use Rattle.rt_tree.proofs.closing.+closing.Given as goal

abbrev pub invariant-sequence_closes-loop-line : goal.invariant-sequence_closes-loop-line
invariant-sequence_closes-loop-line l =
    statements.closed_after l.closed (map statements.labelled_closed (drop l.line-index l.lines)) ≡ statements.closed_sequence (map statements.labelled_closed l.lines)

abbrev pub invariant-branches_close-loop-branch : goal.invariant-branches_close-loop-branch
invariant-branches_close-loop-branch l =
    statements.all_closed (map statements.branch_closed (drop l.branch-index l.branches)) ≡ statements.all_closed (map statements.branch_closed l.branches)
