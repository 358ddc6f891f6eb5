use Rattle.std.proofs.Common.{◌≡◌, map, drop}
use Rattle.rt_tree_nodes.specs.Code as seen
use Rattle.rt_frames.specs.Walks as spec
use Rattle.rt_frames.proofs.statements.Walk.+bodies.Given as goal

abbrev pub invariant-branches-loop-branch : goal.invariant-branches-loop-branch
invariant-branches-loop-branch l =
    spec.in_turn (map (spec.branch_part (seen.scope l.scope)) (drop l.branch-index l.branches)) l.self ≡ spec.in_turn (map (spec.branch_part (seen.scope l.scope)) l.branches) l.fn.self

abbrev pub invariant-sequence-loop-line : goal.invariant-sequence-loop-line
invariant-sequence-loop-line l =
    spec.in_turn (map (spec.labelled_part (seen.scope l.scope)) (drop l.line-index l.lines)) l.self ≡ spec.in_turn (map (spec.labelled_part (seen.scope l.scope)) l.lines) l.fn.self
