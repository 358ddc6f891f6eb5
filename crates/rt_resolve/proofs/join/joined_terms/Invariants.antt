use Rattle.std.proofs.Common.{◌≡◌, map, length}
use Rattle.rt_tree_nodes.specs.Tree.{NoTerm, MoreTerms}
use Rattle.rt_work_state.specs.Nodes as n
use Rattle.rt_resolve.specs.Trees.{build}
use Rattle.rt_resolve.proofs.join.joined_terms.Given as goal

abbrev pub invariant-loop-term : goal.invariant-loop-term
invariant-loop-term l = build MoreTerms (map n.term l.left) (n.terms l.joined) ≡ build MoreTerms (map n.term l.fn.terms) NoTerm

abbrev pub decreases-loop-term : goal.decreases-loop-term
decreases-loop-term l = length l.left
