use Rattle.std.proofs.Common.{◌≡◌, map, take}
use Rattle.rt_tree_nodes.specs.Code as seen
use Rattle.rt_work_state.specs.Nodes as n
use Rattle.rt_resolve.specs.Trees.{start_statement}
use Rattle.rt_resolve.proofs.statements.starts.Given as goal

abbrev pub invariant-loop-local : goal.invariant-loop-local
invariant-loop-local l = map n.stmt l.made ≡ map (start_statement (seen.scope l.scope)) (take l.local-index l.locals)
