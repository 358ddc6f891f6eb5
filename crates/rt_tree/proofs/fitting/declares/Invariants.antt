use Rattle.std.proofs.Common.{◌≡◌, drop}
use Rattle.rt_tree_nodes.specs.Code as seen
use Rattle.rt_tree.specs.Statements as statements
use Rattle.rt_tree.proofs.fitting.declares.Given as goal

abbrev pub invariant-loop-local : goal.invariant-loop-local
invariant-loop-local l = statements.declares (seen.scope l.scope) (drop l.local-index l.locals) l.behind ≡ statements.declares (seen.scope l.scope) l.locals l.fn.next
