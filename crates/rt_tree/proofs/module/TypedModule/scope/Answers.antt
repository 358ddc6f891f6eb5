use Rattle.std.proofs.Common.{ap, ◌∙◌}
use Rattle.rt_tree_nodes.specs.Scopes.{scope_of}
use Rattle.rt_tree.proofs.module.TypedModule.scope.Goals as goal

pub returns : goal.returns
returns c = c.with_supplied.ensures c.self.invariant.1 ∙ ap scope_of c.self.view_is
