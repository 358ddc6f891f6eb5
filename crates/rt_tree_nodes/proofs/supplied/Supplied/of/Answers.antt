use Rattle.std.proofs.Common.{refl, ◌∙◌}
use Rattle.rt_tree_nodes.specs.Scopes.{is_errors, is_streams}
use Rattle.rt_tree_nodes.proofs.Supplying.{first_face}
use Rattle.rt_tree_nodes.proofs.supplied.Supplied.of.Goals as goal

pub returns : goal.returns
returns c = rw (c.first_errors.ensures ∙ first_face is_errors c.args.bricks.now, c.first_streams.ensures ∙ first_face is_streams c.args.bricks.now) refl
