use Rattle.std.proofs.Common.{◌≡◌, List, refl, ap, ◌∙◌}
use Rattle.std.specs.Option.{option_copied}
use Rattle.rt_tree_nodes.specs.declared.brick.Brick.{Brick}
use Rattle.rt_tree_nodes.specs.Scopes.{faces, fields_at, errors_of, streams_of, supplied_of}
use Rattle.rt_tree_nodes.proofs.Supplying.{errors_found, streams_found}
use Rattle.rt_tree_nodes.proofs.scope.Scope.with_supplied.Goals as goal

errors : (c : goal.After-result-1) → c.args.supplied.now ≡ supplied_of c.args.parts.now.bricks → option_copied c.fields_at.result ≡ errors_of (faces c.args.parts.now.bricks)
errors c e =
    c.fields_at.ensures ∙ ap (λ (bs : List Brick). fields_at (faces bs) c.args.supplied.now.errors) c.as_slice-bricks.ensures
    ∙ errors_found c.args.parts.now.bricks c.args.supplied.now e

streams : (c : goal.After-result-1) → c.args.supplied.now ≡ supplied_of c.args.parts.now.bricks → option_copied c.fields_at-2.result ≡ streams_of (faces c.args.parts.now.bricks)
streams c e =
    c.fields_at-2.ensures ∙ ap (λ (bs : List Brick). fields_at (faces bs) c.args.supplied.now.streams) c.as_slice-bricks.ensures
    ∙ streams_found c.args.parts.now.bricks c.args.supplied.now e

pub returns : goal.returns
returns c = λ e. rw (errors c e, streams c e, c.as_slice.ensures, c.as_slice-bricks.ensures, c.len.ensures) refl
