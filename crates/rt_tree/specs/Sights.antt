-- What a statement sees in the code, in the terms of the definitions.
use Rattle.std.specs.Prelude.{List, [], ◌∷◌}
use Rattle.rt_tree_nodes.specs.Code.{mode_found}
use Rattle.rt_tree.specs.declared.sight.Labels.{Labels}
use Rattle.rt_tree.specs.declared.sight.Seen.{Seen, Sequence'}
use Rattle.rt_tree.specs.declared.sight.Seen.TheVariants as seen
use Rattle.rt_tree.specs.declared.sight.Sight as code_sight
use Rattle.rt_tree.specs.Statements.{Sight}

-- the labels that are seen
abbrev pub labels : Seen → List Labels
labels seen.Nothing = []
labels (Sequence' r p outer) = r ∷ labels outer

abbrev pub sight : code_sight.Sight → Sight
sight s = record { seen = labels s.seen.now; outermost = s.outermost; result = mode_found s.answer }
