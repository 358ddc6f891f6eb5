-- One level of a start.
use Rattle.std.proofs.Common.{◌≡◌, refl}
use Rattle.rt_tree_nodes.specs.declared.brick.DataStart.{DataStart, out-DataStart, roll-DataStart, map-DataStart}
use Rattle.rt_tree_nodes.specs.declared.brick.DataStart as data_start
use Rattle.rt_tree_nodes.specs.declared.brick.DataStart.TheFolds.{fold_out-DataStart}
use Rattle.rt_tree_nodes.specs.declared.brick.DataStart.TheOpen.{DataStart-F}
use Rattle.rt_tree_nodes.specs.Scopes.{Scope}
use Rattle.rt_tree.specs.Modules.{Starts}
use Rattle.rt_tree.specs.Modules as modules
use Rattle.rt_lower.specs.declared.layouts.Layouts.{Layouts}
use Rattle.rt_compile.specs.Data.{Writing, one_start, starts}

pub out_roll : (x : DataStart-F DataStart) → out-DataStart (roll-DataStart x) ≡ x
out_roll x = search data_start.the_lemmas

pub fits_at : (c : Scope) (s : DataStart) (x : DataStart-F DataStart) → out-DataStart s ≡ x → modules.starts c s ≡ modules.one_start c (map-DataStart DataStart Starts (modules.starts c) x)
fits_at c s x o = rw (fold_out-DataStart, o) refl

pub written_at : (l : Layouts) (c : Scope) (s : DataStart) (x : DataStart-F DataStart) → out-DataStart s ≡ x → starts l c s ≡ one_start l c (map-DataStart DataStart Writing (starts l c) x)
written_at l c s x o = rw (fold_out-DataStart, o) refl
