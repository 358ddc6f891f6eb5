-- What a module is.
use Rattle.std.specs.Prelude.{List, []}
use Rattle.rt_pieces.specs.declared.item.Item.{Item}
use Rattle.rt_syntax.specs.Derives.{language_limits, in_list}
use Rattle.rt_bricks.specs.declared.tree.Module.{Module}
use Rattle.rt_bricks.specs.Modules.{module_of}

-- The whole list of items is this module, within the limits of the language.
unfoldable pub Derives : List Item → Module → Type 0
Derives items it = (module_of (in_list items language_limits)).Fits items [] it
