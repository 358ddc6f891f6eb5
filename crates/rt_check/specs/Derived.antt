-- The modules of texts.
use Rattle.std.specs.Prelude.{List}
use Rattle.rt_pieces.specs.declared.item.Item.{Item}
use Rattle.rt_bricks.specs.declared.tree.Module.{Module}
use Rattle.rt_check_module_laws.specs.Modules.{IsText}

-- Some items derive the module: fewer than 65,536, each in the range that the items of a text have.
pub record IsDerived (m : Module) : Type 0 where
  pub items : List Item
  pub is_text : IsText items m
