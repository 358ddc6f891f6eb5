-- What is known of a system when its image is made.
use Rattle.std.specs.Prelude.{List}
use Rattle.rt_tree_nodes.specs.declared.store.Proc.{Proc}
use Rattle.rt_object.specs.declared.object.ObjectParts.{ObjectParts}
use Rattle.rt_templates.specs.declared.code.Support.{Support}
use Rattle.rt_templates.specs.Supported.{IsSupport}
use Rattle.rt_link.specs.declared.laid.Layout.{Layout}
use Rattle.rt_link.specs.Tables.{IsLayout}

-- the layout is that of these objects and stack bricks, and the support code is right
pub record AreReady (objects : List ObjectParts) (stacks : List Proc) (layout : Layout) (support : Support) : Type 0 where
  pub laid : IsLayout objects stacks layout
  pub right : IsSupport support
