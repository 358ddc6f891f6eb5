-- The typed tree of a text, and its fault.
use Rattle.std.specs.Prelude.{◌≡◌, ℕ, List, Ok, Err, slice_get}
use Rattle.rt_bricks.specs.declared.tree.Module.{Module}
use Rattle.rt_bricks.specs.Derives.{Derives}
use Rattle.rt_bricks.specs.Modules.{module_of}
use Rattle.rt_items.specs.Lets.{Items}
use Rattle.rt_tree_nodes.specs.declared.brick.ModuleParts.{ModuleParts}
use Rattle.rt_check_faults.specs.declared.fault.CheckFault.{CheckFault}
use Rattle.rt_check_faults.specs.declared.fault.CheckFault.TheVariants as check
use Rattle.rt_grammar.specs.declared.at.At.{At}
use Rattle.rt_pieces.specs.declared.item.Item.{Item}
use Rattle.rt_syntax.specs.Derives.{IsRefusedAt, line_or_one}
use Rattle.rt_check_module.specs.Typed.{IsTyped}
use Rattle.rt_check.specs.Whole.{Refuses}
use Rattle.rt_check.specs.declared.fault.ModuleFault.{ModuleFault}
use Rattle.rt_check.specs.declared.fault.ModuleFault.TheVariants.{Memory, Text, Syntax, Check}

-- the items of the text, and the module that they derive
pub record IsSource (text : List ℕ) (source : Module) : Type 0 where
  pub items : List Item
  pub read : Items text (Ok items)
  pub derived : Derives items source

-- the typed tree of the text's module
pub record IsTree (text : List ℕ) (tree : ModuleParts) : Type 0 where
  pub source : Module
  pub is_source : IsSource text source
  pub typed : IsTyped source tree

-- the text has items that are no module, and the line is that of the first one that is unfit; where none is, of the last one
pub record IsNoModule (text : List ℕ) (line : ℕ) : Type 0 where
  pub items : List Item
  pub read : Items text (Ok items)
  pub none : (source : Module) → Derives items source → ⊥
  pub refused : IsRefusedAt module_of items 0 line

-- ---- faults

-- the same item, at its line
abbrev pub in_line : List Item → At → At
in_line items at = record { item = at.item; line = line_or_one (slice_get items at.item) }

-- the same fault, at the line of its item
abbrev pub in_lines : List Item → CheckFault → CheckFault
in_lines items check.Memory = check.Memory
in_lines items (check.UnknownName at) = check.UnknownName (in_line items at)
in_lines items (check.WrongMode at) = check.WrongMode (in_line items at)
in_lines items (check.NotAssignable at) = check.NotAssignable (in_line items at)
in_lines items (check.WrongCount at) = check.WrongCount (in_line items at)
in_lines items (check.RefOfLocal at) = check.RefOfLocal (in_line items at)
in_lines items (check.LeftOut form at) = check.LeftOut form (in_line items at)
in_lines items (check.DeclaredTwice at) = check.DeclaredTwice (in_line items at)
in_lines items (check.BadStart at) = check.BadStart (in_line items at)
in_lines items (check.UnknownLabel at) = check.UnknownLabel (in_line items at)
in_lines items (check.NoResult at) = check.NoResult (in_line items at)
in_lines items check.Unknown = check.Unknown

-- in a module of these items the fault stands that counts, and is told at the line of its item
pub record IsTold (items : List Item) (source : Module) (told : CheckFault) : Type 0 where
  pub fault : CheckFault
  pub refused : Refuses source.declarations fault
  pub is_told : told ≡ in_lines items fault

-- the text has a module, in which the fault stands that counts
pub record IsUnfit (text : List ℕ) (told : CheckFault) : Type 0 where
  pub source : Module
  pub is_source : IsSource text source
  pub refused : IsTold is_source.items source told

abbrev pub IsFaultOf : List ℕ → ModuleFault → Type 0
IsFaultOf text Memory = Unit {0}
IsFaultOf text (Text f) = Items text (Err f)
IsFaultOf text (Syntax line) = IsNoModule text line
IsFaultOf text (Check f) = IsUnfit text f
