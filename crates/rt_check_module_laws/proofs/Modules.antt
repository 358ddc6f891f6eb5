-- In a module in which no fault stands the records can be told apart, and items of data are fields.
use Rattle.std.proofs.Common.{◌≡◌, ◌&&◌, List, [], refl}
use Rattle.std.specs.List.{list_all}
use Rattle.rt_bricks.specs.declared.tree.Declaration.{Declaration}
use Rattle.rt_modes.specs.declared.mode.RecordDef.{RecordDef}
use Rattle.rt_tree_nodes.specs.declared.brick.Brick.{Brick}
use Rattle.rt_tree_nodes.specs.Scopes.{Scope, scope_of}
use Rattle.rt_tree.specs.Modules.{record_stands, brick_fits, is_short}
use Rattle.rt_check_declared.specs.Names.{name_faults}
use Rattle.rt_check_module.specs.Tree.{modes_seen, records, fillings, tree}
use Rattle.rt_check_module.specs.Faults.{in_names}
use Rattle.rt_check_module_laws.specs.Modules.{IsFaultless}
use Rattle.rt_check_module_laws.proofs.Records.{nothing_in}
use Rattle.rt_bricks_laws.proofs.AllLists.{left_of, right_of}
use Rattle.rt_check_module_laws.proofs.Records.{all_stand, text_shallow}
use Rattle.rt_check_module_laws.proofs.Whole.{module_fits}
use Rattle.rt_check_module_laws.specs.Tables.{RecordsAreTables, DataItemsAreFields}
use Rattle.rt_bricks_laws.proofs.SpelledDeclarations.{declarations_are_spelled}
use Rattle.rt_check_module_laws.proofs.Items.{items_are_fields}
use Rattle.rt_check_module_laws.proofs.Tables.{are_table}

no_name_faults : (ds : List Declaration) → IsFaultless ds → name_faults ds ≡ []
no_name_faults ds fine = nothing_in (name_faults ds) (λ g k. fine g (in_names k))

pub records_are_tables : RecordsAreTables
records_are_tables items m text spelled fine =
    let ds : List Declaration = m.declarations in
    are_table (modes_seen ds) ds (records ds).records refl (declarations_are_spelled items m spelled text.derived) (no_name_faults ds fine) (all_stand ds (text_shallow items m text) fine)

pub data_items_are_fields : DataItemsAreFields
data_items_are_fields items m text spelled fine k d fs ss at is plain =
    let ds : List Declaration = m.declarations in
    let rs : List RecordDef = (records ds).records in
    let c : Scope = scope_of (tree m) in
    let bs : List Brick = (tree m).bricks in
    let short = list_all is_short (tree m).strings in
    let fits = left_of (list_all (brick_fits c) bs) short (right_of (list_all (record_stands _) rs) (list_all (brick_fits c) bs && short) (module_fits items m text fine)) in
    items_are_fields (modes_seen ds) ds (fillings ds) c (tree m).modes k d fs ss (declarations_are_spelled items m spelled text.derived) refl fits at is plain
