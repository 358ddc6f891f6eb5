use Rattle.std.proofs.Common.{List, map, sym, ap, ◌∙◌}
use Rattle.rt_bricks.specs.declared.tree.Start.{Start}
use Rattle.rt_tree_nodes.specs.declared.brick.DataStart.{DataStart}
use Rattle.rt_tree_nodes.specs.declared.brick.DataStart.TheVariants as start
use Rattle.rt_exprs.specs.Names.{find}
use Rattle.rt_check_module.specs.declared.parts.Wanted.TheVariants as seen
use Rattle.rt_check_module.specs.Starts.{elements, fields, nothing, each_made, fields_made, written_in}
use Rattle.rt_check_module.proofs.Lists.{list_made, text_is_made, a_list, wanted_there}
use Rattle.rt_check_module.proofs.make.+make.Goals as goal

pub make_start-returns-in_ok-number-in-Text : goal.make_start-returns-in_ok-number-in-Text
make_start-returns-in_ok-number-in-Text t c =
    text_is_made c.args.scope.now.records (find c.args.scope.now) c.args.scope.now.strings c.args.start.now c.in-Text.bytes c.as_slice.result.now c.in-Text.at c.in_ok-number-in-Text.number c.args.mode.now c.make_text.result c.in-Text.is c.as_slice.ensures c.in_ok-number-in-Text.ensures.number c.make_text.ensures

pub make_start-returns-in_ok-made-in-Elements : goal.make_start-returns-in_ok-made-in-Elements
make_start-returns-in_ok-made-in-Elements t c =
    let e = list_made c.args.scope.now.records (find c.args.scope.now) c.args.scope.now.strings c.args.start.now c.in-List.parts c.in-List.field-1 c.in-List.field-2 c.args.mode.now (elements c.in-Elements.of.now) (a_list c.args.start.now c.in-List.parts c.in-List.field-1 c.in-List.field-2 c.in-List.is)
    (wanted_there c.args.scope.now.records c.in-List.parts c.as_slice-in-List.result.now c.args.mode.now c.want.result (seen.Elements c.in-Elements.of) c.as_slice-in-List.ensures (rw c.table.ensures at c.want.ensures) c.in-Elements.is) in
    ap (λ (x : List DataStart). start.List x) (c.in_ok-made-in-Elements.ensures ∙ ap (λ (x : List Start). each_made (map (written_in c.args.scope.now) x) c.in-Elements.of.now) c.as_slice-in-Elements.ensures) ∙ sym e

pub make_start-returns-in_ok-made-in-Fields : goal.make_start-returns-in_ok-made-in-Fields
make_start-returns-in_ok-made-in-Fields t c =
    let e = list_made c.args.scope.now.records (find c.args.scope.now) c.args.scope.now.strings c.args.start.now c.in-List.parts c.in-List.field-1 c.in-List.field-2 c.args.mode.now (fields c.in-Fields.fields.now) (a_list c.args.start.now c.in-List.parts c.in-List.field-1 c.in-List.field-2 c.in-List.is)
    (wanted_there c.args.scope.now.records c.in-List.parts c.as_slice-in-List.result.now c.args.mode.now c.want.result (seen.Fields c.in-Fields.fields) c.as_slice-in-List.ensures (rw c.table.ensures at c.want.ensures) c.in-Fields.is) in
    ap (λ (x : List DataStart). start.List x) (c.in_ok-made-in-Fields.ensures ∙ ap (λ (x : List Start). fields_made (map (written_in c.args.scope.now) x) c.in-Fields.fields.now) c.as_slice-in-Fields.ensures) ∙ sym e

pub make_start-returns-in_ok-made-in-Nothing : goal.make_start-returns-in_ok-made-in-Nothing
make_start-returns-in_ok-made-in-Nothing t c =
    let e = list_made c.args.scope.now.records (find c.args.scope.now) c.args.scope.now.strings c.args.start.now c.in-List.parts c.in-List.field-1 c.in-List.field-2 c.args.mode.now nothing (a_list c.args.start.now c.in-List.parts c.in-List.field-1 c.in-List.field-2 c.in-List.is)
    (wanted_there c.args.scope.now.records c.in-List.parts c.as_slice-in-List.result.now c.args.mode.now c.want.result seen.Nothing c.as_slice-in-List.ensures (rw c.table.ensures at c.want.ensures) c.in-Nothing.is) in
    ap (λ (x : List DataStart). start.List x) c.in_ok-made-in-Nothing.ensures ∙ sym e
