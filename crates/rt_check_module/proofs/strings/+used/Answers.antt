use Rattle.std.proofs.Common.{◌≡◌, ◌++◌, ℕ, List, [], None, OnOk, map, sym, ap, ◌∙◌, subst}
use Rattle.std.proofs.lemmas.List.{append-nil}
use Rattle.rt_bricks.specs.declared.tree.Start.{Start}
use Rattle.rt_check_module.specs.declared.parts.Wanted.TheVariants as seen
use Rattle.rt_check_module.specs.Starts.{elements, fields, nothing, in_each, in_fields, written}
use Rattle.rt_check_module.proofs.Lists.{list_used, a_list, wanted_there}
use Rattle.rt_check_module.proofs.Steps.{uses}
use Rattle.rt_check_module.proofs.strings.+used.Goals as goal

pub add_used-returns-in-Elements : goal.add_used-returns-in-Elements
add_used-returns-in-Elements t c =
    let e = list_used c.args.modes.now.records (λ n. None) [] c.args.start.now c.in-List.parts c.in-List.field-1 c.in-List.field-2 c.args.mode.now (elements c.in-Elements.of.now) (a_list c.args.start.now c.in-List.parts c.in-List.field-1 c.in-List.field-2 c.in-List.is)
    (wanted_there c.args.modes.now.records c.in-List.parts c.as_slice.result.now c.args.mode.now c.want.result (seen.Elements c.in-Elements.of) c.as_slice.ensures c.want.ensures c.in-Elements.is) in
    subst (λ (z : List ℕ). OnOk c.used_in_each.result (c.used_in_each.new.used ≡ c.args.used.now ++ z)) (ap (λ (x : List Start). in_each uses (map (written c.args.modes.now.records (λ n. None) []) x) c.in-Elements.of.now) c.as_slice-in-Elements.ensures ∙ sym e) c.used_in_each.ensures

pub add_used-returns-in-Fields : goal.add_used-returns-in-Fields
add_used-returns-in-Fields t c =
    let e = list_used c.args.modes.now.records (λ n. None) [] c.args.start.now c.in-List.parts c.in-List.field-1 c.in-List.field-2 c.args.mode.now (fields c.in-Fields.fields.now) (a_list c.args.start.now c.in-List.parts c.in-List.field-1 c.in-List.field-2 c.in-List.is)
    (wanted_there c.args.modes.now.records c.in-List.parts c.as_slice.result.now c.args.mode.now c.want.result (seen.Fields c.in-Fields.fields) c.as_slice.ensures c.want.ensures c.in-Fields.is) in
    subst (λ (z : List ℕ). OnOk c.used_in_fields.result (c.used_in_fields.new.used ≡ c.args.used.now ++ z)) (ap (λ (x : List Start). in_fields uses (map (written c.args.modes.now.records (λ n. None) []) x) c.in-Fields.fields.now) c.as_slice-in-Fields.ensures ∙ sym e) c.used_in_fields.ensures

pub add_used-returns-in-Nothing : goal.add_used-returns-in-Nothing
add_used-returns-in-Nothing t c =
    let e = list_used c.args.modes.now.records (λ n. None) [] c.args.start.now c.in-List.parts c.in-List.field-1 c.in-List.field-2 c.args.mode.now nothing (a_list c.args.start.now c.in-List.parts c.in-List.field-1 c.in-List.field-2 c.in-List.is)
    (wanted_there c.args.modes.now.records c.in-List.parts c.as_slice.result.now c.args.mode.now c.want.result seen.Nothing c.as_slice.ensures c.want.ensures c.in-Nothing.is) in
    sym (ap (λ (z : List ℕ). c.args.used.now ++ z) e ∙ append-nil c.args.used.now)
