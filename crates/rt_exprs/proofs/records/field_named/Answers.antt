use Rattle.std.proofs.Common.{ℕ, List, option_map, sym, ap, ◌∙◌}
use Rattle.rt_modes.specs.declared.mode.Field.{Field}
use Rattle.rt_modes.specs.declared.mode.ModeTable.{ModeTable}
use Rattle.rt_exprs.specs.Operands.{first_field}
use Rattle.rt_exprs.proofs.Indexing.{found_in, numbered, finds_none, finds_some}
use Rattle.rt_exprs.proofs.records.field_named.Goals as goal

pub returns-in_err-get : goal.returns-in_err-get
returns-in_err-get c =
    ap (option_map (λ x. (x.0, x.1.now))) c.from_residual-in_err-get.ensures
    ∙ finds_none c.records.inside.table.records c.records.inside.numbers c.records.invariant c.from-record.result c.args.name.now (ap (λ o. found_in o c.args.name.now) (sym c.in_err-get.ensures.value))
    ∙ ap (λ (n : ℕ). first_field c.records.inside.table.records n c.args.name.now) c.from-record.ensures
    ∙ ap (λ (t : ModeTable). first_field t.records c.args.number c.args.name.now) c.records.view_is

pub returns-in_err-field : goal.returns-in_err-field
returns-in_err-field c =
    ap (option_map (λ x. (x.0, x.1.now))) c.from_residual-in_err-field.ensures
    ∙ finds_none c.records.inside.table.records c.records.inside.numbers c.records.invariant c.from-record.result c.args.name.now (ap (λ o. found_in o c.args.name.now) (sym c.in_ok-get.ensures.value) ∙ sym c.in_err-field.ensures.value)
    ∙ ap (λ (n : ℕ). first_field c.records.inside.table.records n c.args.name.now) c.from-record.ensures
    ∙ ap (λ (t : ModeTable). first_field t.records c.args.number c.args.name.now) c.records.view_is

pub returns : goal.returns
returns c =
    c.field_at.ensures ∙ ap (λ (fs : List Field). numbered fs c.in_ok-field.field-0.now c.in_ok-field.field-0.now) c.as_slice.ensures
    ∙ finds_some c.records.inside.table.records c.records.inside.numbers c.records.invariant c.from-record.result c.args.name.now c.in_ok-definition.definition.now c.in_ok-field.field-0.now (sym c.in_ok-definition.ensures.value) (ap (λ o. found_in o c.args.name.now) (sym c.in_ok-get.ensures.value) ∙ sym c.in_ok-field.ensures.value)
    ∙ ap (λ (n : ℕ). first_field c.records.inside.table.records n c.args.name.now) c.from-record.ensures
    ∙ ap (λ (t : ModeTable). first_field t.records c.args.number c.args.name.now) c.records.view_is
