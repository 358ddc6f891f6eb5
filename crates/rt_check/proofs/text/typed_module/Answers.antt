use Rattle.std.proofs.Common.{List, Ok, sym, ◌∙◌, subst}
use Rattle.std.proofs.lemmas.Result.{err_from_is_err_and}
use Rattle.rt_bricks.specs.Derives.{Derives}
use Rattle.rt_bricks.specs.Modules.{module_of}
use Rattle.rt_syntax.specs.Derives.{Refuses as Unfit}
use Rattle.rt_pieces.specs.declared.item.Item.{Item}
use Rattle.rt_check_faults.specs.Outcomes.{UnlessMemory}
use Rattle.rt_check_module.specs.Tree.{tree}
use Rattle.rt_check.specs.Texts.{IsTold}
use Rattle.rt_check.proofs.Texts.{same_items, no_items, no_module, no_source, a_source, is_derived, typed_as, no_tree, a_tree, unfit}
use Rattle.rt_check.proofs.text.typed_module.Goals as goal

pub returns-in_err-read-clause-only : goal.returns-in_err-read-clause-only
returns-in_err-read-clause-only c = λ t small is.
    let p = err_from_is_err_and c.from_residual.result c.from_residual.ensures.1 in
    let s = is.is_source in
    no_items t c.from_residual.result p.0 c.in_err-read.field-0.0 s.items p.1 p.2 (c.in_err-read.ensures.only (Ok s.items) s.read)

pub returns-in_err-source-clause-only : goal.returns-in_err-source-clause-only
returns-in_err-source-clause-only c = λ t small is.
    let p = err_from_is_err_and c.from_residual-in_err-source.result c.from_residual-in_err-source.ensures.1 in
    let s = is.is_source in
    let same = same_items c.in_ok-read.read s.items (c.in_ok-read.ensures.only (Ok s.items) s.read) in
    no_module t c.from_residual-in_err-source.result p.0 c.in_err-source.field-0.0 is.source p.1 p.2
    (c.in_err-source.ensures.only is.source (subst (λ (xs : List Item). Derives xs is.source) (sym (c.as_slice-list.ensures ∙ same)) s.derived))

pub returns-in_err-source-clause-fault : goal.returns-in_err-source-clause-fault
returns-in_err-source-clause-fault c = λ small.
    let p = err_from_is_err_and c.from_residual-in_err-source.result c.from_residual-in_err-source.ensures.1 in
    let same = c.as_slice-list.ensures in
    no_source c.args.text.now c.in_ok-read.read c.from_residual-in_err-source.result p.0 c.in_err-source.field-0.0 c.in_ok-read.ensures.found p.1 p.2
    (subst (λ (xs : List Item). Unfit module_of xs 0 c.in_err-source.field-0.0) same c.in_err-source.ensures.refused)
    (λ m d. c.in_err-source.ensures.only m (subst (λ (xs : List Item). Derives xs m) (sym same) d))

pub returns-in_err-checked-clause-only : goal.returns-in_err-checked-clause-only
returns-in_err-checked-clause-only c = λ t small is.
    let p = err_from_is_err_and c.from_residual-in_err-checked.result c.from_residual-in_err-checked.ensures.1 in
    let s = is.is_source in
    let m = c.in_ok-source.source in
    let same = same_items c.in_ok-read.read s.items (c.in_ok-read.ensures.only (Ok s.items) s.read) in
    let found = c.in_ok-source.ensures.only is.source (subst (λ (xs : List Item). Derives xs is.source) (sym (c.as_slice-list.ensures ∙ same)) s.derived) in
    let typed = typed_as m is.source t found is.typed in
    let derived = subst (λ (xs : List Item). Derives xs m) c.as_slice-list.ensures c.in_ok-source.ensures.found in
    no_tree t (tree m) c.from_residual-in_err-checked.result p.0 c.in_err-checked.field-0.0 p.1 p.2
    (c.in_err-checked.ensures.only (is_derived c.args.text.now small c.in_ok-read.read c.in_ok-read.ensures.found c.in_ok-read.ensures.limit m derived) typed.fit)

pub returns-in_err-checked-clause-fault : goal.returns-in_err-checked-clause-fault
returns-in_err-checked-clause-fault c = λ small.
    let p = err_from_is_err_and c.from_residual-in_err-checked.result c.from_residual-in_err-checked.ensures.1 in
    let m = c.in_ok-source.source in
    let derived = subst (λ (xs : List Item). Derives xs m) c.as_slice-list.ensures c.in_ok-source.ensures.found in
    unfit c.args.text.now m c.from_residual-in_err-checked.result p.0 c.in_err-checked.field-0.0
    (a_source c.args.text.now small c.in_ok-read.read c.in_ok-read.ensures.found c.in_ok-read.ensures.limit m derived) p.1 p.2
    (subst (λ (xs : List Item). UnlessMemory c.in_err-checked.field-0.0 (IsTold xs m c.in_err-checked.field-0.0)) c.as_slice-list.ensures
    (c.in_err-checked.ensures.fault (is_derived c.args.text.now small c.in_ok-read.read c.in_ok-read.ensures.found c.in_ok-read.ensures.limit m derived)))

pub returns-clause-tree : goal.returns-clause-tree
returns-clause-tree c = λ small.
    let m = c.in_ok-source.source in
    let derived = subst (λ (xs : List Item). Derives xs m) c.as_slice-list.ensures c.in_ok-source.ensures.found in
    record {
      source = m;
      is_source = a_source c.args.text.now small c.in_ok-read.read c.in_ok-read.ensures.found c.in_ok-read.ensures.limit m derived;
      typed = c.in_ok-checked.ensures.tree (is_derived c.args.text.now small c.in_ok-read.read c.in_ok-read.ensures.found c.in_ok-read.ensures.limit m derived);
    }

pub returns-clause-within : goal.returns-clause-within
returns-clause-within c = λ small.
    let m = c.in_ok-source.source in
    let derived = subst (λ (xs : List Item). Derives xs m) c.as_slice-list.ensures c.in_ok-source.ensures.found in
    c.in_ok-checked.ensures.within (is_derived c.args.text.now small c.in_ok-read.read c.in_ok-read.ensures.found c.in_ok-read.ensures.limit m derived)

pub returns-clause-only : goal.returns-clause-only
returns-clause-only c = λ t small is.
    let s = is.is_source in
    let m = c.in_ok-source.source in
    let same = same_items c.in_ok-read.read s.items (c.in_ok-read.ensures.only (Ok s.items) s.read) in
    let found = c.in_ok-source.ensures.only is.source (subst (λ (xs : List Item). Derives xs is.source) (sym (c.as_slice-list.ensures ∙ same)) s.derived) in
    let typed = typed_as m is.source t found is.typed in
    let derived = subst (λ (xs : List Item). Derives xs m) c.as_slice-list.ensures c.in_ok-source.ensures.found in
    a_tree t (tree m) c.in_ok-checked.field-0 typed.is
    (c.in_ok-checked.ensures.only (is_derived c.args.text.now small c.in_ok-read.read c.in_ok-read.ensures.found c.in_ok-read.ensures.limit m derived) typed.fit)
