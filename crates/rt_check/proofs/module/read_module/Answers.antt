use Rattle.std.proofs.Common.{ℕ, List, [], map, Ok, Err, sym, ap, ◌∙◌, subst}
use Rattle.rt_bricks.specs.declared.tree.Declaration.{Declaration}
use Rattle.rt_check_module.specs.Tree.{filled, texts_from}
use Rattle.rt_check.specs.Whole.{Refuses, StringsRise}
use Rattle.rt_check.proofs.Finished.{AreParts, typed_with, answered}
use Rattle.rt_check.proofs.Reading.{fit_by, read_refuses, read_parts}
use Rattle.rt_check_faults.proofs.Joins.{given}
use Rattle.rt_check.proofs.module.read_module.Goals as goal

pub returns-in-Some-clause-fault : goal.returns-in-Some-clause-fault
returns-in-Some-clause-fault c = λ rise.
    let refused : Refuses c.args.source.now.declarations c.in-Some.fault = subst (λ (ds : List Declaration). Refuses ds c.in-Some.fault) c.as_slice-declarations.ensures (read_refuses c.as_slice-declarations.result.now c.in_ok-scene.scene.modes c.in_ok-scene.scene.sizes c.as_slice.result.now c.in_ok-scene.scene.bricks c.as_slice-2.result.now c.in_ok-scene.scene.level c.in_ok-scene.scene.fault c.in_ok-inside.inside.fillings c.in_ok-inside.inside.fault
    c.as_slice.ensures c.as_slice-2.ensures c.in_ok-scene.ensures.records c.in_ok-scene.ensures.sizes c.in_ok-scene.ensures.bricks c.in_ok-scene.ensures.level c.in_ok-scene.ensures.fault c.in_ok-inside.ensures.fault c.is_none.result (fit_by c.in_ok-scene.scene.fault c.is_none.result c.is_none.ensures) c.in_ok-inside.ensures.fillings
    (subst StringsRise (sym c.as_slice-declarations.ensures) rise) c.in-Some.fault (sym c.either.ensures ∙ c.in-Some.is)) in
    given c.in-Some.fault (Refuses c.args.source.now.declarations c.in-Some.fault) refused

pub returns-in-Some-clause-only : goal.returns-in-Some-clause-only
returns-in-Some-clause-only c = λ rise none. answered c.args.source.now none (Err c.in-Some.fault) tt (returns-in-Some-clause-fault c rise)

pub returns-in_ok-parts-in-None-clause-tree : goal.returns-in_ok-parts-in-None-clause-tree
returns-in_ok-parts-in-None-clause-tree c = λ rise.
    let ds = c.as_slice-declarations.result.now in
    let texts = texts_from c.in_ok-scene.scene.modes.records [] c.in_ok-scene.scene.bricks ds in
    let parts : AreParts ds c.in_ok-scene.scene.modes (filled c.in_ok-scene.scene.bricks c.in_ok-inside.inside.fillings) texts = read_parts c.as_slice-declarations.result.now c.in_ok-scene.scene.modes c.in_ok-scene.scene.sizes c.as_slice.result.now c.in_ok-scene.scene.bricks c.as_slice-2.result.now c.in_ok-scene.scene.level c.in_ok-scene.scene.fault c.in_ok-inside.inside.fillings c.in_ok-inside.inside.fault
    c.as_slice.ensures c.as_slice-2.ensures c.in_ok-scene.ensures.records c.in_ok-scene.ensures.sizes c.in_ok-scene.ensures.bricks c.in_ok-scene.ensures.level c.in_ok-scene.ensures.fault c.in_ok-inside.ensures.fault c.is_none.result (fit_by c.in_ok-scene.scene.fault c.is_none.result c.is_none.ensures) c.in_ok-inside.ensures.fillings
    (subst StringsRise (sym c.as_slice-declarations.ensures) rise) (sym c.either.ensures ∙ c.in-None.is) in
    typed_with c.args.source.now c.in_ok-scene.scene.modes (filled c.in_ok-scene.scene.bricks c.in_ok-inside.inside.fillings) texts c.in_ok-parts-in-None.parts
    (subst (λ (xs : List Declaration). AreParts xs c.in_ok-scene.scene.modes (filled c.in_ok-scene.scene.bricks c.in_ok-inside.inside.fillings) texts) c.as_slice-declarations.ensures parts)
    (c.in_ok-parts-in-None.ensures ∙ ap (λ (ss : List (List ℕ)). record { title = c.args.source.now.title; modes = c.in_ok-scene.scene.modes; bricks = filled c.in_ok-scene.scene.bricks c.in_ok-inside.inside.fillings; strings = ss }) (c.in_ok-inside.ensures.strings ∙ ap (λ hs. map (λ (t : ℕ × List ℕ). t.1) (texts_from c.in_ok-scene.scene.modes.records [] hs ds)) c.as_slice-2.ensures))

pub returns-in_ok-parts-in-None-clause-only : goal.returns-in_ok-parts-in-None-clause-only
returns-in_ok-parts-in-None-clause-only c = λ rise none. answered c.args.source.now none (Ok c.in_ok-parts-in-None.parts) (returns-in_ok-parts-in-None-clause-tree c rise) tt
