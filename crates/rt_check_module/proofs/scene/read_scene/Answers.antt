use Rattle.std.proofs.Common.{◌≡◌, ◌⊎◌, [], ◌∷◌, Option, None, sym, ap, ◌∙◌, subst}
use Rattle.rt_check_declared.specs.Names.{name_faults, scope}
use Rattle.rt_check_declared.specs.Bricks.{bricks, brick_faults}
use Rattle.rt_check_module.specs.Levels.{mode_names}
use Rattle.rt_modes.specs.declared.mode.ModeTable.{ModeTable}
use Rattle.rt_check_faults.specs.declared.fault.CheckFault.{CheckFault}
use Rattle.rt_exprs.specs.Names.{find_in}
use Rattle.rt_check_declared.specs.Records.{Counts, table}
use Rattle.rt_check_declared.specs.Records.{Stands as StandsInModes}
use Rattle.rt_sizes.specs.Capped.{AreSizes}
use Rattle.rt_check_declared.specs.Verdicts.{IsIn, with_faults}
use Rattle.rt_check_declared.specs.Written.{Names}
use Rattle.rt_check_module.specs.Tree.{modes_seen}
use Rattle.rt_check_module.specs.Scenes.{StandsOutside}
use Rattle.rt_check_declared.proofs.Counted.{gathered_counts, either_counts}
use Rattle.rt_check_module.proofs.Seeing.{all_seen}
use Rattle.rt_check_module.proofs.scene.read_scene.Goals as goal

pub returns-clause-records : goal.returns-clause-records
returns-clause-records c =
    let seen : find_in (c.in_ok-mode_level.field-0 ∷ []) ≡ modes_seen c.args.declarations.now = all_seen c.in_ok-mode_level.field-0 (mode_names (scope c.args.declarations.now)) (c.in_ok-mode_level.ensures ∙ ap mode_names c.in_ok-names.ensures.names) in
    ap (λ (t : ModeTable). t.records) c.in_ok-modes.ensures ∙ c.in_ok-records.ensures.records ∙ ap (λ (n : Names). (table n c.args.declarations.now).records) seen

pub returns-clause-sizes : goal.returns-clause-sizes
returns-clause-sizes c =
    let seen : find_in (c.in_ok-mode_level.field-0 ∷ []) ≡ modes_seen c.args.declarations.now = all_seen c.in_ok-mode_level.field-0 (mode_names (scope c.args.declarations.now)) (c.in_ok-mode_level.ensures ∙ ap mode_names c.in_ok-names.ensures.names) in
    subst (λ (n : Names). AreSizes (table n c.args.declarations.now) c.in_ok-records.records.sizes) seen c.in_ok-records.ensures.sizes

pub returns-clause-bricks : goal.returns-clause-bricks
returns-clause-bricks c =
    let seen : find_in (c.in_ok-mode_level.field-0 ∷ []) ≡ modes_seen c.args.declarations.now = all_seen c.in_ok-mode_level.field-0 (mode_names (scope c.args.declarations.now)) (c.in_ok-mode_level.ensures ∙ ap mode_names c.in_ok-names.ensures.names) in
    c.in_ok-bricks.ensures.bricks ∙ ap (λ (n : Names). bricks n c.args.declarations.now) seen

pub returns-clause-fault : goal.returns-clause-fault
returns-clause-fault c =
    let ds = c.args.declarations.now in
    let seen : find_in (c.in_ok-mode_level.field-0 ∷ []) ≡ modes_seen ds = all_seen c.in_ok-mode_level.field-0 (mode_names (scope ds)) (c.in_ok-mode_level.ensures ∙ ap mode_names c.in_ok-names.ensures.names) in
    let of_names : Counts (λ g. IsIn g (name_faults ds)) c.in_ok-names.names.fault = subst (λ (o : Option CheckFault). Counts (λ g. IsIn g (name_faults ds)) o) (sym c.in_ok-names.ensures.fault) (gathered_counts (name_faults ds)) in
    let of_modes : Counts (StandsInModes (modes_seen ds) ds) c.in_ok-records.records.fault = subst (λ (n : Names). Counts (StandsInModes n ds) c.in_ok-records.records.fault) seen c.in_ok-records.ensures.fault in
    let is_found : c.in_ok-bricks.bricks.fault ≡ with_faults None (brick_faults (modes_seen ds) ds) = c.in_ok-bricks.ensures.fault ∙ ap (λ (n : Names). with_faults None (brick_faults n ds)) seen in
    let of_bricks : Counts (λ g. IsIn g (brick_faults (modes_seen ds) ds)) c.in_ok-bricks.bricks.fault = subst (λ (o : Option CheckFault). Counts (λ g. IsIn g (brick_faults (modes_seen ds) ds)) o) (sym is_found) (gathered_counts (brick_faults (modes_seen ds) ds)) in
    let two : Counts (λ g. IsIn g (name_faults ds) ⊎ StandsInModes (modes_seen ds) ds g) c.either.result =
    subst (λ (o : Option CheckFault). Counts (λ g. IsIn g (name_faults ds) ⊎ StandsInModes (modes_seen ds) ds g) o) (sym c.either.ensures) (either_counts (λ g. IsIn g (name_faults ds)) (StandsInModes (modes_seen ds) ds) c.in_ok-names.names.fault c.in_ok-records.records.fault of_names of_modes) in
    subst (λ (o : Option CheckFault). Counts (StandsOutside ds) o) (sym c.either-fault.ensures)
    (either_counts (λ g. IsIn g (name_faults ds) ⊎ StandsInModes (modes_seen ds) ds g) (λ g. IsIn g (brick_faults (modes_seen ds) ds)) c.either.result c.in_ok-bricks.bricks.fault two of_bricks)
