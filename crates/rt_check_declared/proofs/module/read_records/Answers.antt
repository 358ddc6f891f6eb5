use Rattle.std.proofs.Common.{◌∙◌}
use Rattle.rt_exprs.specs.Names.{find_in}
use Rattle.rt_check_declared.specs.Records as spec
use Rattle.rt_check_declared.specs.Records.{AllCount, record_modes}
use Rattle.rt_check_declared.proofs.Joined.{sizes_are, all_counted, least_counts}
use Rattle.rt_check_declared.proofs.module.read_records.Goals as goal

pub returns-clause-sizes : goal.returns-clause-sizes
returns-clause-sizes c =
    sizes_are (find_in c.args.levels.now) c.args.declarations.now c.as_slice-2.result.now c.as_slice.result.now c.as_slice-3.result.now c.in_ok-sizes.sizes (c.as_slice-2.ensures ∙ c.in_ok-read.ensures.records) (c.as_slice.ensures ∙ c.in_ok-read.ensures.heads)
    (c.as_slice-3.ensures ∙ c.in_ok-known.ensures) c.in_ok-sizes.ensures

pub returns-clause-unfit : goal.returns-clause-unfit
returns-clause-unfit c =
    all_counted (find_in c.args.levels.now) c.args.declarations.now c.as_slice-2.result.now c.as_slice-4.result.now c.as_slice.result.now c.as_slice-3.result.now c.in_ok-sizes.sizes c.as_slice-5.result.now c.in_ok-unfit.unfit
    (c.as_slice-2.ensures ∙ c.in_ok-read.ensures.records) (c.as_slice-4.ensures ∙ c.in_ok-read.ensures.records) (c.as_slice.ensures ∙ c.in_ok-read.ensures.heads) (c.as_slice-3.ensures ∙ c.in_ok-known.ensures) c.as_slice-5.ensures c.in_ok-sizes.ensures
    (λ sizes. c.in_ok-unfit.ensures (find_in c.args.levels.now) c.as_slice-3.result.now (record_modes c.args.declarations.now) sizes (c.as_slice-6.ensures ∙ c.in_ok-read.ensures.heads) (c.as_slice-4.ensures ∙ c.in_ok-read.ensures.records))

pub returns-clause-fault : goal.returns-clause-fault
returns-clause-fault c =
    let all : AllCount (find_in c.args.levels.now) (spec.table (find_in c.args.levels.now) c.args.declarations.now) (record_modes c.args.declarations.now) c.in_ok-unfit.unfit =
    all_counted (find_in c.args.levels.now) c.args.declarations.now c.as_slice-2.result.now c.as_slice-4.result.now c.as_slice.result.now c.as_slice-3.result.now c.in_ok-sizes.sizes c.as_slice-5.result.now c.in_ok-unfit.unfit
    (c.as_slice-2.ensures ∙ c.in_ok-read.ensures.records) (c.as_slice-4.ensures ∙ c.in_ok-read.ensures.records) (c.as_slice.ensures ∙ c.in_ok-read.ensures.heads) (c.as_slice-3.ensures ∙ c.in_ok-known.ensures) c.as_slice-5.ensures c.in_ok-sizes.ensures
    (λ sizes. c.in_ok-unfit.ensures (find_in c.args.levels.now) c.as_slice-3.result.now (record_modes c.args.declarations.now) sizes (c.as_slice-6.ensures ∙ c.in_ok-read.ensures.heads) (c.as_slice-4.ensures ∙ c.in_ok-read.ensures.records)) in
    least_counts (find_in c.args.levels.now) c.args.declarations.now c.in_ok-unfit.unfit c.as_slice-7.result.now c.least_fault-fault.result all c.as_slice-7.ensures c.least_fault-fault.ensures
