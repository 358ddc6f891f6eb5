use Rattle.std.proofs.Common.{ap, ◌∙◌}
use Rattle.rt_modes.specs.FullMode.{fields_in}
use Rattle.rt_sizes.specs.Capped.{table}
use Rattle.rt_check_declared.proofs.Judged.{head_counts, head_judged}
use Rattle.rt_check_declared.proofs.judge.judge_modes.Goals as goal

pub returns-in-Some : goal.returns-in-Some
returns-in-Some c names known r sizes rings is e = head_counts names (table c.args.records.now known) c.args.number r c.args.head.now c.in-Some.fault is c.in-Some.is

pub returns-in-None : goal.returns-in-None
returns-in-None c names known r sizes rings is e =
    head_judged names (table c.args.records.now known) c.args.number r c.args.head.now c.fields_of.result.now c.as_slice.result.now c.is_ring-ring.result c.passing_field-passing.result c.place_of-place.result c.whole_fault.result is c.in-None.is (c.fields_of.ensures ∙ ap fields_in e)
    c.as_slice.ensures (c.is_ring-ring.ensures c.args.records.now rings) (c.passing_field-passing.ensures.passes (table c.args.records.now known) sizes) (c.passing_field-passing.ensures.only (table c.args.records.now known) sizes) c.place_of-place.ensures c.whole_fault.ensures
