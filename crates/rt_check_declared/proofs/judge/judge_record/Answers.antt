use Rattle.rt_sizes.specs.Capped.{table}
use Rattle.rt_check_declared.proofs.Judged.{record_counts}
use Rattle.rt_check_declared.proofs.judge.judge_record.Goals as goal

pub returns : goal.returns
returns c names known r sizes rings is e =
    record_counts names (table c.args.records.now known) c.args.number r c.args.head.now c.judge_modes-fault.result c.either.result is (c.judge_modes-fault.ensures names known r sizes rings is e) c.either.ensures
