use Rattle.std.proofs.Common.{sym, ◌∙◌}
use Rattle.rt_sizes.specs.Capped.{table}
use Rattle.rt_sizes.proofs.Settling.{set_right, one_found}
use Rattle.rt_sizes.proofs.settle.find.Goals as goal

pub returns-in-Some-record_size-clause-right : goal.returns-in-Some-record_size-clause-right
returns-in-Some-record_size-clause-right c =
    set_right (table c.args.records.now c.args.known.now) c.args.sizes.now c.args.number c.in-Some-record_size.size c.requires.right (sym c.record_size.ensures ∙ c.in-Some-record_size.is)

pub returns-in-Some-record_size-clause-missing : goal.returns-in-Some-record_size-clause-missing
returns-in-Some-record_size-clause-missing c = one_found c.args.sizes.now c.args.number c.in-Some-record_size.size c.requires.within (sym c.size_in.ensures ∙ c.in-None.is)
