use Rattle.std.proofs.Common.{ap}
use Rattle.rt_check_declared.specs.Names.{fields_names}
use Rattle.rt_check_declared.specs.Naming.{State, state}
use Rattle.rt_check_declared.proofs.Walks.{from_empty}
use Rattle.rt_check_declared.proofs.names.second_fields.Goals as goal

pub returns : goal.returns
returns c = ap (λ (s : State). s.fault) (from_empty (state c.add_fields.new.names) c.new.result.entries (fields_names 0 0 c.args.fields.now) c.in_ok-add_fields.ensures c.new.ensures.empty)
