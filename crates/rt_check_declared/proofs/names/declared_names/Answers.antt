use Rattle.std.proofs.Common.{ap}
use Rattle.rt_check_declared.specs.Names.{names}
use Rattle.rt_check_declared.specs.Naming.{State, state}
use Rattle.rt_check_declared.proofs.Walks.{from_empty}
use Rattle.rt_check_declared.proofs.names.declared_names.Goals as goal

pub returns-clause-names : goal.returns-clause-names
returns-clause-names c = ap (λ (s : State). s.known) (from_empty (state c.declare_all.new.names) c.new.result.entries (names c.args.declarations.now) c.in_ok-declare_all.ensures c.new.ensures.empty)

pub returns-clause-fault : goal.returns-clause-fault
returns-clause-fault c = ap (λ (s : State). s.fault) (from_empty (state c.declare_all.new.names) c.new.result.entries (names c.args.declarations.now) c.in_ok-declare_all.ensures c.new.ensures.empty)
