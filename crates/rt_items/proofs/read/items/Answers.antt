use Rattle.rt_items.proofs.Readings.{found_by, fault_by, only_by, limit_by}
use Rattle.rt_items.proofs.read.items.Goals as goal

pub returns-clause-found : goal.returns-clause-found
returns-clause-found c = found_by c.args.bytes.now c.read.result c.read.ensures

pub returns-clause-fault : goal.returns-clause-fault
returns-clause-fault c = fault_by c.args.bytes.now c.read.result c.read.ensures

pub returns-clause-only : goal.returns-clause-only
returns-clause-only c = only_by c.args.bytes.now c.read.result c.read.ensures

pub returns-clause-limit : goal.returns-clause-limit
returns-clause-limit c = limit_by c.args.bytes.now c.read.result c.read.ensures
