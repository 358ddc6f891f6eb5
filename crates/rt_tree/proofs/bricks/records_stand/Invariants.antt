use Rattle.std.proofs.Common.{◌≡◌, drop}
use Rattle.std.specs.List.{list_all}
use Rattle.rt_tree.specs.Modules as modules
use Rattle.rt_tree.proofs.bricks.records_stand.Given as goal

abbrev pub invariant-loop-record : goal.invariant-loop-record
invariant-loop-record l = list_all (modules.record_stands l.count) (drop l.record-index l.records) ≡ list_all (modules.record_stands l.count) l.records
