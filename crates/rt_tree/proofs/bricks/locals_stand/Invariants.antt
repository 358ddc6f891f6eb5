use Rattle.std.proofs.Common.{◌≡◌, drop}
use Rattle.std.specs.List.{list_all}
use Rattle.rt_tree.specs.Modules as modules
use Rattle.rt_tree.proofs.bricks.locals_stand.Given as goal

abbrev pub invariant-loop-local : goal.invariant-loop-local
invariant-loop-local l = list_all (modules.local_stands l.fn.records) (drop l.local-index l.locals) ≡ list_all (modules.local_stands l.fn.records) l.locals
