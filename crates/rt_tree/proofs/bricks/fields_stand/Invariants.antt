use Rattle.std.proofs.Common.{◌≡◌, drop}
use Rattle.std.specs.List.{list_all}
use Rattle.rt_tree.specs.Modules as modules
use Rattle.rt_tree.proofs.bricks.fields_stand.Given as goal

abbrev pub invariant-loop-field : goal.invariant-loop-field
invariant-loop-field l = list_all (modules.field_stands l.fn.records) (drop l.field-index l.fields) ≡ list_all (modules.field_stands l.fn.records) l.fields
