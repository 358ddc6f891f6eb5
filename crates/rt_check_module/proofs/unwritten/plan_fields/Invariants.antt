use Rattle.std.proofs.Common.{length, take}
use Rattle.rt_check_module.proofs.Pendings.{Planned, fields_of}
use Rattle.rt_check_module.proofs.unwritten.plan_fields.Given as goal

abbrev pub invariant-loop-field : goal.invariant-loop-field
invariant-loop-field l = Planned l.fn.pending l.pending (length l.fields) (fields_of l.levels (take l.field-index l.fields))
