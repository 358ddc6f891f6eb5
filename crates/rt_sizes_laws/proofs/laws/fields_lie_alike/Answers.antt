use Rattle.rt_sizes_laws.proofs.Lying.{records_lie_alike, data_lie_alike, fields_lie_alike}
use Rattle.rt_sizes_laws.proofs.laws.fields_lie_alike.Goals as goal

pub returns : goal.returns
returns c = record {
  records = records_lie_alike c.full_modes_open.ensures;
  items = data_lie_alike c.full_modes_open.ensures c.full_data_open.ensures;
  fields = fields_lie_alike c.full_modes_open.ensures;
}
