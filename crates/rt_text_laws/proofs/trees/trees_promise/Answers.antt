use Rattle.rt_text_laws.proofs.Promised.{trees_promise}
use Rattle.rt_text_laws.proofs.trees.trees_promise.Goals as goal

pub returns : goal.returns
returns c = trees_promise c.items_are_ranged.ensures c.names_are_words.ensures (record {
  starts = c.numbers_fit.ensures.starts;
  strings = c.numbers_fit.ensures.strings;
  named = c.modules_are_named.ensures;
  nodes = c.modules_fit.ensures;
  within = c.modules_stay_within.ensures;
  tables = c.records_are_tables.ensures;
  fields = c.data_items_are_fields.ensures;
})
