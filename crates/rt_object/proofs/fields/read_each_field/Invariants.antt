use Rattle.std.proofs.Common.{◌≡◌, ◌-◌, []}
use Rattle.rt_words.specs.Reading as formats
use Rattle.rt_object.specs.Known.{Knows}
use Rattle.rt_object.specs.Ranges.{field_names}
use Rattle.rt_object.specs.Reading as reads
use Rattle.rt_object.proofs.fields.read_each_field.Given as goal

-- All are those found and as many more as there are turns left, and the names of those found are known.
abbrev pub invariant-loop-turn : goal.invariant-loop-turn
invariant-loop-turn l = record {
  all : formats.each (reads.field_reader l.records l.labels) l.count [] l.bytes ≡ formats.each (reads.field_reader l.records l.labels) (l.count - l._turn) l.found l.rest;
  names : Knows l.names (field_names l.found);
}
