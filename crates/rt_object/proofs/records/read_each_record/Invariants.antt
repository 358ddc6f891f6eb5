use Rattle.std.proofs.Common.{◌≡◌, ◌-◌, [], length}
use Rattle.rt_words.specs.Reading as formats
use Rattle.rt_object.specs.Known.{Knows}
use Rattle.rt_object.specs.Ranges.{record_names}
use Rattle.rt_object.specs.Reading as reads
use Rattle.rt_object.proofs.records.read_each_record.Given as goal

-- All are those found and as many more as there are turns left, and the names of those found are known.
abbrev pub invariant-loop-turn : goal.invariant-loop-turn
invariant-loop-turn l = record {
  all : formats.each (reads.record_reader l.records) l.count [] l.bytes ≡ formats.each (reads.record_reader l.records) (l.count - l._turn) l.found l.rest;
  names : Knows l.names (record_names l.found);
  few : length l.found ≡ l._turn;
}
