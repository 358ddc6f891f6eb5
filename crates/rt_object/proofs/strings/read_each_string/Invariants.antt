use Rattle.std.proofs.Common.{◌≡◌, ◌-◌, [], length}
use Rattle.rt_words.specs.Reading as formats
use Rattle.rt_object.specs.Reading as reads
use Rattle.rt_object.proofs.strings.read_each_string.Given as goal

-- All are those found and as many more as there are turns left.
abbrev pub invariant-loop-turn : goal.invariant-loop-turn
invariant-loop-turn l = record {
  all : formats.times reads.string_reader l.count [] l.bytes ≡ formats.times reads.string_reader (l.count - l._turn) l.found l.rest;
  few : length l.found ≡ l._turn;
}
