use Rattle.std.proofs.Common.{◌≡◌, ◌-◌, []}
use Rattle.rt_words.specs.Reading as formats
use Rattle.rt_object.specs.Known.{AreBehind}
use Rattle.rt_object.specs.Reading as reads
use Rattle.rt_object.proofs.relocations.read_each_relocation.Given as goal

-- All are those found and as many more as there are turns left; places behind those found are those from least on.
abbrev pub invariant-loop-turn : goal.invariant-loop-turn
invariant-loop-turn l = record {
  all : formats.each (reads.relocation_reader l.known.records.now l.known.strings l.known.bricks l.step l.places) l.count [] l.bytes ≡ formats.each (reads.relocation_reader l.known.records.now l.known.strings l.known.bricks l.step l.places) (l.count - l._turn) l.found l.rest;
  behind : AreBehind l.least l.found;
}
