use Rattle.std.proofs.Common.{◌≡◌, ◌-◌, [], length}
use Rattle.rt_words.specs.Reading as formats
use Rattle.rt_image.specs.Reading as reads
use Rattle.rt_image.proofs.tasks.read_each.Given as goal

-- All are those found and as many more as there are turns left.
abbrev pub invariant-loop-turn : goal.invariant-loop-turn
invariant-loop-turn l = record {
  all : formats.each (reads.task l.code_end l.used) l.count [] l.bytes ≡ formats.each (reads.task l.code_end l.used) (l.count - l._turn) l.found l.rest;
  few : length l.found ≡ l._turn;
}
