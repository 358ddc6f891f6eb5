use Rattle.std.proofs.Common.{◌≡◌, ◌-◌, []}
use Rattle.rt_words.specs.Format.{any}
use Rattle.rt_words.specs.Reading as reads
use Rattle.rt_words.proofs.lists.read_words.Given as goal

-- All are those found and as many more as there are turns left.
abbrev pub invariant-loop-turn : goal.invariant-loop-turn
invariant-loop-turn l = reads.times (reads.word any) l.count [] l.bytes ≡ reads.times (reads.word any) (l.count - l._turn) l.found l.rest
