use Rattle.std.proofs.Common.{◌≡◌, ◌-◌, [], take, length}
use Rattle.rt_words.specs.Format.{any}
use Rattle.rt_words.specs.Reading as formats
use Rattle.rt_image.proofs.tasks.read_block_words.Given as goal

-- All are those found and as many more as there are turns left.
abbrev pub invariant-loop-number : goal.invariant-loop-number
invariant-loop-number l = record {
  all : formats.times (formats.word any) 8 [] l.bytes ≡ formats.times (formats.word any) (8 - l.number) (take l.number l.block) l.rest;
  size : length l.block ≡ 8;
}
