use Rattle.std.proofs.Common.{◌≡◌, ◌++◌, drop}
use Rattle.rt_report.specs.Listing.{words_text}
use Rattle.rt_report.proofs.listing_code.put_words.Given as goal

-- What is written and what is left are all of them.
abbrev pub invariant-loop-word : goal.invariant-loop-word
invariant-loop-word l = l.out.items ++ words_text (drop l.word-index l.words) ≡ l.initial.out.items ++ words_text l.words
