use Rattle.rt_meaning_sound.proofs.Whole.{starts_are_words, strings_are_bytes}
use Rattle.rt_meaning_sound.proofs.laws.numbers_fit.Goals as goal

pub returns-clause-starts : goal.returns-clause-starts
returns-clause-starts c = starts_are_words

pub returns-clause-strings : goal.returns-clause-strings
returns-clause-strings c = strings_are_bytes
