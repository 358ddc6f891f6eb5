use Rattle.rt_object.proofs.SpellingLaws.{in_range, some_spelling, one_spelling}
use Rattle.rt_object.proofs.laws.objects_are_spelled.Goals as goal

pub returns : goal.returns
returns c = record { in_range = in_range; some = some_spelling; one = one_spelling }
