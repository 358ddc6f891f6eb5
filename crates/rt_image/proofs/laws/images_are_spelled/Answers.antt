use Rattle.rt_image.proofs.ImageLaws.{in_range, some_spelling, one_spelling, no_beginning, either, apart, one_place}
use Rattle.rt_image.proofs.laws.images_are_spelled.Goals as goal

pub returns : goal.returns
returns c = record { in_range = in_range; some = some_spelling; one = one_spelling; none_begins = no_beginning; either = either; apart = apart; place = one_place }
