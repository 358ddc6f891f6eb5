use Rattle.rt_object.proofs.ObjectLaws.{no_beginning, never_both, one_place, one_version, one_of_three}
use Rattle.rt_object.proofs.laws.objects_are_told.Goals as goal

pub returns : goal.returns
returns c = record { either = one_of_three; none_begins = no_beginning; apart = never_both; place = one_place; version = one_version }
