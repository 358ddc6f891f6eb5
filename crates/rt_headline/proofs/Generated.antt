-- What `gen` does is what is said of it.
use Rattle.rt_headline.specs.Generating.{GenEnds}
use Rattle.rt_headline.specs.Laws.{GeneratedRunsFollow}
use Rattle.rt_headline.proofs.Following.{Given, carried_out}

pub generated : Given → GeneratedRunsFollow
generated laws c n name _ (GenEnds.no_memory h) = GenEnds.no_memory h
generated laws c n name _ (GenEnds.unwritten h k) = GenEnds.unwritten h k
generated laws c n name _ (GenEnds.no_image made h p k) = GenEnds.no_image made h p k
generated laws c n name status (GenEnds.failed {a = a} made h p k l) = GenEnds.failed made h p (carried_out laws _ _ _ a status h k) l
generated laws c n name status (GenEnds.told {a = a} {done = d} made ran h p k l t) = GenEnds.told made ran h p (carried_out laws _ _ _ a d h k) l t
