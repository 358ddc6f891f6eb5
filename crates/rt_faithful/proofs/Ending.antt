-- However a run of a faithful image ends, it is faithful there.
use Rattle.std.proofs.Common.{◌≡◌, ℕ, List, subst}
use Rattle.rt_image.specs.declared.image.ImageParts.{ImageParts}
use Rattle.rt_run.specs.declared.machine.End.TheVariants.{Ended, Limit, Stalled, Fault, ReadFault, WriteFault}
use Rattle.rt_run.specs.Boundaries.{Reached, boundary, instructions}
use Rattle.rt_meaning.specs.declared.begin.SourceTask.{SourceTask}
use Rattle.rt_meaning_laws.specs.SourceRuns.{AreBytes}
use Rattle.rt_follows.specs.Whole.{Whole}
use Rattle.rt_faithful.specs.Faithful.{Meets, Faithful}
use Rattle.rt_faithful.specs.Laws.{EndsAreFaithful}

come_to : (w : Whole) (image : ImageParts) (ts : List SourceTask) (gaps input : List ℕ) (k : ℕ) (r : Reached) → Faithful w image ts → AreBytes input → boundary image gaps input k ≡ r → Meets w image ts input r
come_to w image ts gaps input k r f bytes e = subst (λ (o : Reached). Meets w image ts input o) e (f.each gaps input bytes k)

pub ends_are_faithful : EndsAreFaithful
ends_are_faithful w image ts gaps input limit Ended s f bytes e = (come_to w image ts gaps input limit _ f bytes e, tt)
ends_are_faithful w image ts gaps input limit Stalled s f bytes e = (come_to w image ts gaps input limit _ f bytes e, tt)
ends_are_faithful w image ts gaps input limit Limit s f bytes e = (come_to w image ts gaps input limit _ f bytes e.0, tt)
ends_are_faithful w image ts gaps input limit (Fault i kind at) s f bytes e = absurd (come_to w image ts gaps input limit _ f bytes e)
ends_are_faithful w image ts gaps input limit ReadFault s f bytes e = (come_to w image ts gaps input (instructions s) _ f bytes e.at, tt)
ends_are_faithful w image ts gaps input limit WriteFault s f bytes e = (come_to w image ts gaps input (instructions s) _ f bytes e.at, tt)
