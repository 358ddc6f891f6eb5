use Rattle.std.proofs.Common.{refl}
use Rattle.rt_outside.specs.declared.shelf.Place.{Place}
use Rattle.rt_outside.proofs.Kept.{kept-take_more}
use Rattle.rt_outside.proofs.lookup.latest.Goals as goal
use Rattle.rt_outside.proofs.lookup.latest.Goals.{then-eq, else-eq}

pub loop-place-preserved : goal.loop-place-preserved
loop-place-preserved c =
    let none : Place = record { from = 0; middle = 0; to = 0 } in
    let more = kept-take_more c.args.log.now c.args.places.now c.loop-place.place-index none c.loop-place-test.true in
    elim c.if-eq.branch [
      | then-eq w ↦ rw (more, w.found-is, ← c.eq.ensures, w.if-eq.true) refl
      | else-eq w ↦ rw (more, w.found-is, ← c.eq.ensures, w.if-eq.false) c.loop-place.invariant
    ]
