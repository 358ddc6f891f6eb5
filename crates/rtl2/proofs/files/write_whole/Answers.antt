use Rattle.std.proofs.Common.{◌++◌, take, arith}
use Rattle.std.proofs.KnownBytes.{Appends-trans, Appends-kept}
use Rattle.rtl2.proofs.Moved.{moves_front}
use Rattle.rtl2.proofs.files.write_whole.Goals as goal
use Rattle.rtl2.proofs.files.write_whole.Goals.{in-Ok, in-Err+else-ne}

pub writes-preserved : goal.writes-preserved
writes-preserved g c =
    let (done, split, appended) = c.writes.invariant.taken in
    let rest = c.writes.rest.now in
    elim c.match-write.branch [
      | in-Ok w ↦ rw (w.rest-is, w.count-is) record {
        taken = (done ++ take w.in-Ok.n rest, moves_front _ done rest w.in-Ok.n split, Appends-trans _ _ _ _ _ appended w.in-Ok.ensures.bytes);
        later = c.writes.invariant.later;
      }
      | in-Err+else-ne w ↦ rw (w.rest-is, w.count-is) record {
        taken = (done, split, Appends-kept _ _ _ _ appended w.in-Err.ensures.bytes);
        later = omega (arith, c.writes.invariant.later, w.rise-in-Err.ensures.later);
      }
    ]
