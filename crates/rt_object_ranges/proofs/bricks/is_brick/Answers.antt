use Rattle.rt_object.specs.Ranges.{HasBrickRanges, HasKindRanges}
use Rattle.rt_object_ranges.proofs.Whole.{tells_same}
use Rattle.rt_object_ranges.proofs.bricks.is_brick.Goals as goal

pub returns : goal.returns
returns c =
    let records = c.args.known.now.records.now in
    let strings = c.args.known.now.strings in
    let bricks = c.args.known.now.bricks in
    let brick = c.args.brick.now in
    tells_same c.is_kind.result (HasKindRanges records strings bricks brick.name brick.kind) (HasBrickRanges records strings bricks brick) (λ k. record { name = c.name_is_short.ensures; kind = k }) (λ h. h.kind) c.is_kind.ensures
