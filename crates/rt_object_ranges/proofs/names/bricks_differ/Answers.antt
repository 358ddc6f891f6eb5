use Rattle.std.proofs.Common.{sym, ◌∙◌, arith, refl, map, take}
use Rattle.rt_object.specs.declared.object.Brick.{Brick}
use Rattle.rt_object_ranges.proofs.NamesDiffer.{known_more, differ_more, not_differ, all_differ}
use Rattle.rt_object_ranges.proofs.names.bricks_differ.Goals as goal

pub returns-then-not-branch : goal.returns-then-not-branch
returns-then-not-branch c =
    let old = sym (c.in_ok-note.ensures.new (take c.loop-brick.brick-index (map (λ (x : Brick). x.name) c.args.bricks.now)) c.loop-brick.invariant.known) ∙ c.if-not-branch.true in
    (λ e. absurd cc, λ h. absurd (not_differ (λ (x : Brick). x.name) c.args.bricks.now c.loop-brick.brick-index c.brick-item.result c.as_slice.result.now (omega arith) c.brick-item.is c.as_slice.ensures.bytes old h))

pub loop-brick-preserved : goal.loop-brick-preserved
loop-brick-preserved c =
    let before = take c.loop-brick.brick-index (map (λ (x : Brick). x.name) c.args.bricks.now) in
    let new = sym (c.in_ok-note.ensures.new before c.loop-brick.invariant.known) ∙ c.if-not-branch.false in
    record {
      known = known_more (λ (x : Brick). x.name) c.args.bricks.now c.loop-brick.brick-index c.brick-item.result c.as_slice.result.now (omega arith) c.brick-item.is c.as_slice.ensures.bytes c.note.new.names
          (c.in_ok-note.ensures.known before c.loop-brick.invariant.known);
      differ = differ_more (λ (x : Brick). x.name) c.args.bricks.now c.loop-brick.brick-index c.brick-item.result c.as_slice.result.now (omega arith) c.brick-item.is c.as_slice.ensures.bytes c.loop-brick.invariant.differ new;
    }

pub returns : goal.returns
returns c = (λ e. all_differ (λ (x : Brick). x.name) c.args.bricks.now c.loop-brick.brick-index (omega arith) c.loop-brick.invariant.differ, λ h. refl)
