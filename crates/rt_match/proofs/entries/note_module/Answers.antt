use Rattle.std.proofs.Common.{◌≡◌, ◌+◌, suc, length, refl, sym, ◌∙◌, arith, add-one}
use Rattle.rt_match.specs.Signatures.{signatures, system_of}
use Rattle.rt_match.proofs.Walking.{module_here, brick_here, end_here}
use Rattle.rt_match.proofs.Noting.{duplicate_here, noted_entry, noted_brick, noted_turn}
use Rattle.rt_match.proofs.entries.note_module.Goals as goal
use Rattle.rt_match.proofs.entries.note_module.Goals.{else-is_entry-via-then-is_entry+in_ok-note+else-not-branch, else-is_entry-via-else-is_entry}

pub returns-then-not-branch-clause-err : goal.returns-then-not-branch-clause-err
returns-then-not-branch-clause-err c =
    let has = brick_here c.args.objects.now c.args.at c.index-objects-at.result c.parts.result.now c.requires.there c.index-objects-at.is c.parts.ensures.parts c.as_slice-bricks.result.now c.as_slice-bricks.ensures c.loop-number.number c.index-bricks-number.result c.loop-number-test.true c.index-bricks-number.is in
    duplicate_here (system_of c.args.objects.now) c.loop-number.entries (suc c.args.at) c.loop-number.number c.loop-number.invariant c.parts.result.now.records c.index-bricks-number.result has
    (sym c.is_entry.ensures ∙ c.if-is_entry.true) c.as_slice-name.result.now c.as_slice-name.ensures.bytes c.in_ok-note.field-0 c.in_ok-note.ensures.new (cc) c.in_ok-copy.field-0 c.in_ok-copy.ensures

pub loop-number-preserved : goal.loop-number-preserved
loop-number-preserved c =
    let has = brick_here c.args.objects.now c.args.at c.index-objects-at.result c.parts.result.now c.requires.there c.index-objects-at.is c.parts.ensures.parts c.as_slice-bricks.result.now c.as_slice-bricks.ensures c.loop-number.number c.index-bricks-number.result c.loop-number-test.true c.index-bricks-number.is in
    elim c.else-is_entry.branch [
      | else-is_entry-via-then-is_entry+in_ok-note+else-not-branch w ↦ rw (w.entries-is, add-one) (noted_entry (system_of c.args.objects.now) c.loop-number.entries (suc c.args.at) c.loop-number.number c.loop-number.invariant c.parts.result.now.records c.index-bricks-number.result has
          (sym c.is_entry.ensures ∙ w.if-is_entry.true) c.as_slice-name.result.now c.as_slice-name.ensures.bytes w.in_ok-note.field-0 w.in_ok-note.ensures.new (cc) w.note.new.entries (record { «module» = c.args.at + 1; brick = c.loop-number.number }) (add-one c.args.at) refl (w.in_ok-note.ensures.noted (cc)))
      | else-is_entry-via-else-is_entry w ↦ rw (w.entries-is, add-one) (noted_brick (system_of c.args.objects.now) c.loop-number.entries (suc c.args.at) c.loop-number.number c.loop-number.invariant c.parts.result.now.records c.index-bricks-number.result has (sym c.is_entry.ensures ∙ w.if-is_entry.false))
    ]

pub returns-clause-ok : goal.returns-clause-ok
returns-clause-ok c =
    let is_end : c.loop-number.number ≡ length c.as_slice-bricks.result.now = omega arith in
    noted_turn (system_of c.args.objects.now) c.loop-number.entries (suc c.args.at) c.loop-number.number c.loop-number.invariant (signatures c.parts.result.now)
    (module_here c.args.objects.now c.args.at c.index-objects-at.result c.parts.result.now c.requires.there c.index-objects-at.is c.parts.ensures.parts)
    (end_here c.args.objects.now c.args.at c.index-objects-at.result c.parts.result.now c.requires.there c.index-objects-at.is c.parts.ensures.parts c.as_slice-bricks.result.now c.as_slice-bricks.ensures c.loop-number.number is_end)
