use Rattle.std.proofs.Common.{◌≡◌, ap, sym, ◌∙◌, subst, length, [], ◌∷◌, List, Some, arith, length-append}
use Rattle.std.proofs.lemmas.Option.{slice_get-get_or}
use Rattle.std.specs.Prelude.{slice_get}
use Rattle.rt_modes.specs.declared.mode.Field.{Field}
use Rattle.rt_lower.specs.Layouts.{ItemsBegin, AreOffsets}
use Rattle.rt_lower.proofs.Listing.{row_more}
use Rattle.rt_lower.proofs.layouts.items.Goals as goal

pub loop-brick-preserved : goal.loop-brick-preserved
loop-brick-preserved c =
    let there : slice_get c.args.bricks.now c.loop-brick.brick-index ≡ Some c.brick-item.result = slice_get-get_or c.args.bricks.now c.loop-brick.brick-index c.brick-item.result c.loop-brick-test.true ∙ ap (λ x. Some x) (sym c.brick-item.is) in
    record {
      each = omega (arith, ap length c.in_ok-push.ensures.ok, length-append c.loop-brick.rows (c.in_ok-offsets.field-0 ∷ []), c.loop-brick.invariant.each);
      right = λ t a. row_more (ItemsBegin t) c.args.bricks.now c.loop-brick.rows c.loop-brick.brick-index c.in_ok-offsets.field-0 c.push.new.self c.brick-item.result c.in_ok-push.ensures.ok c.loop-brick.invariant.each there
          (subst (λ (fs : List Field). AreOffsets t fs c.in_ok-offsets.field-0) c.fields_in.ensures (c.in_ok-offsets.ensures t a)) (c.loop-brick.invariant.right t a);
    }

pub returns : goal.returns
returns c = λ t a. record { each = omega arith; right = c.loop-brick.invariant.right t a }
