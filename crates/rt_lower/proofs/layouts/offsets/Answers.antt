use Rattle.std.proofs.Common.{ap, sym, subst, length, [], ◌∷◌, List, ℕ, take, ◌+◌, arith, length-append}
use Rattle.rt_modes.specs.declared.mode.Field.{Field}
use Rattle.rt_sizes.specs.Sizes.{End}
use Rattle.rt_lower.proofs.Listing.{offset_more}
use Rattle.rt_lower.proofs.Offsets.{begins_there, ends_there, one_of}
use Rattle.rt_lower.proofs.layouts.offsets.Goals as goal

pub loop-k-preserved : goal.loop-k-preserved
loop-k-preserved c =
    let fs = c.args.fields.now in
    let k = c.loop-k.k in
    let x = c.index-fields-k.result in
    record {
      each = omega (arith, ap length c.in_ok-push.ensures.ok, length-append c.loop-k.made (c.in_ok-place.field-0 ∷ []), c.loop-k.invariant.each);
      begin = λ t a. offset_more t fs c.loop-k.made k c.in_ok-place.field-0 c.push.new.self c.in_ok-push.ensures.ok c.loop-k.invariant.each (c.loop-k.invariant.begin t a)
          (begins_there t fs k c.loop-k.end c.in_ok-place.field-0 x c.loop-k-test.true c.index-fields-k.is (c.loop-k.invariant.end t a) c.in_ok-place.ensures);
      end = λ t a.
          let h = c.in_ok-end.ensures t a in
          subst (λ (e : ℕ). End t (take (k + 1) fs) e) (sym h.2)
          (ends_there t fs k c.loop-k.end h.0 x c.loop-k-test.true c.index-fields-k.is (c.loop-k.invariant.end t a) (subst (λ (gs : List Field). End t gs h.0) (one_of fs k x c.loop-k-test.true c.index-fields-k.is) h.1));
    }
