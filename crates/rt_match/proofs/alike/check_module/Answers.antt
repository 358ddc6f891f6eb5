use Rattle.std.proofs.Common.{◌≡◌, suc, length, refl, arith, add-one}
use Rattle.rt_match.specs.Matching.{Differs}
use Rattle.rt_match.specs.Signatures.{signature, signatures, system_of}
use Rattle.rt_match.specs.Walking.{IsAlike, IsUnlike}
use Rattle.rt_match.proofs.Walking.{module_here, brick_here, end_here, clear_step, clear_end}
use Rattle.rt_match.proofs.Asking.{known_once, unlike_here, alike_not, differs_is}
use Rattle.rt_match.proofs.alike.check_module.Goals as goal

pub returns-in-Some-clause-err : goal.returns-in-Some-clause-err
returns-in-Some-clause-err c =
    let sys = system_of c.args.objects.now in
    let s = signature c.parts-parts.result.now.records c.index-bricks-number.result in
    let has = brick_here c.args.objects.now c.args.at c.index-objects-at.result c.parts-parts.result.now c.requires.there c.index-objects-at.is c.parts-parts.ensures.parts c.as_slice-bricks.result.now c.as_slice-bricks.ensures c.loop-number.number c.index-bricks-number.result c.loop-number-test.true c.index-bricks-number.is in
    let u : IsUnlike sys s c.in-Some.found = rw c.in-Some.is at c.in_ok-found.ensures in
    let x = unlike_here sys (suc c.args.at) c.loop-number.number s c.in-Some.found has u in
    rw (c.in_ok-mismatch.ensures, add-one) (
      known_once sys c.args.entries.now c.requires.known,
      c.requires.found,
      record {
        brick = c.loop-number.number;
        signature = s;
        first = record { is = (x.0, x.1); first = c.loop-number.invariant };
        named = refl;
        own = refl;
        other = x.0;
        from = x.1;
        its = x.2;
      },
    )

pub loop-number-preserved : goal.loop-number-preserved
loop-number-preserved c =
    let sys = system_of c.args.objects.now in
    let s = signature c.parts-parts.result.now.records c.index-bricks-number.result in
    let has = brick_here c.args.objects.now c.args.at c.index-objects-at.result c.parts-parts.result.now c.requires.there c.index-objects-at.is c.parts-parts.ensures.parts c.as_slice-bricks.result.now c.as_slice-bricks.ensures c.loop-number.number c.index-bricks-number.result c.loop-number-test.true c.index-bricks-number.is in
    let like : IsAlike sys s = rw c.in_default.is at c.in_ok-found.ensures in
    rw add-one (clear_step sys (Differs sys) (differs_is sys) (suc c.args.at) c.loop-number.number c.loop-number.invariant (alike_not sys (suc c.args.at) c.loop-number.number s has like))

pub returns-clause-ok : goal.returns-clause-ok
returns-clause-ok c =
    let sys = system_of c.args.objects.now in
    let is_end : c.loop-number.number ≡ length c.as_slice-bricks.result.now = omega arith in
    clear_end sys (Differs sys) (differs_is sys) (suc c.args.at) c.loop-number.number (signatures c.parts-parts.result.now)
    (module_here c.args.objects.now c.args.at c.index-objects-at.result c.parts-parts.result.now c.requires.there c.index-objects-at.is c.parts-parts.ensures.parts)
    (end_here c.args.objects.now c.args.at c.index-objects-at.result c.parts-parts.result.now c.requires.there c.index-objects-at.is c.parts-parts.ensures.parts c.as_slice-bricks.result.now c.as_slice-bricks.ensures c.loop-number.number is_end)
    c.loop-number.invariant
