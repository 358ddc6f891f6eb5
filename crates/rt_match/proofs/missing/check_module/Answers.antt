use Rattle.std.proofs.Common.{◌≡◌, suc, length, sym, ◌∙◌, arith, add-one}
use Rattle.rt_match.specs.Matching.{Lacks}
use Rattle.rt_match.specs.Signatures.{signature, signatures, system_of}
use Rattle.rt_match.proofs.Walking.{module_here, brick_here, end_here, clear_step, clear_end}
use Rattle.rt_match.proofs.Asking.{known_once, lacks_here, lacks_not, lacks_is}
use Rattle.rt_match.proofs.missing.check_module.Goals as goal

pub returns-then-is_missing-clause-err : goal.returns-then-is_missing-clause-err
returns-then-is_missing-clause-err c =
    let sys = system_of c.args.objects.now in
    let has = brick_here c.args.objects.now c.args.at c.index-objects-at.result c.parts.result.now c.requires.there c.index-objects-at.is c.parts.ensures.parts c.as_slice-bricks.result.now c.as_slice-bricks.ensures c.loop-number.number c.index-bricks-number.result c.loop-number-test.true c.index-bricks-number.is in
    let case = lacks_here sys c.args.entries.now c.requires.known (suc c.args.at) c.loop-number.number c.parts.result.now.records c.index-bricks-number.result has (sym c.is_missing.ensures ∙ c.if-is_missing.true) in
    rw add-one (
      known_once sys c.args.entries.now c.requires.known,
      record {
        brick = c.loop-number.number;
        signature = signature c.parts.result.now.records c.index-bricks-number.result;
        first = record { is = case; first = c.loop-number.invariant };
        named = c.in_ok-copy.ensures;
      },
    )

pub loop-number-preserved : goal.loop-number-preserved
loop-number-preserved c =
    let sys = system_of c.args.objects.now in
    let has = brick_here c.args.objects.now c.args.at c.index-objects-at.result c.parts.result.now c.requires.there c.index-objects-at.is c.parts.ensures.parts c.as_slice-bricks.result.now c.as_slice-bricks.ensures c.loop-number.number c.index-bricks-number.result c.loop-number-test.true c.index-bricks-number.is in
    let none = lacks_not sys c.args.entries.now c.requires.known (suc c.args.at) c.loop-number.number c.parts.result.now.records c.index-bricks-number.result has (sym c.is_missing.ensures ∙ c.if-is_missing.false) in
    rw add-one (clear_step sys (Lacks sys) (lacks_is sys) (suc c.args.at) c.loop-number.number c.loop-number.invariant none)

pub returns-clause-ok : goal.returns-clause-ok
returns-clause-ok c =
    let sys = system_of c.args.objects.now in
    let is_end : c.loop-number.number ≡ length c.as_slice-bricks.result.now = omega arith in
    clear_end sys (Lacks sys) (lacks_is sys) (suc c.args.at) c.loop-number.number (signatures c.parts.result.now)
    (module_here c.args.objects.now c.args.at c.index-objects-at.result c.parts.result.now c.requires.there c.index-objects-at.is c.parts.ensures.parts)
    (end_here c.args.objects.now c.args.at c.index-objects-at.result c.parts.result.now c.requires.there c.index-objects-at.is c.parts.ensures.parts c.as_slice-bricks.result.now c.as_slice-bricks.ensures c.loop-number.number is_end)
    c.loop-number.invariant
