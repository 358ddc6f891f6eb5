use Rattle.std.proofs.Common.{◌≡◌, suc, length, sym, ap, ◌∙◌, arith, add-one}
use Rattle.rt_match.specs.Matching as matching
use Rattle.rt_match.specs.Matching.{Signature, IsBound, Correspond, IsUnsupplied}
use Rattle.rt_match.specs.Signatures.{signature, signatures, system_of}
use Rattle.rt_match.proofs.Walking.{module_here, brick_here, end_here, has_at, some_one, clear_step, clear_end}
use Rattle.rt_match.proofs.Asking.{known_once, unsupplied_here, unsupplied_not, unsupplied_is, bound_is, correspond_more, correspond_all}
use Rattle.rt_match.proofs.bind.bind_module.Goals as goal

pub loop-number-init : goal.loop-number-init
loop-number-init c = record { bound = λ ss e. rw c.in_ok-bound.ensures matching.none; clear = c.requires.clear }

pub returns-in-None-clause-err : goal.returns-in-None-clause-err
returns-in-None-clause-err c =
    let sys = system_of c.args.objects.now in
    let has = brick_here c.args.objects.now c.args.at c.index-objects-at.result c.parts.result.now c.requires.there c.index-objects-at.is c.parts.ensures.parts c.as_slice-bricks.result.now c.as_slice-bricks.ensures c.loop-number.number c.index-bricks-number.result c.loop-number-test.true c.index-bricks-number.is in
    let case = unsupplied_here sys c.args.entries.now c.requires.known (suc c.args.at) c.loop-number.number c.parts.result.now.records c.index-bricks-number.result has c.requires.bindable.entries (sym c.binding.ensures ∙ c.in-None.is) in
    rw add-one (
      known_once sys c.args.entries.now c.requires.known,
      c.requires.bindable.entries,
      c.requires.bindable.alike,
      record {
        brick = c.loop-number.number;
        signature = signature c.parts.result.now.records c.index-bricks-number.result;
        first = record { is = case; first = c.loop-number.invariant.clear };
        named = c.in_ok-copy-in-None.ensures;
      },
    )

pub loop-number-preserved : goal.loop-number-preserved
loop-number-preserved c =
    let sys = system_of c.args.objects.now in
    let s = signature c.parts.result.now.records c.index-bricks-number.result in
    let has = brick_here c.args.objects.now c.args.at c.index-objects-at.result c.parts.result.now c.requires.there c.index-objects-at.is c.parts.ensures.parts c.as_slice-bricks.result.now c.as_slice-bricks.ensures c.loop-number.number c.index-bricks-number.result c.loop-number-test.true c.index-bricks-number.is in
    let is : IsBound sys s c.in-Some.to = bound_is sys c.args.entries.now c.requires.known (suc c.args.at) c.loop-number.number c.parts.result.now.records c.index-bricks-number.result has c.in-Some.to (sym c.binding.ensures ∙ c.in-Some.is) in
    let none = unsupplied_not sys c.args.entries.now c.requires.known (suc c.args.at) c.loop-number.number c.parts.result.now.records c.index-bricks-number.result has c.in-Some.to (sym c.binding.ensures ∙ c.in-Some.is) in
    record {
      bound = λ ss e. rw (add-one, c.in_ok-push-in-Some.ensures.ok) (correspond_more (IsBound sys) ss c.loop-number.number c.loop-number.bound s c.in-Some.to (has_at sys (suc c.args.at) c.loop-number.number s ss has e) (c.loop-number.invariant.bound ss e) is);
      clear = rw add-one (clear_step sys (IsUnsupplied sys) (unsupplied_is sys) (suc c.args.at) c.loop-number.number c.loop-number.invariant.clear none);
    }

pub returns-clause-ok : goal.returns-clause-ok
returns-clause-ok c =
    let sys = system_of c.args.objects.now in
    let is_end : c.loop-number.number ≡ length c.as_slice-bricks.result.now = omega arith in
    let of = module_here c.args.objects.now c.args.at c.index-objects-at.result c.parts.result.now c.requires.there c.index-objects-at.is c.parts.ensures.parts in
    let end = end_here c.args.objects.now c.args.at c.index-objects-at.result c.parts.result.now c.requires.there c.index-objects-at.is c.parts.ensures.parts c.as_slice-bricks.result.now c.as_slice-bricks.ensures c.loop-number.number is_end in
    record {
      bound = λ ss e. correspond_all (IsBound sys) ss c.loop-number.number c.loop-number.bound (end ∙ ap length (some_one (signatures c.parts.result.now) ss (sym of ∙ e))) (c.loop-number.invariant.bound ss e);
      clear = clear_end sys (IsUnsupplied sys) (unsupplied_is sys) (suc c.args.at) c.loop-number.number (signatures c.parts.result.now) of end c.loop-number.invariant.clear;
    }
