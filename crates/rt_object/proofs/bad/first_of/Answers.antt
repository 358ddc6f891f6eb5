use Rattle.std.proofs.Common.{sym, ◌∙◌, arith}
use Rattle.rt_object.proofs.Decided.{none_more}
use Rattle.rt_object.proofs.KnownSizes.{found_bad, none_found}
use Rattle.rt_object.proofs.bad.first_of.Goals as goal

pub returns-then-is_found : goal.returns-then-is_found
returns-then-is_found c = record {
  there = omega arith;
  bad = found_bad c.args.records.now c.args.sizes.now c.requires.sizes c.loop-number.number c.args.ring c.requires.ring (sym c.is_found.ensures ∙ c.if-is_found.true);
  none_before = c.loop-number.invariant;
}

pub loop-number-preserved : goal.loop-number-preserved
loop-number-preserved c = none_more c.args.records.now c.loop-number.number c.loop-number.invariant
    (none_found c.args.records.now c.args.sizes.now c.requires.sizes c.loop-number.number c.args.ring c.requires.ring c.loop-number.invariant (sym c.is_found.ensures ∙ c.if-is_found.false))

pub returns : goal.returns
returns c = λ k below bad. c.loop-number.invariant k (omega arith) bad
