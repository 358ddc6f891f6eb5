use Rattle.std.proofs.Common.{◌≡◌, length, sym, ◌∙◌, arith, add-one}
use Rattle.std.proofs.lemmas.List.{length-map}
use Rattle.rt_match.specs.Matching as matching
use Rattle.rt_match.specs.Matching.{IsBound, Correspond, IsUnsupplied}
use Rattle.rt_match.specs.Signatures.{signatures, system_of}
use Rattle.rt_match.proofs.Walking.{clear_start, never_at, module_there}
use Rattle.rt_match.proofs.Asking.{known_once, unsupplied_is, correspond_more}
use Rattle.rt_match.proofs.bind.bind_all.Goals as goal

pub loop-at-init : goal.loop-at-init
loop-at-init c = let sys = system_of c.args.objects.now in record { bound = rw c.in_ok-of.ensures matching.none; clear = clear_start sys (IsUnsupplied sys) (unsupplied_is sys) }

pub loop-at-preserved : goal.loop-at-preserved
loop-at-preserved c =
    let sys = system_of c.args.objects.now in
    let there = module_there c.args.objects.now c.loop-at.at c.loop-at-test.true in
    record {
      bound = rw (add-one, c.in_ok-push.ensures.ok) (correspond_more (Correspond (IsBound sys)) sys c.loop-at.at c.loop-at.of there.0 c.in_ok-bound.bound there.1 c.loop-at.invariant.bound (c.in_ok-bound.ensures.ok.bound there.0 there.1));
      clear = rw add-one c.in_ok-bound.ensures.ok.clear;
    }

pub returns-clause-matched : goal.returns-clause-matched
returns-clause-matched c =
    let sys = system_of c.args.objects.now in
    let is_end : c.loop-at.at ≡ length c.args.objects.now = omega arith in
    record {
      one_entry = known_once sys c.args.entries.now c.requires.known;
      entries = c.requires.bindable.entries;
      alike = c.requires.bindable.alike;
      supplied = never_at sys (IsUnsupplied sys) (unsupplied_is sys) c.loop-at.at (is_end ∙ sym (length-map c.args.objects.now signatures)) c.loop-at.invariant.clear;
    }
