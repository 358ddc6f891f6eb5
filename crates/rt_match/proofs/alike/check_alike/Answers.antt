use Rattle.std.proofs.Common.{◌≡◌, length, sym, ◌∙◌, arith, add-one}
use Rattle.std.proofs.lemmas.List.{length-map}
use Rattle.rt_match.specs.Matching.{Differs}
use Rattle.rt_match.specs.Signatures.{signatures, system_of}
use Rattle.rt_match.proofs.Walking.{never_at}
use Rattle.rt_match.proofs.Asking.{differs_is}
use Rattle.rt_match.proofs.alike.check_alike.Goals as goal

pub loop-at-preserved : goal.loop-at-preserved
loop-at-preserved c = rw add-one c.in_ok-check_module.ensures.ok

pub returns-clause-ok : goal.returns-clause-ok
returns-clause-ok c =
    let sys = system_of c.args.objects.now in
    let is_end : c.loop-at.at ≡ length c.args.objects.now = omega arith in
    never_at sys (Differs sys) (differs_is sys) c.loop-at.at (is_end ∙ sym (length-map c.args.objects.now signatures)) c.loop-at.invariant
