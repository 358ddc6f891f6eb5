use Rattle.std.proofs.Common.{subst}
use Rattle.rt_object.specs.Known.{IsFirst}
use Rattle.rt_object_ranges.proofs.records.none_is_bad.Goals as goal

pub returns-in-Some : goal.returns-in-Some
returns-in-Some c =
    let first = subst (IsFirst c.args.records.now) c.in-Some.is c.in_ok-first_bad.ensures in
    (λ e. absurd cc, λ h. absurd (h c.in-Some.field-0 first.there first.bad))
