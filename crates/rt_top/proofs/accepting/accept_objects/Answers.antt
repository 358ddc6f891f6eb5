use Rattle.std.proofs.Common.{◌∙◌, ap, List, length, subst, ◌≤◌, arith}
use Rattle.rt_system.specs.declared.parts.Entry.{Entry}
use Rattle.rt_accept.specs.Systems.{HaveEntries}
use Rattle.rt_top.proofs.accepting.accept_objects.Goals as goal

pub returns-in-Ok-clause-few : goal.returns-in-Ok-clause-few
returns-in-Ok-clause-few g c =
    let places = c.objects_have_their_places.ensures (g.S.Store.files c.args.store.now) c.entries.result.now c.in-Ok.objects c.in-Ok.ensures.ok in
    let many = ap (λ (es : List Entry). length es) c.entries.ensures.entries in
    omega (arith, places.one_each, many, c.entries.ensures.ranges.limits.few_entries)
