use Rattle.std.proofs.Common.{◌≡◌, Some, None, sym, ap, ◌∙◌, MatchOption}
use Rattle.rt_modes.specs.Bricks.{supplied_by}
use Rattle.rt_match.specs.Signatures.{signature, whose, system_of}
use Rattle.rt_match.specs.Walking.{entry_in, Compared, IsAlike, IsUnlike, supplied_as}
use Rattle.rt_match.proofs.Asking.{ok_map, alike_entry, alike_nowhere, alike_supplied, alike_unsupplied}
use Rattle.rt_match.proofs.alike.unlike.Goals as goal

pub brick_at-requires : goal.brick_at-requires
brick_at-requires c = let n = c.requires.found c.as_slice-name.result.now c.in-Some.entry (sym c.find.ensures ∙ c.in-Some.is) in (n.signature, n.is)

pub returns-in-Some : goal.returns-in-Some
returns-in-Some c =
    let sys = system_of c.args.objects.now in
    let s = signature c.args.table.now c.args.brick.now in
    let e = signature c.brick_at.result.0.now c.brick_at.result.1.now in
    let some : entry_in c.args.entries.now s.name ≡ Some c.in-Some.entry = ap (entry_in c.args.entries.now) (sym c.as_slice-name.ensures.bytes) ∙ (sym c.find.ensures ∙ c.in-Some.is) in
    ok_map (Compared s e) (λ found. MatchOption found (IsAlike sys s) (IsUnlike sys s)) c.unlike_entry.result
    (alike_entry sys s c.args.entries.now c.requires (ap whose c.in-Ext.is) c.in-Some.entry some e c.brick_at.ensures) c.unlike_entry.ensures

pub returns-in-None : goal.returns-in-None
returns-in-None c =
    let s = signature c.args.table.now c.args.brick.now in
    let none : entry_in c.args.entries.now s.name ≡ None = ap (entry_in c.args.entries.now) (sym c.as_slice-name.ensures.bytes) ∙ (sym c.find.ensures ∙ c.in-None.is) in
    alike_nowhere (system_of c.args.objects.now) s c.args.entries.now c.requires (ap whose c.in-Ext.is) none

pub returns-in-Some-named : goal.returns-in-Some-named
returns-in-Some-named c =
    let sys = system_of c.args.objects.now in
    let s = signature c.args.table.now c.args.brick.now in
    let some : supplied_by s.name ≡ Some c.in-Some-named.supplied = ap supplied_by (sym c.as_slice-name.ensures.bytes) ∙ (sym c.named.ensures ∙ c.in-Some-named.is) in
    ok_map (Compared s (supplied_as c.in-Some-named.supplied)) (λ found. MatchOption found (IsAlike sys s) (IsUnlike sys s)) c.unlike_supplied.result
    (alike_supplied sys s (ap whose c.in-Svc.is) c.in-Some-named.supplied some) c.unlike_supplied.ensures

pub returns-in-None-named : goal.returns-in-None-named
returns-in-None-named c =
    let s = signature c.args.table.now c.args.brick.now in
    let none : supplied_by s.name ≡ None = ap supplied_by (sym c.as_slice-name.ensures.bytes) ∙ (sym c.named.ensures ∙ c.in-None-named.is) in
    alike_unsupplied (system_of c.args.objects.now) s (ap whose c.in-Svc.is) none
