use Rattle.std.proofs.Common.{rules, ◌≡◌, true, false, refl, arith}
use Rattle.std.proofs.lemmas.Grind.{common_steps}
use Rattle.rt_system.specs.ReadingSystems.{is_taken, has_room, said}
use Rattle.rt_system.proofs.SystemReads.{no_room, adds}
use Rattle.rt_system.proofs.SystemLimits.{has_names}
use Rattle.rt_system.proofs.SystemLineReads.{system_line_means}
use Rattle.rt_system.proofs.system.add_line.Goals as goal

pub returns-then-not-has_room-clause-bad : goal.returns-then-not-has_room-clause-bad
returns-then-not-has_room-clause-bad c =
    let taken : is_taken c.args.objects (said c.in-Some.said) ≡ true = first_of (search rules, grind (arith, common_steps)) in
    let full : has_room c.args.parts.now (said c.in-Some.said) ≡ false = first_of (search rules, grind (arith, common_steps)) in
    (refl, no_room c.args.objects c.args.parts.now c.args.line.now c.args.number (said c.in-Some.said) c.in-Some.ensures taken full)

pub push_line-requires : goal.push_line-requires
push_line-requires c = has_names c.args.line.now (said c.in-Some.said) (system_line_means c.args.line.now (said c.in-Some.said) c.in-Some.ensures)

pub returns-clause-ok : goal.returns-clause-ok
returns-clause-ok c =
    let taken : is_taken c.args.objects (said c.in-Some.said) ≡ true = first_of (search rules, grind (arith, common_steps)) in
    let room : has_room c.args.parts.now (said c.in-Some.said) ≡ true = first_of (search rules, grind (arith, common_steps)) in
    adds c.args.objects c.args.parts.now c.args.line.now c.args.number (said c.in-Some.said) c.push_line.new.parts c.requires c.in-Some.ensures taken room c.in_ok-push_line.ensures
