use Rattle.std.proofs.Common.{◌-◌, length, drop, sym, subst}
use Rattle.std.proofs.lemmas.List.{take_rest}
use Rattle.rt_modes.proofs.ModeReads.{right_mode}
use Rattle.rt_modes.proofs.Spelled.{stands_fits}
use Rattle.rt_modes.specs.Spelling.{mode_format, RefusedAt}
use Rattle.rt_object.proofs.modes.read_front_mode.Goals as goal

pub returns-in-Ok : goal.returns-in-Ok
returns-in-Ok c =
    let records = c.args.records in
    let bytes = c.args.bytes.now in
    let stands = c.in-Ok.ensures.found in
    rw (take_rest bytes c.in-Ok.end) ((right_mode records).complete bytes (drop c.in-Ok.end bytes) c.in-Ok.mode
    (subst (λ t. (mode_format records).Fits t (drop c.in-Ok.end bytes) c.in-Ok.mode) (sym stands.spelled) (stands_fits records (drop c.in-Ok.end bytes) c.in-Ok.mode stands.stands)))

pub returns-in-Err-BadMode : goal.returns-in-Err-BadMode
returns-in-Err-BadMode c =
    let refused : RefusedAt c.args.records c.args.bytes.now 0 c.in-Err-BadMode.at = rw c.in-Err-BadMode.field-0-is at c.in-Err-BadMode.ensures.refused in
    (right_mode c.args.records).refused c.args.bytes.now (length c.args.bytes.now - c.in-Err-BadMode.at) refused.refused
