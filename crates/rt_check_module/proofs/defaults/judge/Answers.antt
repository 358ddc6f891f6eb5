use Rattle.std.proofs.Common.{rules, ◌≡◌, false, slice_get, refl, sym, ◌∙◌}
use Rattle.rt_check_module.specs.Defaults.{fields_have, listed}
use Rattle.rt_check_module.proofs.StartLevels.{found_none, one_less}
use Rattle.rt_check_module.proofs.defaults.judge.Goals as goal

pub returns-then-not-fields_have-clause-kept : goal.returns-then-not-fields_have-clause-kept
returns-then-not-fields_have-clause-kept c =
    let none : fields_have (listed c.args.known.now) (slice_get c.args.records.now c.args.number) ≡ false = search rules in
    found_none c.args.records.now c.args.known.now _ c.args.number c.requires.kept (sym c.is_listed.ensures ∙ c.if-is_listed.true) none refl

pub returns-then-not-fields_have-clause-still : goal.returns-then-not-fields_have-clause-still
returns-then-not-fields_have-clause-still c = one_less c.args.known.now c.args.number (sym c.is_listed.ensures ∙ c.if-is_listed.true)
