use Rattle.std.proofs.Common.{refl}
use Rattle.rt_modes.proofs.PartsLeft.{with_first}
use Rattle.rt_modes.proofs.spell.spell_behind.Goals as goal

pub returns-in_ok-spell_head-in-Some-clause-ok : goal.returns-in_ok-spell_head-in-Some-clause-ok
returns-in_ok-spell_head-in-Some-clause-ok c =
    with_first _ _ _ c.args.answer.now _ c.args.parts.now c.push.new.self _ _ _ c.in-Some.ensures.cases.0 refl c.in_ok-push-in-Some.ensures.ok c.in_ok-spell_head-in-Some.ensures.ok
