use Rattle.rt_compile.proofs.Apart.{is_object}
use Rattle.rt_compile.proofs.parts.parts_by.Goals as goal

pub returns-clause-object : goal.returns-clause-object
returns-clause-object c = is_object c.args.layouts.now _ _ _ _ c.in_ok-code.ensures.short c.in_ok-code.ensures.code c.in_ok-bricks.ensures c.in_ok-joined.ensures
