use Rattle.std.proofs.lemmas.Result.{err_from_is_err_and}
use Rattle.rt_compile.proofs.Answered.{passed_on}
use Rattle.rt_compile.proofs.text.object_parts.Goals as goal

pub returns-in_err-module-clause-only : goal.returns-in_err-module-clause-only
returns-in_err-module-clause-only c = λ t small is.
    let p = err_from_is_err_and c.from_residual.result c.from_residual.ensures.1 in
    passed_on t c.from_residual.result p.0 c.in_err-module.field-0.0 p.1 p.2 (c.in_err-module.ensures.only t small is)
