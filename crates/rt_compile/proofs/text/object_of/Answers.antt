use Rattle.std.proofs.Common.{subst}
use Rattle.std.proofs.lemmas.Result.{err_from_is_err_and}
use Rattle.rt_compile.specs.Texts.{IsObjectOfText}
use Rattle.rt_compile.proofs.Answered.{same_fault, same_parts}
use Rattle.rt_compile.proofs.text.object_of.Goals as goal

pub returns-in_err-parts-clause-only : goal.returns-in_err-parts-clause-only
returns-in_err-parts-clause-only c = λ t small is.
    let p = err_from_is_err_and c.from_residual.result c.from_residual.ensures.1 in
    same_fault c.from_residual.result p.0 c.in_err-parts.field-0.0 p.1 p.2 (c.in_err-parts.ensures.only t small is)

pub returns-in-Some-clause-object : goal.returns-in-Some-clause-object
returns-in-Some-clause-object c = λ small.
    subst (IsObjectOfText c.args.text.now)
    (same_parts c.in_ok-parts.parts c.in-Some.object c.in_ok-object.field-0 c.in_ok-object.ensures c.in-Some.is)
    (c.in_ok-parts.ensures.object small)
