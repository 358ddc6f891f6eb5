use Rattle.rt_check_declared.proofs.Large.{passing_of}
use Rattle.rt_check_declared.proofs.totals.passing_item.Goals as goal

pub returns-in-Some : goal.returns-in-Some
returns-in-Some c t sizes =
    passing_of t c.args.fields.now c.in-Some.fields c.as_slice.result.now c.passing_field.result c.in-Some.is c.as_slice.ensures (c.passing_field.ensures.passes t sizes) (c.passing_field.ensures.only t sizes)
