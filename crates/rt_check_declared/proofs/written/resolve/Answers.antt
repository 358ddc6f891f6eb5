use Rattle.rt_exprs.specs.Names.{find_in}
use Rattle.rt_check_declared.specs.Written as spec
use Rattle.rt_check_declared.proofs.Least.{answer_fits, answer_only, answer_counts}
use Rattle.rt_check_declared.proofs.written.resolve.Goals as goal

pub returns : goal.returns
returns c =
    let w = spec.written (find_in c.args.levels.now) c.args.written.now c.args.site in
    record { fits = answer_fits w c.resolve_counted.result c.resolve_counted.ensures; only = answer_only w c.resolve_counted.result c.resolve_counted.ensures; fault = answer_counts w c.resolve_counted.result c.resolve_counted.ensures; value = c.resolve_counted.ensures }
