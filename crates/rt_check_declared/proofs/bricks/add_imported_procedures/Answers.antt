use Rattle.rt_exprs.specs.Names.{find_in}
use Rattle.rt_check_declared.specs.declared.site.Site.TheVariants as site
use Rattle.rt_check_declared.specs.Written.{written}
use Rattle.rt_check_declared.proofs.HeadingSteps.{noted_line}
use Rattle.rt_check_declared.proofs.bricks.add_imported_procedures.Goals as goal

pub returns-clause-fault : goal.returns-clause-fault
returns-clause-fault c =
    noted_line (written (find_in c.args.levels.now) c.args.procedures.now.mode site.Variable) c.in_ok-line.line c.as_slice.result.now c.args.procedures.now.names c.args.found.now.fault c.note_line.new.faults c.in_ok-line.ensures c.as_slice.ensures c.note_line.ensures
