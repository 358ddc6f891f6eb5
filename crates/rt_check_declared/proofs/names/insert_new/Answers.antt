use Rattle.std.proofs.Common.{refl, ap, ◌∙◌}
use Rattle.rt_check_declared.specs.Names.{find}
use Rattle.rt_check_declared.specs.Naming.{plain}
use Rattle.rt_check_declared.proofs.Tables.{insert_plain, not_there}
use Rattle.rt_check_declared.proofs.names.insert_new.Goals as goal

pub returns-in-Ok : goal.returns-in-Ok
returns-in-Ok c = ap plain c.in-Ok.ensures.entries ∙ insert_plain _ c.args.name c.args.is (λ e. refl) c.args.table.now.entries (not_there (find (plain c.args.table.now.entries) c.args.name.now) c.requires)
