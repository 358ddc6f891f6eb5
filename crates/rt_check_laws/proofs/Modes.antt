-- In the module of a text two modes of one full mode are one mode.
use Rattle.std.proofs.Common.{sym, ap, subst}
use Rattle.rt_modes.specs.FullMode.{FullMode}
use Rattle.rt_tree.specs.FullModes.{FullModesTell}
use Rattle.rt_tree.specs.Opened.{IsTable}
use Rattle.rt_tree_nodes.specs.declared.brick.ModuleParts.{ModuleParts}
use Rattle.rt_check_module_laws.specs.Tables.{RecordsAreTables}
use Rattle.rt_check_laws.specs.Laws.{FullModesAreModes}

pub full_modes_are_modes : RecordsAreTables → FullModesTell → FullModesAreModes
full_modes_are_modes tabled tell items m p a b text spelled typed left right =
    let table : IsTable p.modes = subst (λ (q : ModuleParts). IsTable q.modes) (sym typed.is) (tabled items m text spelled typed.fit) in
    (λ e. tell p.modes a b table.names table.apart left right e, λ e. ap (FullMode p.modes) e)
