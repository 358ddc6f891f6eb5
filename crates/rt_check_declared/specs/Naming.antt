-- The scope of a module while its names are gathered, as the code keeps it.
use Rattle.std.specs.Prelude.{ℕ, ◌+◌, if◌then◌else◌, List, [], ◌∷◌, ◌++◌, map, Option, None}
use denote.Bor.{Bor}
use Rattle.rt_bricks.specs.declared.tree.Declaration.{Declaration}
use Rattle.rt_check_faults.specs.declared.fault.CheckFault.{CheckFault}
use Rattle.rt_check_faults.specs.declared.fault.CheckFault.TheVariants as fault
use Rattle.rt_check_declared.specs.Verdicts.{with_fault}
use Rattle.rt_check_declared.specs.declared.names.Declared.{Declared}
use Rattle.rt_check_declared.specs.declared.names.ModuleNames.{ModuleNames}
use Rattle.rt_check_declared.specs.declared.names.Numbers.{Numbers}
use Rattle.rt_check_declared.specs.Names.{Named, Known, is_second, records_in, bricks_in}

pub record State : Type 0 where
  pub known : Known
  pub fault : Option CheckFault

abbrev pub plain_entry : Bor (List ℕ) × Declared → List ℕ × Declared
plain_entry e = (e.0.now, e.1)

abbrev pub plain : List (Bor (List ℕ) × Declared) → Known
plain es = map plain_entry es

abbrev pub state : ModuleNames → State
state n = record { known = plain n.table.entries; fault = n.fault }

abbrev pub add : State → Named → State
add s m = if is_second s.known m then record { known = s.known; fault = with_fault s.fault (fault.DeclaredTwice m.at) } else record { known = s.known ++ (m.name, m.is) ∷ []; fault = s.fault }

unfoldable pub add_all : State → List Named → State
add_all s [] = s
add_all s (m ∷ ms) = add_all (add s m) ms

abbrev pub none_yet : State
none_yet = record { known = []; fault = None }

-- the numbers behind a declaration
abbrev pub behind : Numbers → Declaration → Numbers
behind n d = record { records = n.records + records_in d; bricks = n.bricks + bricks_in d }
