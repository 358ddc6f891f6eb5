-- The locals of a procedure have modes that locals may have.
use Rattle.std.specs.Prelude.{◌≡◌, ℕ, true, nat_lt}
use Rattle.std.specs.List.{AllByRecursion, list_all}
use Rattle.rt_bricks.specs.declared.tree.ProcedureBrick.{ProcedureBrick}
use Rattle.rt_exprs.specs.declared.scope.Meaning.{Meaning}
use Rattle.rt_exprs.specs.declared.scope.Meaning.TheVariants as meaning
use Rattle.rt_tree.specs.Modules.{local_stands}
use Rattle.rt_exprs.specs.Sights.{Names, Sight}
use Rattle.rt_check_bodies.specs.Procedures.{procedure}
use Rattle.rt_bricks_laws.specs.Modes.{IsShallowProcedure}

-- a MODE is one of so many records
abbrev pub IsRecord : ℕ → Meaning → Type 0
IsRecord records (meaning.Mode r) = nat_lt r records ≡ true
IsRecord records _ = Unit {0}

abbrev pub LevelNames : ℕ → Names → Type 0
LevelNames records = AllByRecursion (λ x. IsRecord records x.1)

-- each MODE that may be named where a procedure stands
abbrev pub NamesRecords : ℕ → Sight → Type 0
NamesRecords records s = AllByRecursion (LevelNames records) s.levels

-- The locals, the parameters among them, may stand, whether or not the procedure has faults.
abbrev pub LocalsStand : Type 0
LocalsStand = (records : ℕ) (s : Sight) (b : ProcedureBrick) → IsShallowProcedure b → NamesRecords records s → list_all (local_stands records) (procedure s b).locals ≡ true
