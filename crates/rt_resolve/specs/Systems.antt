-- What a system of modules is for the meaning: for each module where its numbers lead, and the trees of its procedures.
use Rattle.std.specs.Prelude.{ℕ, suc, ◌≤◌, ◌<◌, List, [], ◌∷◌, length, map, slice_get, Option, Some, None}
use Rattle.rt_tree_nodes.specs.declared.brick.Brick.{Brick}
use Rattle.rt_tree_nodes.specs.declared.brick.BrickSort.{BrickSort}
use Rattle.rt_tree_nodes.specs.declared.brick.BrickSort.TheVariants as sort
use Rattle.rt_tree_nodes.specs.declared.brick.ModuleParts.{ModuleParts}
use Rattle.rt_tree_nodes.specs.declared.brick.ProcBody.{ProcBody}
use Rattle.rt_tree_nodes.specs.Scopes.{scope_of, with_locals}
use Rattle.rt_tree_nodes.specs.Scopes.{Scope}
use Rattle.rt_tree.specs.Statements.{body_tree}
use Rattle.rt_resolve.specs.declared.code.Code.{Code as CodeNode}
use Rattle.rt_resolve.specs.declared.code.ModuleCode.{ModuleCode}
use Rattle.rt_work_state.specs.declared.scene.Env.{Env as EnvNode}
use Rattle.rt_work_state.specs.Nodes as n
use Rattle.rt_work_state.specs.Stores.{numbered}
use Rattle.rt_work_state.specs.Items.{Env}
use Rattle.rt_resolve.specs.World.{Code, World, code}
use Rattle.rt_resolve.specs.Bindings.{bounds}
use Rattle.rt_resolve.specs.Starting.{text_length}

-- a module: its number, to what each of its bricks is bound, the length of each of its strings, and for each brick its
-- tree, where it is a procedure with a body
pub record Resolved : Type 0 where
  pub env : EnvNode
  pub codes : List (Option Code)

-- ---- what modules are

abbrev pub procedure_code : Scope → ProcBody → Code
procedure_code c b = record { body = body_tree (with_locals c b.locals) b.body; size = length b.locals; most = b.most }

abbrev pub sort_code : Scope → BrickSort → Option Code
sort_code c (sort.Proc m (Some b)) = Some (procedure_code c b)
sort_code c _ = None

abbrev pub brick_code : Scope → Brick → Option Code
brick_code c b = sort_code c b.sort

abbrev pub env_of : List ModuleParts → ℕ → ModuleParts → EnvNode
env_of ps m p = record { «module» = m; bricks = bounds ps m p; texts = map text_length p.strings }

abbrev pub resolved : List ModuleParts → ℕ → ModuleParts → Resolved
resolved ps m p = record { env = env_of ps m p; codes = map (brick_code (scope_of p)) p.bricks }

-- the same of modules that count from m
abbrev pub all_from : List ModuleParts → ℕ → List ModuleParts → List Resolved
all_from ps m [] = []
all_from ps m (q ∷ qs) = resolved ps m q ∷ all_from ps (suc m) qs

-- the modules of a system
abbrev pub system : List ModuleParts → List Resolved
system ps = all_from ps 1 ps

-- whether the bricks of a module can be numbered in words
abbrev pub IsNumbered : ModuleParts → Type 0
IsNumbered p = length p.bricks ≤ 65536

abbrev pub IsOverfull : ModuleParts → Type 0
IsOverfull p = 65536 < length p.bricks

-- ---- what the tasks of a system read of it

abbrev pub env_in : Option Resolved → Env
env_in None = n.nowhere
env_in (Some r) = n.env r.env

abbrev pub code_in : Option (Option Code) → Option Code
code_in None = None
code_in (Some c) = c

abbrev pub codes_in : Option Resolved → ℕ → Option Code
codes_in None b = None
codes_in (Some r) b = code_in (slice_get r.codes b)

abbrev pub world_of : List Resolved → World
world_of rs = record { env = λ m. env_in (numbered rs m); code = λ f. codes_in (numbered rs f.module) f.brick }

-- the world of a system of these modules
abbrev pub world : List ModuleParts → World
world ps = world_of (system ps)

-- ---- what the code holds

abbrev pub code_held : Option CodeNode → Option Code
code_held None = None
code_held (Some c) = Some (code c)

abbrev pub held : ModuleCode → Resolved
held m = record { env = m.env; codes = map code_held m.codes }
