-- The laws of resolved systems: whose code a procedure has, and where the numbers of a module lead.
use Rattle.std.specs.Prelude.{◌≡◌, ℕ, List, length, Option, Some, None, slice_get}
use Rattle.rt_modes.specs.declared.mode.Mode.{Mode}
use Rattle.rt_tree_nodes.specs.declared.brick.Brick.{Brick}
use Rattle.rt_tree_nodes.specs.declared.brick.BrickSort.TheVariants as sort
use Rattle.rt_tree_nodes.specs.declared.brick.Kind.TheVariants as kind
use Rattle.rt_tree_nodes.specs.declared.brick.ModuleParts.{ModuleParts}
use Rattle.rt_tree_nodes.specs.declared.brick.ProcBody.{ProcBody}
use Rattle.rt_tree_nodes.specs.declared.store.Proc.{Proc}
use Rattle.rt_tree_nodes.specs.Scopes.{scope_of}
use Rattle.rt_tree.specs.Stored.{System, HasBrick, StandsFor, brick, module_of}
use Rattle.rt_work_state.specs.Stores.{supplied}
use Rattle.rt_work_state.specs.Items.{Env}
use Rattle.rt_resolve.specs.Bindings.{bound}
use Rattle.rt_resolve.specs.Matching.{Matched}
use Rattle.rt_resolve.specs.Systems.{brick_code, world}

-- ---- code

-- The code of a procedure is made of its own brick, in the sight of its own module, whatever the other modules are.
abbrev pub CodeIsItsModules : Type 0
CodeIsItsModules = (ps : System) (m b : ℕ) (p : ModuleParts) (d : Brick) → HasBrick ps m b p d → (world ps).code (brick m b) ≡ brick_code (scope_of p) d

-- A supplied procedure has none.
abbrev pub SuppliedHaveNone : Type 0
SuppliedHaveNone = (ps : System) (k : ℕ) → (world ps).code (supplied k) ≡ None

-- What is no brick of the system has none.
abbrev pub OthersHaveNone : Type 0
OthersHaveNone = (ps : System) (m b : ℕ) → ((p : ModuleParts) (d : Brick) → HasBrick ps m b p d → ⊥) → (world ps).code (brick m b) ≡ None

-- ---- environments

-- an environment is module m of the system, which is p: its number, to what its bricks are bound, and the lengths of its strings
pub record IsBound (ps : System) (m : ℕ) (p : ModuleParts) (e : Env) : Type 0 where
  pub number : e.number ≡ m
  pub leads : (b : ℕ) (d : Brick) → slice_get p.bricks b ≡ Some d → e.leads b ≡ bound ps m b d
  pub lengths : (k : ℕ) (text : List ℕ) → slice_get p.strings k ≡ Some text → e.lengths k ≡ length text

abbrev pub EnvironmentsAreBindings : Type 0
EnvironmentsAreBindings = (ps : System) (m : ℕ) (p : ModuleParts) → module_of ps m ≡ Some p → IsBound ps m p ((world ps).env m)

-- The name of a brick leads somewhere: that of SVC data, of which each task has its own, doesn't.
abbrev pub Leads : Brick → Type 0
Leads d = d.kind ≡ kind.Svc → (w : Mode) × (body : Option ProcBody) × (d.sort ≡ sort.Proc w body)

-- Where modules match, the name of each brick leads to what it stands for.
abbrev pub NamesLead : Type 0
NamesLead = (ps : System) (m b : ℕ) (p : ModuleParts) (d : Brick) → Matched ps → HasBrick ps m b p d → Leads d → StandsFor ps m b (((world ps).env m).leads b)

-- It leads nowhere else.
abbrev pub NamesLeadThereAlone : Type 0
NamesLeadThereAlone = (ps : System) (m b : ℕ) (f : Proc) → Matched ps → StandsFor ps m b f → ((world ps).env m).leads b ≡ f
