-- The modules of a system as the meaning reads them: where a module's own numbers lead, and the code of its procedures.
use Rattle.std.specs.Prelude.{ℕ, List, slice_get, Option, Some, None}
use Rattle.rt_tree_nodes.specs.declared.store.Proc.{Proc}
use Rattle.rt_tree_nodes.specs.Tree.{Seq}
use Rattle.rt_resolve.specs.declared.code.Code.{Code as CodeNode}
use Rattle.rt_resolve.specs.declared.code.ModuleCode.{ModuleCode}
use Rattle.rt_work_state.specs.Stores.{numbered}
use Rattle.rt_work_state.specs.Nodes as n
use Rattle.rt_work_state.specs.Items.{Env}

-- a procedure that has a body
pub record Code : Type 0 where
  pub body : Seq
  pub size : ℕ  -- how many locals, parameters among them
  pub most : ℕ  -- the bound of its recursion; 0 where it has none

pub record World : Type 0 where
  pub env : ℕ → Env  -- of a module
  pub code : Proc → Option Code

-- ---- what the code holds of them

abbrev pub code : CodeNode → Code
code c = record { body = n.seq c.body; size = c.size; most = c.most }

abbrev pub code_in : Option (Option CodeNode) → Option Code
code_in None = None
code_in (Some None) = None
code_in (Some (Some c)) = Some (code c)

abbrev pub codes_in : Option ModuleCode → ℕ → Option Code
codes_in None b = None
codes_in (Some m) b = code_in (slice_get m.codes b)

abbrev pub env_in : Option ModuleCode → Env
env_in None = n.nowhere
env_in (Some m) = n.env m.env

abbrev pub world : List ModuleCode → World
world ms = record { env = λ m. env_in (numbered ms m); code = λ f. codes_in (numbered ms f.module) f.brick }
