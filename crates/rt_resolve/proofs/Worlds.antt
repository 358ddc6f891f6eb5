-- The world of what the code holds is that of the modules that were resolved.
use Rattle.std.proofs.Common.{◌≡◌, ℕ, zero, suc, List, [], ◌∷◌, map, slice_get, Option, Some, None, true, false, Bool, ◌&&◌, refl, ap, subst, ◌∙◌}
use Rattle.std.proofs.Math.Path.{fun_ext}
use Rattle.std.specs.List.{list_all}
use Rattle.rt_tree_nodes.specs.declared.brick.ModuleParts.{ModuleParts}
use Rattle.rt_tree.specs.Modules.{every_node_fits, is_short}
use Rattle.rt_tree_nodes.specs.declared.store.Proc.{Proc}
use Rattle.rt_resolve.specs.declared.code.Code.{Code as CodeNode}
use Rattle.rt_resolve.specs.declared.code.ModuleCode.{ModuleCode}
use Rattle.rt_work_state.specs.Stores.{numbered}
use Rattle.rt_work_state.specs.Items.{Env}
use Rattle.rt_resolve.specs.World as w
use Rattle.rt_resolve.specs.World.{Code}
use Rattle.rt_resolve.specs.Systems as systems
use Rattle.rt_resolve.specs.Systems.{Resolved, held, code_held}

env_held : (ms : List ModuleCode) (m : ℕ) → w.env_in (numbered ms m) ≡ systems.env_in (numbered (map held ms) m)
env_held ms zero = refl
env_held [] (suc m) = refl
env_held (x ∷ ms) (suc zero) = refl
env_held (x ∷ ms) (suc (suc m)) = env_held ms (suc m)

code_there : (cs : List (Option CodeNode)) (b : ℕ) → w.code_in (slice_get cs b) ≡ systems.code_in (slice_get (map code_held cs) b)
code_there [] b = refl
code_there (None ∷ cs) zero = refl
code_there (Some c ∷ cs) zero = refl
code_there (c ∷ cs) (suc b) = code_there cs b

codes_held : (ms : List ModuleCode) (m b : ℕ) → w.codes_in (numbered ms m) b ≡ systems.codes_in (numbered (map held ms) m) b
codes_held ms zero b = refl
codes_held [] (suc m) b = refl
codes_held (x ∷ ms) (suc zero) b = code_there x.codes b
codes_held (x ∷ ms) (suc (suc m)) b = codes_held ms (suc m) b

abbrev world_by : (ℕ → Env) → (Proc → Option Code) → w.World
world_by e c = record { env = e; code = c }

pub world_held : (ms : List ModuleCode) → w.world ms ≡ systems.world_of (map held ms)
world_held ms =
    let envs : (λ m. w.env_in (numbered ms m)) ≡ (λ m. systems.env_in (numbered (map held ms) m)) = fun_ext (λ m. env_held ms m) in
    let codes : (λ f. w.codes_in (numbered ms f.module) f.brick) ≡ (λ f. systems.codes_in (numbered (map held ms) f.module) f.brick) = fun_ext (λ f. codes_held ms f.module f.brick) in
    ap (λ e. world_by e (λ f. w.codes_in (numbered ms f.module) f.brick)) envs ∙ ap (λ c. world_by (λ m. systems.env_in (numbered (map held ms) m)) c) codes

pub world_there : (ms : List ModuleCode) (rs : List Resolved) → map held ms ≡ rs → w.world ms ≡ systems.world_of rs
world_there ms rs h = subst (λ r. w.world ms ≡ systems.world_of r) h (world_held ms)

both_true : (a b : Bool) → a && b ≡ true → b ≡ true
both_true true b h = h
both_true false true h = refl
both_true false false h = h

pub strings_short : (p : ModuleParts) → every_node_fits p ≡ true → list_all is_short p.strings ≡ true
strings_short p h = both_true _ _ (both_true _ _ h)
