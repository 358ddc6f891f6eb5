-- The modules of a system as they are resolved.
use Rattle.std.proofs.Common.{◌≡◌, ℕ, zero, suc, ◌+◌, true, List, [], ◌∷◌, map, length, Option, Some, None, slice_get, refl, sym, ap, ◌∙◌, subst, arith}
use Rattle.rt_modes.specs.declared.mode.Mode.{Mode}
use Rattle.rt_tree_nodes.specs.declared.brick.Brick.{Brick}
use Rattle.rt_tree_nodes.specs.declared.brick.BrickSort.TheVariants as sort
use Rattle.rt_tree_nodes.specs.declared.brick.Kind.{Kind}
use Rattle.rt_tree_nodes.specs.declared.brick.Kind.TheVariants as kind
use Rattle.rt_tree_nodes.specs.declared.brick.ModuleParts.{ModuleParts}
use Rattle.rt_tree_nodes.specs.declared.brick.ProcBody.{ProcBody}
use Rattle.rt_tree_nodes.specs.declared.store.Proc.{Proc}
use Rattle.rt_tree_nodes.specs.Scopes.{scope_of}
use Rattle.rt_tree.specs.Modules.{is_here}
use Rattle.rt_tree.specs.Stored as s
use Rattle.rt_tree.specs.Stored.{System, HasBrick, StandsFor, brick, module_of}
use Rattle.rt_work_state.specs.Nodes as n
use Rattle.rt_work_state.specs.Nodes.{proc_in, length_in}
use Rattle.rt_work_state.specs.Stores.{numbered}
use Rattle.rt_work_state.specs.Items.{Env}
use Rattle.rt_resolve.specs.Bindings.{bound, bound_by, proc_or_none}
use Rattle.rt_resolve.specs.Starting.{text_length}
use Rattle.rt_resolve.specs.Systems.{Resolved, resolved, all_from, system, world, env_in, env_of, code_in, codes_in, brick_code, sort_code, procedure_code}
use Rattle.rt_resolve_laws.specs.Owned.{IsBound, CodeIsItsModules, SuppliedHaveNone, OthersHaveNone, EnvironmentsAreBindings, NamesLead, NamesLeadThereAlone}
use Rattle.rt_resolve_laws.proofs.Names.{number_of_name}
use Rattle.rt_resolve_laws.proofs.Links.{number_is, from_one, entry_is, bound_stands, brick_bound}

-- ---- the world of a system

resolved_at : (ps : List ModuleParts) (m : ℕ) (qs : List ModuleParts) (j i : ℕ) (q : ModuleParts) → slice_get qs j ≡ Some q → i ≡ m + j → slice_get (all_from ps m qs) j ≡ Some (resolved ps i q)
resolved_at ps m [] j i q e h = absurd cc
resolved_at ps m (x ∷ qs) zero i q e h =
    let same : x ≡ q = cc in
    let num : m ≡ i = omega arith in
    ap (λ (y : ModuleParts). Some (resolved ps m y)) same ∙ ap (λ (j : ℕ). Some (resolved ps j q)) num
resolved_at ps m (x ∷ qs) (suc j) i q e h = resolved_at ps (suc m) qs j i q e (omega arith)

module_resolved : (ps : System) (m : ℕ) (p : ModuleParts) → module_of ps m ≡ Some p → numbered (system ps) m ≡ Some (resolved ps m p)
module_resolved ps m p e =
    let k = number_is m ps p e in
    ap (numbered (system ps)) k.1 ∙ resolved_at ps 1 ps k.0 m p k.2 (from_one m k.0 k.1)

code_at : (p : ModuleParts) (bs : List Brick) (b : ℕ) (d : Brick) → slice_get bs b ≡ Some d → code_in (slice_get (map (brick_code (scope_of p)) bs) b) ≡ brick_code (scope_of p) d
code_at p [] b d e = absurd cc
code_at p (x ∷ bs) zero d e = let same : x ≡ d = cc in ap (brick_code (scope_of p)) same
code_at p (x ∷ bs) (suc b) d e = code_at p bs b d e

pub env_is : (ps : System) (m : ℕ) (p : ModuleParts) → module_of ps m ≡ Some p → (world ps).env m ≡ n.env (env_of ps m p)
env_is ps m p e = ap env_in (module_resolved ps m p e)

pub code_is : (ps : System) {m b : ℕ} {p : ModuleParts} {d : Brick} (v : Mode) (body : ProcBody) → HasBrick ps m b p d → d.sort ≡ sort.Proc v (Some body) → (world ps).code (brick m b) ≡ Some (procedure_code (scope_of p) body)
code_is ps {m} {b} {p} {d} v body h e =
    ap (λ (o : Option Resolved). codes_in o b) (module_resolved ps m p h.of) ∙ code_at p p.bricks b d h.at ∙ ap (sort_code (scope_of p)) e

-- ---- code

pub code_is_its_modules : CodeIsItsModules
code_is_its_modules ps m b p d h = ap (λ (o : Option Resolved). codes_in o b) (module_resolved ps m p h.of) ∙ code_at p p.bricks b d h.at

pub supplied_have_none : SuppliedHaveNone
supplied_have_none ps k = refl

no_code : (p : ModuleParts) (bs : List Brick) (b : ℕ) → ((d : Brick) → slice_get bs b ≡ Some d → ⊥) → code_in (slice_get (map (brick_code (scope_of p)) bs) b) ≡ None
no_code p [] b h = refl
no_code p (x ∷ bs) zero h = absurd (h x refl)
no_code p (x ∷ bs) (suc b) h = no_code p bs b h

none_resolved : (ps : List ModuleParts) (m : ℕ) (qs : List ModuleParts) (j : ℕ) → slice_get qs j ≡ None → slice_get (all_from ps m qs) j ≡ None
none_resolved ps m [] j e = refl
none_resolved ps m (x ∷ qs) zero e = absurd cc
none_resolved ps m (x ∷ qs) (suc j) e = none_resolved ps (suc m) qs j e

no_module : (ps : System) (m : ℕ) → module_of ps m ≡ None → numbered (system ps) m ≡ None
no_module ps zero e = refl
no_module ps (suc m) e = none_resolved ps 1 ps m e

pub others_have_none : OthersHaveNone
others_have_none ps m b h = by_module (module_of ps m) refl
  where
    by_module : (o : Option ModuleParts) → module_of ps m ≡ o → (world ps).code (brick m b) ≡ None
    by_module None e = ap (λ (o : Option Resolved). codes_in o b) (no_module ps m e)
    by_module (Some p) e = ap (λ (o : Option Resolved). codes_in o b) (module_resolved ps m p e) ∙ no_code p p.bricks b (λ d g. h p d (record { of = e; at = g }))

-- ---- environments

long : (xs : List (List ℕ)) (k : ℕ) (text : List ℕ) → slice_get xs k ≡ Some text → slice_get (map text_length xs) k ≡ Some (length text)
long [] k text e = absurd cc
long (x ∷ xs) zero text e = let same : x ≡ text = cc in ap (λ (y : List ℕ). Some (length y)) same
long (x ∷ xs) (suc k) text e = long xs k text e

bound_env : (ps : System) (m : ℕ) (p : ModuleParts) → IsBound ps m p (n.env (env_of ps m p))
bound_env ps m p = record {
  number = refl;
  leads = λ b d e. ap proc_in (brick_bound ps m b p d e);
  lengths = λ k text e. ap length_in (long p.strings k text e);
}

pub environments_are_bindings : EnvironmentsAreBindings
environments_are_bindings ps m p of = subst (λ (e : Env). IsBound ps m p e) (sym (env_is ps m p of)) (bound_env ps m p)

bound_at : (ps : System) (m b : ℕ) (p : ModuleParts) (d : Brick) → HasBrick ps m b p d → ((world ps).env m).leads b ≡ bound ps m b d
bound_at ps m b p d h = (environments_are_bindings ps m p h.of).leads b d h.at

pub names_lead : NamesLead
names_lead ps m b p d fits h leads = subst (λ (f : Proc). StandsFor ps m b f) (sym (bound_at ps m b p d h)) (bound_stands ps fits h leads)

-- to what a brick of a kind is bound
here_bound : (ps : System) (m b : ℕ) (d : Brick) → is_here d.kind ≡ true → bound ps m b d ≡ brick m b
here_bound ps m b d e = by_kind d.kind e
  where
    by_kind : (k : Kind) → is_here k ≡ true → bound_by k ps m b d.name ≡ brick m b
    by_kind kind.Own e = refl
    by_kind kind.Ent e = refl
    by_kind kind.Ext e = absurd cc
    by_kind kind.Svc e = absurd cc

pub names_lead_alone : NamesLeadThereAlone
names_lead_alone ps m b _ fits (s.itself {p = p} {d = d} h here) = bound_at ps m b p d h ∙ here_bound ps m b d here
names_lead_alone ps m b _ fits (s.entry {p = p} {d = d} h ext k ent name) =
    bound_at ps m b p d h ∙ ap (λ (o : Kind). bound_by o ps m b d.name) ext ∙ ap proc_or_none (entry_is ps fits d.name k ent name)
names_lead_alone ps m b _ fits (s.supplied {k = i} {p = p} {d = d} h svc name) =
    bound_at ps m b p d h ∙ ap (λ (o : Kind). bound_by o ps m b d.name) svc ∙ ap (λ (j : ℕ). brick 0 j) (number_of_name i d.name name)
