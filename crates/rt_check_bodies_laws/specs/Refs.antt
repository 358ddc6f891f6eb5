-- How many REFs stand in a row in the modes that a tree may name.
use Rattle.std.specs.Prelude.{◌≡◌, ℕ, ◌-◌, Bool, true, ◌&&◌, nat_lt, Option, Some, None, slice_get}
use Rattle.rt_modes.specs.declared.mode.Mode.{Mode}
use Rattle.rt_modes.specs.declared.mode.Mode.TheFolds.{fold-Mode}
use Rattle.rt_modes.specs.declared.mode.Mode.TheOpen.{Mode-F}
use Rattle.rt_tree_nodes.specs.declared.brick.Local.TheVariants as local
use Rattle.rt_tree_nodes.specs.Scopes.{Scope, field_mode, svc_mode, proc_mode}
use Rattle.rt_tree_nodes.specs.Typing.{Found, item_found, mode_at}

-- in front of a result there may be eight again
abbrev pub any_few : Option (ℕ → Bool) → Bool
any_few None = true
any_few (Some f) = f 8

-- At most so many REFs in front, and at most eight in a row inside: in the elements of arrays and in results.
abbrev pub few_by : Mode-F (ℕ → Bool) → ℕ → Bool
few_by (Mode-F.Ref f) refs = nat_lt 0 refs && f (refs - 1)
few_by (Mode-F.RefArray f) refs = f 8
few_by (Mode-F.Array n f) refs = f 8
few_by (Mode-F.Proc fs r) refs = any_few r
few_by _ refs = true

unfoldable pub few : Mode → ℕ → Bool
few = fold-Mode (ℕ → Bool) few_by

-- at most eight REFs in a row
abbrev pub FewRefs : Mode → Type 0
FewRefs m = few m 8 ≡ true

-- So it is of all modes of a scope: those of fields, procedures, items, of the task's own data, of parameters and locals.
pub record AllFew (c : Scope) : Type 0 where
  pub fields : (r k : ℕ) (m : Mode) → field_mode c.records r k ≡ Some m → FewRefs m
  pub procedures : (b : ℕ) (m : Mode) → proc_mode c.bricks b ≡ Some m → FewRefs m
  pub items : (b i : ℕ) (f : Found) → item_found c.bricks b i ≡ Some f → FewRefs (mode_at (Some f))
  pub own : (k : ℕ) (m : Mode) → svc_mode c k ≡ Some m → FewRefs m
  pub locals : (i : ℕ) (m : Mode) → slice_get c.locals i ≡ Some (local.Variable m) → FewRefs m
