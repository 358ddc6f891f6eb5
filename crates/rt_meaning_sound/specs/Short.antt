-- Modes in which each length of an array is a word of 16 bits.
use Rattle.std.specs.Prelude.{◌≡◌, ℕ, Bool, true, ◌&&◌, Some, slice_get}
use Rattle.rt_modes.specs.declared.mode.Mode.{Mode}
use Rattle.rt_modes.specs.declared.mode.Mode.TheFolds.{fold-Mode}
use Rattle.rt_modes.specs.declared.mode.Mode.TheOpen.{Mode-F}
use Rattle.rt_tree_nodes.specs.declared.brick.Local.TheVariants as local
use Rattle.rt_tree_nodes.specs.Scopes.{Scope, field_mode, svc_mode, proc_mode}
use Rattle.rt_tree_nodes.specs.Typing.{Found, item_found, mode_at}
use Rattle.rt_bricks_laws.specs.Bodies.{all, true_if}
use Rattle.rt_bricks_laws.specs.Numbers.{is_word}

-- the lengths of the mode itself, and those inside it
abbrev pub short_by : Mode-F Bool → Bool
short_by (Mode-F.Ref b) = b
short_by (Mode-F.RefArray b) = b
short_by (Mode-F.Array n b) = is_word n && b
short_by (Mode-F.Proc bs r) = all bs && true_if r
short_by _ = true

unfoldable pub short : Mode → Bool
short = fold-Mode Bool short_by

-- each length of an array, wherever it stands in the mode, is a word
abbrev pub IsShort : Mode → Type 0
IsShort m = short m ≡ true

-- So it is of all modes of a scope: those of fields, procedures, items, of the task's own data, of parameters and locals.
pub record AllShort (c : Scope) : Type 0 where
  pub fields : (r k : ℕ) (m : Mode) → field_mode c.records r k ≡ Some m → IsShort m
  pub procedures : (b : ℕ) (m : Mode) → proc_mode c.bricks b ≡ Some m → IsShort m
  pub items : (b i : ℕ) (f : Found) → item_found c.bricks b i ≡ Some f → IsShort (mode_at (Some f))
  pub own : (k : ℕ) (m : Mode) → svc_mode c k ≡ Some m → IsShort m
  pub locals : (i : ℕ) (m : Mode) → slice_get c.locals i ≡ Some (local.Variable m) → IsShort m
