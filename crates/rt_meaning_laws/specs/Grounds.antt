-- What the work of a procedure rests on: where the numbers of its module lead in the system.
use Rattle.std.specs.Prelude.{◌≡◌, ℕ, ◌<◌, List, length, Option, Some}
use Rattle.std.specs.List.{Contains}
use Rattle.rt_modes.specs.declared.mode.Mode.{Mode, out-Mode}
use Rattle.rt_modes.specs.declared.mode.Mode.TheOpen.{Mode-F}
use Rattle.rt_modes.specs.declared.mode.ModeTable.{ModeTable}
use Rattle.rt_modes.specs.FullMode.{FullMode}
use Rattle.rt_tree_nodes.specs.declared.store.Datum.TheVariants.{Reference}
use Rattle.rt_tree_nodes.specs.declared.store.Location.{Location}
use Rattle.rt_tree_nodes.specs.declared.store.Proc.{Proc}
use Rattle.rt_tree_nodes.specs.Scopes.{faces, field_mode, proc_mode}
use Rattle.rt_tree_nodes.specs.Typing.{Shared, item_found}
use Rattle.rt_tree.specs.Stored.{System, StandsAt, Suits, IsCandidate}
use Rattle.rt_tree.specs.Taken.{taken}
use Rattle.rt_work_state.specs.Items.{Env, item, text}
use Rattle.rt_tree.specs.FullModes.{MayStand}
use Rattle.rt_meaning_laws.specs.Levels.{IsTableOf, FullModesTell}
use Rattle.rt_meaning_laws.specs.Slots.{LeadsTo, IsByte}
use Rattle.rt_meaning_laws.specs.Trees.{Site, table}
use Rattle.rt_meaning_laws.specs.Work.{MayCall}

-- What is so of every system of matched modules.
pub record Sound (ps : System) : Type 0 where
  pub tells : FullModesTell ps
  pub fields : (t : ModeTable) → IsTableOf ps t → (r k : ℕ) (m : Mode) → field_mode t.records r k ≡ Some m → MayStand t m
  -- where a reference leads, a place of such a mode may stand
  pub leads : (t : ModeTable) (m w : Mode) (l : Location) → IsTableOf ps t → MayStand t m → out-Mode m ≡ Mode-F.Ref w → Suits ps t m (Reference l) → LeadsTo ps t w l
  pub elements : (l : Location) (u : ModeTable) (v w : Mode) (n : ℕ) → StandsAt ps l u v → out-Mode v ≡ Mode-F.Array n w → MayStand u w × (n < 65536)
  pub candidates : (full : List ℕ) (f : Proc) → IsCandidate ps full f → MayCall ps full f

-- The numbers of the module of a procedure lead to what its nodes take them for.
pub record Grounds (ps : System) (x : Site) (e : Env) : Type 0 where
  pub known : IsTableOf ps (table x)
  pub items : (b i : ℕ) (m : Mode) → item_found (faces x.parts.bricks) b i ≡ Some (Shared m) → LeadsTo ps (table x) m (item e b i)
  pub texts : (n : ℕ) (m w : Mode) → n < length x.parts.strings → out-Mode m ≡ Mode-F.RefArray w → IsByte w → Suits ps (table x) m (text e n)
  pub procs : (b : ℕ) (w : Mode) → proc_mode (faces x.parts.bricks) b ≡ Some w → (ws : List Mode) × (r : Option Mode) × (out-Mode w ≡ Mode-F.Proc ws r) × MayStand (table x) w × MayCall ps (FullMode (table x) w) (e.leads b)
  pub taken_are : (b : ℕ) (w : Mode) → proc_mode (faces x.parts.bricks) b ≡ Some w → Contains (taken x.parts) b → IsCandidate ps (FullMode (table x) w) (e.leads b)
