-- Systems of modules that are matched, whose nodes fit. What a system asks of its modules for its stores to stay typed.
use Rattle.std.specs.Prelude.{◌≡◌, ◌⊎◌, ℕ, nat_lt, Bool, true, false, ◌||◌, List, [], ◌∷◌, length, Option, Some, None}
use Rattle.rt_modes.specs.declared.mode.Field.{Field}
use Rattle.rt_modes.specs.declared.mode.Mode.{Mode, out-Mode}
use Rattle.rt_modes.specs.declared.mode.Mode.TheOpen.{Mode-F}
use Rattle.rt_modes.specs.FullMode.{FullData}
use Rattle.rt_tree_nodes.specs.declared.brick.Brick.{Brick}
use Rattle.rt_tree_nodes.specs.declared.brick.BrickSort.TheVariants as sort
use Rattle.rt_tree_nodes.specs.declared.brick.DataStart.{DataStart}
use Rattle.rt_tree_nodes.specs.declared.brick.Local.{Local}
use Rattle.rt_tree_nodes.specs.declared.brick.Local.TheVariants as local
use Rattle.rt_tree_nodes.specs.declared.brick.ModuleParts.{ModuleParts}
use Rattle.rt_tree_nodes.specs.declared.brick.ProcBody.{ProcBody}
use Rattle.rt_tree_nodes.specs.Scopes.{is_svc}
use Rattle.rt_tree_nodes.specs.Tree.{Seq}
use Rattle.rt_tree.specs.Modules.{is_here, every_node_fits}
use Rattle.rt_tree.specs.Statements.{starts_at_zero}
use Rattle.rt_tree.specs.Stored.{System, HasBrick, module_of}
use Rattle.rt_tree.specs.Within.{tree_of}
use Rattle.rt_work_state.specs.Items.{Item, Leave, from_label}
use Rattle.rt_tree.specs.Opened.{FieldsSame}
use Rattle.rt_meaning_laws.specs.Levels.{FullModesTell}
use Rattle.rt_meaning_laws.specs.Trees.{Started, Site, local_mode, SeqFits, ends}
use Rattle.rt_resolve.specs.Matching.{Matched}

-- ---- bodies

-- the first locals are the parameters
abbrev pub FirstAre : List Mode → List Local → Type 0
FirstAre [] ls = Unit {0}
FirstAre (m ∷ ms) (local.Variable n ∷ ls) = (m ≡ n) × FirstAre ms ls
FirstAre _ _ = ⊥

abbrev pub is_plain : Option Mode → Bool
is_plain None = false
is_plain (Some m) = starts_at_zero (out-Mode m)

-- at its start the parameters of a procedure have a value, and so has each BYTE, INT and FRAC, which is 0
abbrev pub at_start : Site → List Mode → Started
at_start x parameters i = nat_lt i (length parameters) || is_plain (local_mode x i)

-- The plain tree of a procedure fits its parameters, its locals and its result.
pub record BodyFits (x : Site) (parameters : List Mode) (body : Seq) : Type 0 where
  pub firsts : FirstAre parameters x.locals
  pub fits : SeqFits x (at_start x parameters) body
  pub closes : (ends body ≡ true) ⊎ (x.answer ≡ None)
  pub labels : (l : ℕ) (k : Started) → x.at_label l ≡ Some k → (todo : List Item) × (from_label l body (Leave ∷ []) ≡ Some todo)

abbrev pub site_of : ModuleParts → ProcBody → Option Mode → (ℕ → Option Started) → Site
site_of p b answer labels = record { parts = p; locals = b.locals; answer = answer; at_label = labels }

abbrev pub ProcedureFits : ModuleParts → Brick → Type 0
ProcedureFits p d = (w : Mode) (b : ProcBody) (ws : List Mode) (o : Option Mode) → d.sort ≡ sort.Proc w (Some b) → out-Mode w ≡ Mode-F.Proc ws o → (labels : ℕ → Option Started) × BodyFits (site_of p b o labels) ws (tree_of p b)

-- ---- links

-- Full modes of data bricks say what their items are, whichever two modules of the system they stand in.
abbrev pub FullDataTell : System → Type 0
FullDataTell ps =
    (m b n c : ℕ) (p q : ModuleParts) (d e : Brick) (fs gs : List Field) (ss ts : List DataStart) → HasBrick ps m b p d → d.sort ≡ sort.Data fs ss → is_svc d.kind ≡ false → HasBrick ps n c q e → e.sort ≡ sort.Data gs ts → is_svc e.kind ≡ false
    → FullData p.modes fs ≡ FullData q.modes gs → FieldsSame p.modes q.modes fs gs

-- A system of matched modules whose nodes fit, in whose full modes and data bricks' full modes modes can be told.
pub record SystemFits (ps : System) : Type 0 where
  pub nodes : (m : ℕ) {p : ModuleParts} → module_of ps m ≡ Some p → every_node_fits p ≡ true
  pub bodies : {m b : ℕ} {p : ModuleParts} {d : Brick} → HasBrick ps m b p d → is_here d.kind ≡ true → ProcedureFits p d
  pub matched : Matched ps
  pub modes : FullModesTell ps
  pub data_modes : FullDataTell ps
