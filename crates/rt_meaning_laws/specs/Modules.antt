-- What a system asks of its modules for its stores to stay typed, and the law of all its runs.
use Rattle.std.specs.Prelude.{◌≡◌, ℕ, true, List, [], ◌∷◌, Option, Some}
use Rattle.rt_modes.specs.declared.mode.Mode.{Mode, out-Mode}
use Rattle.rt_modes.specs.declared.mode.Mode.TheOpen.{Mode-F}
use Rattle.rt_tree_nodes.specs.declared.brick.Brick.{Brick}
use Rattle.rt_tree_nodes.specs.declared.brick.BrickSort.TheVariants as sort
use Rattle.rt_tree_nodes.specs.declared.brick.ModuleParts.{ModuleParts}
use Rattle.rt_tree_nodes.specs.declared.brick.ProcBody.{ProcBody}
use Rattle.rt_tree.specs.Modules.{is_here, every_node_fits}
use Rattle.rt_tree.specs.Stored.{System, HasBrick, module_of}
use Rattle.rt_tree.specs.Within.{tree_of}
use Rattle.rt_work_state.specs.Items.{Item, Leave, from_label}
use Rattle.rt_tree.specs.Opened.{IsTable}
use Rattle.rt_meaning_laws.specs.Trees.{Started}
use Rattle.rt_meaning_laws.specs.Named.{any_name, SeqNamed}
use Rattle.rt_meaning_laws.specs.Starting.{NumbersFit}
use Rattle.rt_meaning_laws.specs.Systems.{at_start, site_of, FullDataTell}
use Rattle.rt_resolve.specs.Matching.{Matched}

-- A procedure names each local only where it has a value on every way there, and goes to labels that stand in it.
pub record BodyNamed (p : ModuleParts) (b : ProcBody) (parameters : List Mode) (answer : Option Mode) : Type 0 where
  pub at_label : ℕ → Option Started
  pub named : SeqNamed any_name at_label (at_start (site_of p b answer at_label) parameters) (tree_of p b)
  pub labels : (l : ℕ) (k : Started) → at_label l ≡ Some k → (todo : List Item) × (from_label l (tree_of p b) (Leave ∷ []) ≡ Some todo)

-- Every node of each module fits, its procedures name locals where these have a value, and its numbers are those of its types;
-- the names of its records can be told apart; the modules match, and full modes of data bricks tell their items.
pub record ModulesFit (ps : System) : Type 0 where
  pub nodes : (m : ℕ) {p : ModuleParts} → module_of ps m ≡ Some p → every_node_fits p ≡ true
  pub numbers : (m : ℕ) (p : ModuleParts) → module_of ps m ≡ Some p → NumbersFit p
  pub named : {m b : ℕ} {p : ModuleParts} {d : Brick} → HasBrick ps m b p d → is_here d.kind ≡ true
      → (w : Mode) (body : ProcBody) (ws : List Mode) (o : Option Mode) → d.sort ≡ sort.Proc w (Some body) → out-Mode w ≡ Mode-F.Proc ws o → BodyNamed p body ws o
  pub matched : Matched ps
  pub tables : (m : ℕ) {p : ModuleParts} → module_of ps m ≡ Some p → IsTable p.modes
  pub data_modes : FullDataTell ps
