-- Where the run of a system begins: which roots a task may have, and which numbers the starts of data may have.
use Rattle.std.specs.Prelude.{◌≡◌, ◌⊎◌, ℕ, ◌<◌, List, [], ◌∷◌, map, Option, Some, None, slice_get}
use Rattle.std.specs.List.{AllByRecursion, Contains}
use Rattle.rt_modes.specs.declared.mode.Field.{Field}
use Rattle.rt_modes.specs.FullMode.{joined}
use Rattle.rt_modes.specs.declared.mode.Mode.{Mode, out-Mode}
use Rattle.rt_modes.specs.declared.mode.Mode.TheOpen.{Mode-F}
use Rattle.rt_tree_nodes.specs.declared.brick.Brick.{Brick}
use Rattle.rt_tree_nodes.specs.declared.brick.BrickSort.TheVariants as sort
use Rattle.rt_tree_nodes.specs.declared.brick.DataStart.{DataStart}
use Rattle.rt_tree_nodes.specs.declared.brick.DataStart.TheFolds.{fold-DataStart}
use Rattle.rt_tree_nodes.specs.declared.brick.DataStart.TheOpen.{DataStart-F}
use Rattle.rt_tree_nodes.specs.declared.brick.Kind.TheVariants as kind
use Rattle.rt_tree_nodes.specs.declared.brick.ModuleParts.{ModuleParts}
use Rattle.rt_tree_nodes.specs.declared.brick.ProcBody.{ProcBody}
use Rattle.rt_tree_nodes.specs.declared.store.Proc.{Proc}
use Rattle.rt_tree.specs.Stored.{System, HasBrick, brick}
use Rattle.rt_rules.specs.Laws.{CanStart}
use Rattle.rt_meaning.specs.declared.begin.SourceTask.{SourceTask}
use Rattle.rt_meaning.specs.Roots.{root_of, priorities}
use Rattle.rt_meaning_laws.specs.Slots.{IsInt}

-- a root is an ENT procedure of mode PROC() or PROC() INT
pub record IsRoot (ps : System) (f : Proc) : Type 0 where
  pub home : ℕ
  pub number : ℕ
  pub parts : ModuleParts
  pub brick_is : Brick
  pub has : HasBrick ps home number parts brick_is
  pub enters : brick_is.kind ≡ kind.Ent
  pub mode : Mode
  pub body : Option ProcBody
  pub sort_is : brick_is.sort ≡ sort.Proc mode body
  pub opens : (out-Mode mode ≡ Mode-F.Proc [] None) ⊎ ((i : Mode) × (out-Mode mode ≡ Mode-F.Proc [] (Some i)) × IsInt i)
  pub is : f ≡ brick home number

-- the roots of all tasks, and their priorities
pub record TasksMatch (ps : System) (ts : List SourceTask) : Type 0 where
  pub roots : AllByRecursion (λ t. IsRoot ps (root_of t)) ts
  pub can_start : CanStart (priorities ts)

-- ---- the numbers of starts and strings

abbrev pub one_number : DataStart-F (List ℕ) → List ℕ
one_number (DataStart-F.Number n) = n ∷ []
one_number (DataStart-F.List xs) = joined xs
one_number _ = []

abbrev pub numbers_in : DataStart → List ℕ
numbers_in = fold-DataStart (List ℕ) one_number

-- Each number of a module's starts is a word, and each byte of its strings a byte. The types of the nodes have no others.
pub record NumbersFit (p : ModuleParts) : Type 0 where
  pub starts : (b : ℕ) (d : Brick) (fs : List Field) (ss : List DataStart) → slice_get p.bricks b ≡ Some d → d.sort ≡ sort.Data fs ss → (n : ℕ) → Contains (joined (map numbers_in ss)) n → n < 65536
  pub bytes : (k : ℕ) (text : List ℕ) → slice_get p.strings k ≡ Some text → AllByRecursion (λ b. b < 256) text
