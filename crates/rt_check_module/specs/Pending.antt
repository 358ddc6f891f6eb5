-- What is still to be made of starts for which nothing is written, and what is made of it.
use Rattle.std.specs.Prelude.{◌≡◌, List, [], ◌∷◌, take, drop}
use Rattle.rt_modes.specs.declared.mode.RecordDef.{RecordDef}
use Rattle.rt_tree_nodes.specs.declared.brick.DataStart.{DataStart}
use Rattle.rt_tree_nodes.specs.declared.brick.DataStart.TheVariants as start
use Rattle.rt_check_module.specs.declared.unwritten.Pending.{Pending}
use Rattle.rt_check_module.specs.declared.unwritten.Pending.TheVariants as pending
use Rattle.rt_check_module.specs.Defaults.{record_made}

module _ (records : List RecordDef) where
  -- what was made before, the last first, and one more
  abbrev pub step : Pending → List DataStart → List DataStart
  step pending.Zero made = start.Number 0 ∷ made
  step (pending.Record r levels) made = record_made records levels r ∷ made
  step (pending.Parts n) made = start.List (take n made) ∷ drop n made

  -- the last of a stack comes first
  abbrev pub finish : List Pending → List DataStart → List DataStart
  finish [] made = made
  finish (p ∷ ps) made = step p (finish ps made)

-- it makes one start
abbrev pub Makes : Pending → (List RecordDef → DataStart) → Type 0
Makes p value = (records : List RecordDef) (made : List DataStart) → step records p made ≡ value records ∷ made

-- what a stack has more than another makes one start
abbrev pub Plans : List Pending → List Pending → (List RecordDef → DataStart) → Type 0
Plans before after value = (records : List RecordDef) (made : List DataStart) → finish records after made ≡ finish records before (value records ∷ made)
