-- The starts of a data brick, and the faults that stand in what is written for its items.
use Rattle.std.specs.Prelude.{◌==◌, ◌&&◌, Bool, true, false, List, [], ◌∷◌, ◌++◌, Option, Some, None, drop, length}
use Rattle.rt_bricks.specs.declared.tree.DataItem.{DataItem}
use Rattle.rt_bricks.specs.declared.tree.DataLine.{DataLine}
use Rattle.rt_bricks.specs.declared.tree.Start.{Start}
use Rattle.rt_grammar.specs.declared.at.At.{At}
use Rattle.rt_check_declared.specs.declared.parts.Given.{Given}
use Rattle.rt_check_declared.specs.declared.parts.Given.TheVariants as given
use Rattle.rt_check_declared.specs.declared.parts.Part.{Part}
use Rattle.rt_modes.specs.declared.mode.Mode.{Mode}
use Rattle.rt_modes.specs.declared.mode.RecordDef.{RecordDef}
use Rattle.rt_tree_nodes.specs.declared.brick.DataStart.{DataStart}
use Rattle.rt_tree_nodes.specs.declared.brick.DataStart.TheVariants as start
use Rattle.rt_check_faults.specs.declared.fault.CheckFault.{CheckFault}
use Rattle.rt_check_faults.specs.declared.fault.CheckFault.TheVariants as fault
use Rattle.rt_exprs.specs.Sights.{Sight}
use Rattle.rt_check_module.specs.Defaults.{has_default, default}
use Rattle.rt_check_module.specs.Starts.{Written, written_in}

-- what holds a fault isn't judged itself
abbrev pub or_else : List CheckFault → List CheckFault → List CheckFault
or_else [] other = other
or_else (f ∷ fs) other = f ∷ fs

abbrev pub bad_unless : Bool → At → List CheckFault
bad_unless true at = []
bad_unless false at = fault.BadStart at ∷ []

-- The faults of what is written for an item whose names are all known: places of SVC data whose reference would be taken, else
-- that it doesn't start the item, at the item's name. One copy of a start may be written, and no more.
abbrev pub known_faults : At → Written → Mode → List CheckFault
known_faults at w m = or_else (w.private m) (bad_unless (w.fits m && w.copies == 1) at)

-- Where a name is unknown the declaration isn't judged.
abbrev pub written_faults : At → Written → Mode → List CheckFault
written_faults at w m = or_else w.unknown (known_faults at w m)

module _ (s : Sight) where
  abbrev pub records : List RecordDef
  records = s.records

  abbrev pub unknown_in : Option Start → List CheckFault
  unknown_in None = []
  unknown_in (Some x) = (written_in s x).unknown

  abbrev pub start_faults : At → Option Start → Mode → List CheckFault
  start_faults at None m = bad_unless (has_default records m) at
  start_faults at (Some x) m = written_faults at (written_in s x) m

  -- where the mode can't be known, unknown names are judged alone
  abbrev pub faults_by : At → Option Start → Given → List CheckFault
  faults_by at x (given.Mode m) = start_faults at x m
  faults_by at x given.Unknown = unknown_in x

  abbrev pub items_faults : List DataItem → List Part → List CheckFault
  items_faults [] ps = []
  items_faults (i ∷ is) [] = []
  items_faults (i ∷ is) (p ∷ ps) = faults_by i.name.at i.start p.has ++ items_faults is ps

  -- of the items of a data brick, with what they are declared with
  abbrev pub brick_faults : List DataLine → List Part → List CheckFault
  brick_faults [] ps = []
  brick_faults (l ∷ ls) ps = items_faults l.items ps ++ brick_faults ls (drop (length l.items) ps)

  -- ---- the starts, where no fault stands

  abbrev pub start_of : Option Start → Mode → DataStart
  start_of None m = default records m
  start_of (Some x) m = (written_in s x).made m

  abbrev pub start_by : Option Start → Given → DataStart
  start_by x (given.Mode m) = start_of x m
  start_by x given.Unknown = start.Number 0

  abbrev pub items_starts : List DataItem → List Part → List DataStart
  items_starts [] ps = []
  items_starts (i ∷ is) [] = []
  items_starts (i ∷ is) (p ∷ ps) = start_by i.start p.has ∷ items_starts is ps

  abbrev pub brick_starts : List DataLine → List Part → List DataStart
  brick_starts [] ps = []
  brick_starts (l ∷ ls) ps = items_starts l.items ps ++ brick_starts ls (drop (length l.items) ps)
