-- What a name in a start names, and where its selectors lead (BS 5904, starts).
use Rattle.std.specs.Prelude.{ℕ, ◌-◌, ◌==◌, ◌&&◌, nat_le, Bool, true, false, if◌then◌else◌, List, [], ◌∷◌, Option, Some, None}
use Rattle.rt_grammar.specs.declared.at.At.{At}
use Rattle.rt_grammar.specs.declared.at.Ident.{Ident}
use Rattle.rt_bricks.specs.declared.tree.Selector.{Selector}
use Rattle.rt_bricks.specs.declared.tree.Selector.TheVariants as selector
use Rattle.rt_modes.specs.declared.mode.Mode.{Mode, out-Mode}
use Rattle.rt_modes.specs.declared.mode.Mode.TheOpen.{Mode-F}
use Rattle.rt_modes.specs.declared.mode.RecordDef.{RecordDef}
use Rattle.rt_tree_nodes.specs.declared.brick.DataStart.{DataStart}
use Rattle.rt_tree_nodes.specs.declared.brick.DataStart.TheVariants as start
use Rattle.rt_tree_nodes.specs.Scopes.{same}
use Rattle.rt_check_faults.specs.declared.fault.CheckFault.{CheckFault}
use Rattle.rt_check_faults.specs.declared.fault.CheckFault.TheVariants as fault
use Rattle.rt_exprs.specs.declared.scope.Meaning.{Meaning}
use Rattle.rt_exprs.specs.declared.scope.Meaning.TheVariants as meaning
use Rattle.rt_exprs.specs.Operands.{first_field, is_label}
use Rattle.rt_tree.specs.Modules.{place_starts}
use Rattle.rt_check_module.specs.declared.places.Found.{Found as Seen}
use Rattle.rt_check_module.specs.declared.places.Found.TheVariants as seen
use Rattle.rt_check_module.specs.declared.places.Reached.{Reached as SeenReached}
use Rattle.rt_check_module.specs.declared.places.Reached.TheVariants as seen_reached
use Rattle.rt_check_module.specs.declared.places.Step.{Step as SeenStep}
use Rattle.rt_check_module.specs.declared.places.Step.TheVariants as seen_step

-- ---- selectors

-- Where a selector leads from a place of a mode: to a field or an element, by its number from 0 and its mode; to a field that
-- the record hasn't; to a field whose mode can't be known; or nowhere.
pub data Step : Type 0 where
  leads : ℕ → Mode → Step
  lost : CheckFault → Step
  hidden : Step
  nowhere : Step

-- an element counts from 1 to the length
abbrev pub element : ℕ → Mode-F Mode → Step
element k (Mode-F.Array n m) = if nat_le 1 k && nat_le k n then leads (k - 1) m else nowhere
element k _ = nowhere

abbrev pub leads_unless : Bool → ℕ → Mode → Step
leads_unless true k m = hidden
leads_unless false k m = leads k m

abbrev pub field_by : At → Option (ℕ × Mode) → Step
field_by at None = lost (fault.UnknownName at)
field_by at (Some x) = leads_unless (is_label (out-Mode x.1)) x.0 x.1

-- Where selectors lead: to a place of a mode, to a field that a record hasn't, to one that can't be known, or nowhere.
pub data Reached : Type 0 where
  place : Mode → Reached
  unknown : CheckFault → Reached
  unseen : Reached
  no_place : Reached

abbrev pub on : Step → (Mode → Reached) → Reached
on (leads k m) go = go m
on (lost f) go = unknown f
on hidden go = unseen
on nowhere go = no_place

abbrev pub passed : Step → (Mode → List ℕ) → List ℕ
passed (leads k m) go = k ∷ go m
passed _ go = []

module _ (records : List RecordDef) where
  abbrev pub field : Ident → Mode-F Mode → Step
  field i (Mode-F.Record r) = field_by i.at (first_field records r i.name)
  field i _ = nowhere

  abbrev pub step : Selector → Mode → Step
  step (selector.Dot i at) m = field i (out-Mode m)
  step (selector.Subscript p) m = element p.number (out-Mode m)

  abbrev pub along : List Selector → Mode → Reached
  along [] m = place m
  along (s ∷ ss) m = on (step s m) (along ss)

  -- the numbers of the fields and elements on the way
  abbrev pub path : List Selector → Mode → List ℕ
  path [] m = []
  path (s ∷ ss) m = passed (step s m) (path ss)

-- ---- names

-- What a name with selectors is in a start: a name that is unknown, or that may not be used, by the fault that stands there; what
-- can't be known; a procedure brick; a place of an item that all tasks share, by the numbers of brick and item, the item's mode and
-- the place's; a place of SVC data, by its mode; or something else.
pub data Found : Type 0 where
  unfit : CheckFault → Found
  not_known : Found
  procedure : ℕ → Mode → Found
  shared : ℕ → ℕ → Mode → Mode → Found
  private : Mode → Found
  other : Found

abbrev pub shared_by : ℕ → ℕ → Mode → Reached → Found
shared_by b i from (place m) = shared b i from m
shared_by b i from (unknown f) = unfit f
shared_by b i from unseen = not_known
shared_by b i from no_place = other

abbrev pub private_by : Reached → Found
private_by (place m) = private m
private_by (unknown f) = unfit f
private_by unseen = not_known
private_by no_place = other

abbrev pub by_itself : List Selector → Found → Found
by_itself [] f = f
by_itself (s ∷ ss) f = other

-- the use of ERL, item 0 of the task's own data, is left out
abbrev pub supplied : At → ℕ → Found → Found
supplied at k f = if k == 0 then unfit (fault.LeftOut 2 at) else f

abbrev pub found : List RecordDef → At → List Selector → Option Meaning → Found
found records at ss None = unfit (fault.UnknownName at)
found records at ss (Some meaning.Unknown) = not_known
found records at ss (Some meaning.UnknownProc) = by_itself ss not_known
found records at ss (Some (meaning.Proc b m)) = by_itself ss (procedure b m)
found records at ss (Some (meaning.Item b i m)) = shared_by b i m (along records ss m)
found records at ss (Some (meaning.SvcItem b i m)) = private_by (along records ss m)
found records at ss (Some (meaning.Svc k m)) = supplied at k (private_by (along records ss m))
found records at ss (Some _) = other

-- ---- what is found, where a mode is wanted

abbrev pub unfit_faults : Found → List CheckFault
unfit_faults (unfit f) = f ∷ []
unfit_faults _ = []

-- whether it starts an item of the mode; what can't be known may start any
abbrev pub place_fits : Found → Mode → Bool
place_fits (procedure b m) w = same w m
place_fits (shared b i from m) w = place_starts m (out-Mode w)
place_fits not_known w = true
place_fits _ w = false

-- a place of a task's own data whose reference would be taken
abbrev pub private_faults : At → Found → Mode → List CheckFault
private_faults at (private m) w = if place_starts m (out-Mode w) then fault.RefOfLocal at ∷ [] else []
private_faults at _ w = []

-- what it is where it starts an item
abbrev pub place_made : List RecordDef → List Selector → Found → DataStart
place_made records ss (procedure b m) = start.Proc b
place_made records ss (shared b i from m) = start.Place b i (path records ss from)
place_made records ss _ = start.Number 0

-- ---- what the program's values stand for

abbrev pub step_of : SeenStep → Step
step_of (seen_step.Leads k m) = leads k m.now
step_of (seen_step.Lost f) = lost f
step_of seen_step.Hidden = hidden
step_of seen_step.Nowhere = nowhere

abbrev pub reached_of : SeenReached → Reached
reached_of (seen_reached.Place m) = place m.now
reached_of (seen_reached.Unknown f) = unknown f
reached_of seen_reached.Hidden = unseen
reached_of seen_reached.NoPlace = no_place

abbrev pub found_of : Seen → Found
found_of (seen.Unfit f) = unfit f
found_of seen.Hidden = not_known
found_of (seen.Procedure b m) = procedure b m.now
found_of (seen.Shared b i from m) = shared b i from.now m.now
found_of (seen.Private m) = private m.now
found_of seen.Other = other
