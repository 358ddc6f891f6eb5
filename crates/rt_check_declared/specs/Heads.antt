-- What is kept of each MODE while the records are read.
use Rattle.std.specs.Prelude.{ℕ, slice_get, Bool, true, false, List, [], ◌∷◌, map, Option, Some, None, is_none}
use Rattle.rt_grammar.specs.declared.at.At.{At}
use Rattle.rt_check_faults.specs.declared.fault.CheckFault.TheVariants as fault
use Rattle.rt_bricks.specs.declared.tree.RecordMode.{RecordMode}
use Rattle.rt_modes.specs.declared.mode.RecordDef.{RecordDef}
use Rattle.rt_check_faults.specs.declared.fault.CheckFault.{CheckFault}
use Rattle.rt_check_declared.specs.Verdicts.{with_fault, with_faults}
use Rattle.rt_check_declared.specs.Written.{Names}
use Rattle.rt_check_declared.specs.declared.records.Head.{Head}
use Rattle.rt_check_declared.specs.Fields.{idents}
use Rattle.rt_check_declared.specs.Names.{second_fields}
use Rattle.rt_check_declared.specs.Records.{definition, field_faults}

-- the fault that counts of two, where there are any
abbrev pub noted : Option CheckFault → Option CheckFault → Option CheckFault
noted f None = f
noted f (Some g) = with_fault f g

module _ (names : Names) where
  abbrev pub head : RecordMode → Head
  head r = record { at = r.name.at; fields = map (λ i. i.at) (idents r.fields); fault = with_faults None (field_faults names r); second = with_faults None (second_fields r.fields) }

  abbrev pub heads : List RecordMode → List Head
  heads rs = map head rs

  abbrev pub definitions : List RecordMode → List RecordDef
  definitions rs = map (definition names) rs

abbrev pub all_known : List Head → List Bool
all_known hs = map (λ h. is_none h.fault) hs

-- the place of that number, where there is one
abbrev pub place_of : List At → Option ℕ → Option At
place_of places None = None
place_of places (Some i) = slice_get places i

-- the fault of a record as a whole: that it contains itself, else that it is too large
abbrev pub whole : Bool → At → Option At → Option CheckFault
whole true at passing = Some (fault.DeclaredTwice at)
whole false at (Some f) = Some (fault.BadStart f)
whole false at None = None

-- the fault that counts of some more, where there are any
abbrev pub all_noted : Option CheckFault → List (Option CheckFault) → Option CheckFault
all_noted f [] = f
all_noted f (g ∷ gs) = all_noted (noted f g) gs
