-- Fields, parameters, and items of imported data: names that are declared with a mode.
use Rattle.std.specs.Prelude.{Bool, true, false, List, [], ◌∷◌, ◌++◌, map}
use Rattle.rt_grammar.specs.declared.at.Ident.{Ident}
use Rattle.rt_bricks.specs.declared.tree.Fields.{Fields}
use Rattle.rt_modes.specs.declared.mode.Field.{Field}
use Rattle.rt_modes.specs.declared.mode.Mode.{Mode}
use Rattle.rt_modes.specs.declared.mode.Mode.TheVariants as mode
use Rattle.rt_check_faults.specs.declared.fault.CheckFault.{CheckFault}
use Rattle.rt_check_faults.specs.declared.fault.CheckFault.TheVariants as fault
use Rattle.rt_check_declared.specs.declared.site.Site.{Site}
use Rattle.rt_check_declared.specs.declared.written.Resolved.{Resolved}
use Rattle.rt_check_declared.specs.declared.written.Resolved.TheVariants as resolved
use Rattle.rt_check_declared.specs.Verdicts.{Verdict, fit, unfit}
use Rattle.rt_check_declared.specs.Written.{Names, written}

-- want of memory is no fault of a module
abbrev pub is_memory : CheckFault → Bool
is_memory fault.Memory = true
is_memory _ = false

abbrev pub fields_of_mode : Mode → List Ident → List Field
fields_of_mode m ids = map (λ i. record { name = i.name; mode = m }) ids

-- The fields of these names. Where their mode is unfit it can't be known; LABEL, which no field may have, stands for that.
abbrev pub fields_by : Verdict Resolved → List Ident → List Field
fields_by (fit (resolved.Mode m)) ids = fields_of_mode m ids
fields_by (fit resolved.BadLength) ids = fields_of_mode mode.Label ids
fields_by (unfit f fs) ids = fields_of_mode mode.Label ids

-- the faults of their mode: an array whose length is out of range is a fault at each name
abbrev pub faults_by : Verdict Resolved → List Ident → List CheckFault
faults_by (fit (resolved.Mode m)) ids = []
faults_by (fit resolved.BadLength) ids = map (λ i. fault.BadStart i.at) ids
faults_by (unfit f fs) ids = f ∷ fs

module _ (names : Names) (site : Site) where
  -- the fields, each with its mode as far as it can be known
  abbrev pub written_fields : List Fields → List Field
  written_fields [] = []
  written_fields (g ∷ gs) = fields_by (written names g.mode site) g.names ++ written_fields gs

  -- the faults of all modes
  abbrev pub mode_faults : List Fields → List CheckFault
  mode_faults [] = []
  mode_faults (g ∷ gs) = faults_by (written names g.mode site) g.names ++ mode_faults gs

-- all names, in their order
abbrev pub idents : List Fields → List Ident
idents [] = []
idents (g ∷ gs) = g.names ++ idents gs
