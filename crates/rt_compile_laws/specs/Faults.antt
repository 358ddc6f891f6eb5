-- A text has one fault.
use Rattle.std.specs.Prelude.{ℕ, List}
use Rattle.rt_grammar.specs.declared.at.At.{At}
use Rattle.rt_check_faults.specs.declared.fault.CheckFault.{CheckFault}
use Rattle.rt_check_faults.specs.declared.fault.CheckFault.TheVariants as check
use Rattle.rt_compile.specs.declared.fault.CompileFault.{CompileFault}
use Rattle.rt_compile.specs.declared.fault.CompileFault.TheVariants.{Memory, Check, Beyond}
use Rattle.rt_compile.specs.Texts.{IsFault}

-- One fault. Of parts of the language that are left out at one item, it is free by which form it is told.
pub data AreOne : CompileFault → CompileFault → Type 0 where
  same : {f : CompileFault} → AreOne f f
  forms : {j k : ℕ} {at : At} → AreOne (Check (check.LeftOut j at)) (Check (check.LeftOut k at))

-- the fault has a place
abbrev pub HasPlace : CheckFault → Type 0
HasPlace check.Memory = ⊥
HasPlace check.Unknown = ⊥
HasPlace _ = Unit {0}

-- it is a fault of the text, and no want of memory
abbrev pub IsOfText : CompileFault → Type 0
IsOfText Memory = ⊥
IsOfText Beyond = ⊥
IsOfText (Check f) = HasPlace f
IsOfText _ = Unit {0}

abbrev pub TextsHaveOneFault : Type 0
TextsHaveOneFault = (text : List ℕ) (f g : CompileFault) → IsFault text f → IsFault text g → IsOfText f → IsOfText g → AreOne f g
