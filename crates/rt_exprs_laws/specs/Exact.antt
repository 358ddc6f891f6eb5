-- What is computed of a node, against what holds of it and which faults stand in it.
use Rattle.std.specs.Prelude.{◌≡◌, true, false, Ok, Err}
use Rattle.rt_grammar.specs.declared.at.At.{At}
use Rattle.rt_syntax_exprs.specs.declared.tree.Chain.{Chain}
use Rattle.rt_syntax_exprs.specs.declared.tree.Cond.{Cond}
use Rattle.rt_syntax_exprs.specs.declared.tree.Expr.{Expr}
use Rattle.rt_check_faults.specs.declared.fault.CheckFault.{CheckFault}
use Rattle.rt_check_faults.specs.declared.fault.CheckFault.TheVariants.{Unknown}
use Rattle.rt_exprs.specs.Sights.{Sight}
use Rattle.rt_exprs.specs.Fitting.{FitsBy, Unfit, UnfitAlone, AssignsAs, NotAssigned, AssignsValAs, NotAssignedVal, CallIs, NoCall, TestIs, FaultInTest}
use Rattle.rt_exprs.specs.Judging.{fitted, fitted_alone, target, val_target, alone, tested}
use Rattle.rt_exprs.specs.Modes.{Want}
use Rattle.rt_check_faults.specs.Outcomes.{Outcome, IsLeast, is_unknown, item_of, number_of}

-- two faults of one item and one number
pub record Alike (f g : CheckFault) : Type 0 where
  pub items : item_of f ≡ item_of g
  pub numbers : number_of f ≡ number_of g

-- An outcome says exactly what holds and which fault counts. It is something just where that holds, and a fault just where that counts of
-- those that stand. It is that nothing can be known just where nothing holds and no fault stands.
pub record IsExact {A : Type 0} (outcome : Outcome A) (Holds : A → Type 0) (Stands : CheckFault → Type 0) : Type 0 where
  pub found : (x : A) → Holds x → outcome ≡ Ok x
  pub holds : (x : A) → outcome ≡ Ok x → Holds x
  pub least : (g : CheckFault) → IsLeast Stands g → (f : CheckFault) × (outcome ≡ Err f) × Alike f g
  pub counts : (g : CheckFault) → is_unknown g ≡ false → outcome ≡ Err g → IsLeast Stands g
  pub hidden : ((x : A) → Holds x → ⊥) → ((g : CheckFault) → Stands g → ⊥) → outcome ≡ Err Unknown
  pub none_stands : outcome ≡ Err Unknown → (g : CheckFault) → Stands g → ⊥

-- Of an expression where a mode is wanted, of the target of an assignment and of VAL, of a chain that stands alone, and of a condition what
-- is computed is exact.
abbrev pub ExpressionsAreExact : Type 0
ExpressionsAreExact = (s : Sight) (e : Expr) (w : Want) → IsExact (fitted s e w) (FitsBy s e w) (Unfit s e w)

abbrev pub TargetsAreExact : Type 0
TargetsAreExact = (s : Sight) (c : Chain) → IsExact (target s c) (AssignsAs s c) (NotAssigned s c)

abbrev pub ValTargetsAreExact : Type 0
ValTargetsAreExact = (s : Sight) (at : At) (c : Chain) → IsExact (val_target s at c) (AssignsValAs s at c) (NotAssignedVal s at c)

abbrev pub CallsAreExact : Type 0
CallsAreExact = (s : Sight) (c : Chain) → IsExact (alone s c) (CallIs s c) (NoCall s c)

abbrev pub TestsAreExact : Type 0
TestsAreExact = (s : Sight) (c : Cond) → IsExact (tested s c) (TestIs s c) (FaultInTest s c)

-- The same of an expression that is judged by itself, where no mode is known to be wanted: its fault counts of those that stand in it by
-- itself, or none stands.
pub record IsLeastAlone (s : Sight) (e : Expr) : Type 0 where
  pub counts : is_unknown (fitted_alone s e) ≡ false → IsLeast (UnfitAlone s e) (fitted_alone s e)
  pub none_stands : is_unknown (fitted_alone s e) ≡ true → (g : CheckFault) → UnfitAlone s e g → ⊥

abbrev pub AloneIsExact : Type 0
AloneIsExact = (s : Sight) (e : Expr) → IsLeastAlone s e
