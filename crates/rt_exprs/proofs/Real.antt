-- What is wrong with a name or a value is a fault, and not what can't be known.
use Rattle.std.proofs.Common.{◌≡◌, Bool, true, false, Option, Some, None, Err, refl}
use Rattle.std.specs.Prelude.{if◌then◌else◌}
use Rattle.rt_grammar.specs.declared.at.At.{At}
use Rattle.rt_modes.specs.declared.mode.Mode.{Mode}
use Rattle.rt_tree_nodes.specs.declared.value.Place.{Place}
use Rattle.rt_tree_nodes.specs.declared.value.Value.{Value}
use Rattle.rt_tree_nodes.specs.declared.value.Value.TheVariants as values
use Rattle.rt_check_faults.specs.declared.fault.CheckFault.{CheckFault}
use Rattle.rt_check_faults.specs.declared.fault.CheckFault.TheVariants as fault
use Rattle.rt_exprs.specs.declared.operand.Standing.{Standing}
use Rattle.rt_exprs.specs.declared.operand.Standing.TheVariants as standing
use Rattle.rt_exprs.specs.Modes.{Want, becomes}
use Rattle.rt_check_faults.specs.Outcomes.{is_unknown, or_fault}
use Rattle.rt_exprs.specs.Operands.{Is, number, text, brick, place, loop, result, computed, done, Found, suits, suits_by, refer, wants_reference}

wrong_real : {A : Type 0} (at : At) (o : Option A) (g : CheckFault) → or_fault (fault.WrongMode at) o ≡ Err g → is_unknown g ≡ false
wrong_real at None g e = let is : fault.WrongMode at ≡ g = cc in rw (← is) refl
wrong_real at (Some x) g e = absurd cc

refer_real : (at : At) (p : Place) (st : Standing) (g : CheckFault) → refer at p st ≡ Err g → is_unknown g ≡ false
refer_real at p standing.Shared g e = absurd cc
refer_real at p standing.Private g e = let is : fault.RefOfLocal at ≡ g = cc in rw (← is) refl

place_real : (at : At) (p : Place) (m : Mode) (st : Standing) (w : Want) (c : Bool) (g : CheckFault) → (if c then refer at p st else or_fault (fault.WrongMode at) (becomes m w (values.Read p))) ≡ Err g → is_unknown g ≡ false
place_real at p m st w true g e = refer_real at p st g e
place_real at p m st w false g e = wrong_real at (becomes m w (values.Read p)) g e

loop_real : (at : At) (o : Option Value) (c : Bool) (g : CheckFault) → (if c then Err (fault.RefOfLocal at) else or_fault (fault.WrongMode at) o) ≡ Err g → is_unknown g ≡ false
loop_real at o true g e = let is : fault.RefOfLocal at ≡ g = cc in rw (← is) refl
loop_real at o false g e = wrong_real at o g e

by_real : (at : At) (is : Is) (w : Want) (g : CheckFault) → suits_by at is w ≡ Err g → is_unknown g ≡ false
by_real at (number n) w g e = wrong_real at _ g e
by_real at (text n) w g e = wrong_real at _ g e
by_real at (brick k m) w g e = wrong_real at _ g e
by_real at (place p m st) w g e = place_real at p m st w (wants_reference m w) g e
by_real at (loop k) w g e = loop_real at _ _ g e
by_real at (result v m) w g e = wrong_real at _ g e
by_real at (computed v b) w g e = wrong_real at _ g e
by_real at (done v) w g e = let is : fault.WrongMode at ≡ g = cc in rw (← is) refl

pub suits_real : (f : Found) (w : Want) (g : CheckFault) → suits f w ≡ Err g → is_unknown g ≡ false
suits_real f w g e = by_real f.at f.is w g e
